use Rattle.std.proofs.Common.{subst, true, false}
use Rattle.rx_typed.specs.PlainTypes.{declarations}
use Rattle.rx_cover.specs.PlainCells.{plain-Column}
use Rattle.rx_cover.specs.Finding.{awaited, Begins}
use Rattle.rx_cover.proofs.LeastLemmas.{goes_first, goes_on, goes_nowhere, goes_to_the_end, awaited_push, awaited_less}
use Rattle.rx_cover.proofs.least.write.Goals as goal

pub loop-column-init : goal.loop-column-init
loop-column-init c = goes_first (declarations c.args.decls.now.items) c.args.pending.now c.args.row.now

pub loop-column-smaller : goal.loop-column-smaller
loop-column-smaller c =
    let D = declarations c.args.decls.now.items in
    let t = plain-Column c.in-Some.column in
    let q = subst (λ b. Begins D t c.pop.new.self c.begin_least.new.pending c.loop-column.row c.begin_least.new.row b) c.if-not-branch.false c.in_ok-begin_least.ensures in
    awaited_less D c.requires.finite t q.0 c.loop-column.pending c.pop.new.self c.begin_least.new.pending (awaited_push c.loop-column.pending c.pop.new.self c.in-Some.column c.in-Some.ensures) q.2.awaits

pub loop-column-preserved : goal.loop-column-preserved
loop-column-preserved c =
    let D = declarations c.args.decls.now.items in
    let t = plain-Column c.in-Some.column in
    let q = subst (λ b. Begins D t c.pop.new.self c.begin_least.new.pending c.loop-column.row c.begin_least.new.row b) c.if-not-branch.false c.in_ok-begin_least.ensures in
    goes_on D (awaited c.args.pending.now) c.args.row.now t c.loop-column.pending c.pop.new.self c.loop-column.row (awaited_push c.loop-column.pending c.pop.new.self c.in-Some.column c.in-Some.ensures)
    c.loop-column.invariant q.0 c.begin_least.new.pending c.begin_least.new.row q.1 q.2

pub returns-then-not-branch : goal.returns-then-not-branch
returns-then-not-branch c =
    let D = declarations c.args.decls.now.items in
    let t = plain-Column c.in-Some.column in
    goes_nowhere D (awaited c.args.pending.now) c.args.row.now t c.loop-column.pending c.pop.new.self c.loop-column.row (awaited_push c.loop-column.pending c.pop.new.self c.in-Some.column c.in-Some.ensures)
    c.loop-column.invariant c.begin_least.new.row
    (subst (λ b. Begins D t c.pop.new.self c.begin_least.new.pending c.loop-column.row c.begin_least.new.row b) c.if-not-branch.true c.in_ok-begin_least.ensures)

pub returns : goal.returns
returns c = goes_to_the_end (declarations c.args.decls.now.items) (awaited c.args.pending.now) c.args.row.now c.loop-column.pending c.loop-column.row c.loop-column.invariant c.in_default.ensures.0
