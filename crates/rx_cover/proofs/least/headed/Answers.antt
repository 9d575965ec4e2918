use Rattle.std.proofs.Common.{subst, sym, Some, true, false}
use Rattle.rx_typed.specs.PlainTypes.{plain-Ty, declarations}
use Rattle.rx_cover.specs.PlainCells.{plain-Head}
use Rattle.rx_cover.specs.PlainValue.{plain-Value}
use Rattle.rx_cover.specs.Finding.{awaited, Writes, Headed}
use Rattle.rx_cover.proofs.LeastLemmas.{all_written, none_written}
use Rattle.rx_cover.proofs.least.headed.Goals as goal

pub of_nodes-requires : goal.of_nodes-requires
of_nodes-requires c =
    let D = declarations c.args.decls.now.items in
    (all_written D (plain-Ty c.args.ty.now) (plain-Head c.args.head) c.new-pending.result c.begin.new.pending c.new-row.result c.begin.new.row c.write.new.row c.new-pending.ensures c.new-row.ensures c.requires.fits c.in_ok-begin.ensures
    (subst (λ b. Writes D (awaited c.begin.new.pending) c.begin.new.row c.write.new.row b) c.if-branch.true c.in_ok-write.ensures)).whole

pub returns-then-branch : goal.returns-then-branch
returns-then-branch c =
    let D = declarations c.args.decls.now.items in
    let t = plain-Ty c.args.ty.now in
    let h = plain-Head c.args.head in
    subst (λ v. Headed D t h (Some (plain-Value v))) (sym c.of_nodes.ensures)
    (all_written D t h c.new-pending.result c.begin.new.pending c.new-row.result c.begin.new.row c.write.new.row c.new-pending.ensures c.new-row.ensures c.requires.fits c.in_ok-begin.ensures
    (subst (λ b. Writes D (awaited c.begin.new.pending) c.begin.new.row c.write.new.row b) c.if-branch.true c.in_ok-write.ensures)).headed

pub returns-else-branch : goal.returns-else-branch
returns-else-branch c =
    let D = declarations c.args.decls.now.items in
    none_written D (plain-Ty c.args.ty.now) (plain-Head c.args.head) c.new-pending.result c.begin.new.pending c.new-row.result c.begin.new.row c.write.new.row c.new-pending.ensures c.in_ok-begin.ensures
    (subst (λ b. Writes D (awaited c.begin.new.pending) c.begin.new.row c.write.new.row b) c.if-branch.false c.in_ok-write.ensures)
