use Rattle.std.proofs.Common.{subst, true, map}
use Rattle.rx_typed.specs.PlainTypes.{plain-Ty, declarations}
use Rattle.rx_cover.specs.PlainCells.{plain-Head, plain-Column}
use Rattle.rx_cover.specs.Finding.{Refills}
use Rattle.rx_cover.proofs.MissingLemmas as lemma
use Rattle.rx_cover.proofs.missing.rebuilt.Goals as goal

pub returns-in_ok-finished-in-Ok-true : goal.returns-in_ok-finished-in-Ok-true
returns-in_ok-finished-in-Ok-true c = λ ts s.
    let D = declarations c.args.decls.now.items in
    let us = map plain-Column c.args.columns.now in
    lemma.rebuilt_some D (plain-Ty c.args.ty.now) (plain-Head c.args.head) c.args.mask.now us ts c.args.stack c.refill.new.stack c.refill.new.parts c.in_ok-finished-in-Ok-true.field-0
    (subst (λ l. Refills D c.args.mask.now us ts c.args.stack l c.refill.new.stack c.refill.new.parts true) c.new-parts.ensures
    (subst (λ b. Refills D c.args.mask.now us ts c.args.stack c.new-parts.result c.refill.new.stack c.refill.new.parts b) c.in-Ok-true.field-0-test (c.in-Ok-true.ensures ts s)))
    c.in_ok-finished-in-Ok-true.ensures

pub returns-in-Ok-false : goal.returns-in-Ok-false
returns-in-Ok-false c = λ ts s.
    let D = declarations c.args.decls.now.items in
    let us = map plain-Column c.args.columns.now in
    subst (λ b. Refills D c.args.mask.now us ts c.args.stack c.new-parts.result c.refill.new.stack c.refill.new.parts b) c.in-Ok-false.field-0-test (c.in-Ok-false.ensures ts s)
