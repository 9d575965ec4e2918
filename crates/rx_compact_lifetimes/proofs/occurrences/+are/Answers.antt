use Rattle.rx_compact_lifetimes.proofs.Occurring.{type_here, failed, kept}
use Rattle.rx_compact_lifetimes.proofs.occurrences.+are.Goals as goal

pub are_in_all-returns-then-not-are_in : goal.are_in_all-returns-then-not-are_in
are_in_all-returns-then-not-are_in t c = failed c.are_in.result _ _ _ c.loop-typ.invariant
    (type_here c.args.name.now c.args.types.now c.loop-typ.typ-index c.typ-item.result c.are_in.result c.loop-typ-test.true c.typ-item.is c.are_in.ensures)
    c.if-not-are_in.true

pub are_in_all-loop-typ-preserved : goal.are_in_all-loop-typ-preserved
are_in_all-loop-typ-preserved t c = kept c.are_in.result _ _ _ c.loop-typ.invariant
    (type_here c.args.name.now c.args.types.now c.loop-typ.typ-index c.typ-item.result c.are_in.result c.loop-typ-test.true c.typ-item.is c.are_in.ensures)
    c.if-not-are_in.false
