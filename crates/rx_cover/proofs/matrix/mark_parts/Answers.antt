use Rattle.std.proofs.Common.{◌∙◌, sym, ap, map, drop, ◌+◌}
use Rattle.rx_typed.specs.PlainTree.{plain-Subpattern, subpatterns_of}
use Rattle.rx_cover.specs.Matrices.{mark_parts, mark_one}
use Rattle.rx_cover.proofs.CellLemmas.{mark_next}
use Rattle.rx_cover.proofs.matrix.mark_parts.Goals as goal

pub loop-part-preserved : goal.loop-part-preserved
loop-part-preserved c =
    ap (λ m. mark_parts m (subpatterns_of (map plain-Subpattern (drop (c.loop-part.part-index + 1) c.args.parts.now))))
    (c.mark_one.ensures ∙ ap (λ b. mark_one c.loop-part.mask.items c.part-item.result.field b) c.pattern_asks.ensures)
    ∙ sym (mark_next c.args.parts.now c.loop-part.part-index c.part-item.result c.loop-part.mask.items c.loop-part-test.true c.part-item.is)
    ∙ c.loop-part.invariant
