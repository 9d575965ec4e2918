use Rattle.std.proofs.Common.{◌∙◌, sym}
use Rattle.rx_cover.proofs.CellLemmas.{part_found, part_later}
use Rattle.rx_cover.proofs.heads.part_among.Goals as goal

pub returns-then-part-number : goal.returns-then-part-number
returns-then-part-number c = sym (part_found c.args.parts.now c.loop-part.part-index c.args.number c.part-item.result c.loop-part-test.true c.part-item.is c.if-part-number.true) ∙ c.loop-part.invariant

pub loop-part-preserved : goal.loop-part-preserved
loop-part-preserved c = sym (part_later c.args.parts.now c.loop-part.part-index c.args.number c.part-item.result c.loop-part-test.true c.part-item.is c.if-part-number.false) ∙ c.loop-part.invariant
