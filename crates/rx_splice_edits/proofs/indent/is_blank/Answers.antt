use Rattle.std.proofs.Common.{ap, ◌∙◌, arith}
use Rattle.std.specs.List.{list_all}
use Rattle.rx_splice_laws.specs.Indent.{is_level}
use Rattle.rx_splice_edits.proofs.LineLemmas.{blank_step, blank_stop, blank_end}
use Rattle.rx_splice_edits.proofs.indent.is_blank.Goals as goal

pub loop-byte-preserved : goal.loop-byte-preserved
loop-byte-preserved c = blank_step _ _ c.is_level.result _ c.loop-byte-test.true c.is_level.ensures c.if-not-is_level.false c.loop-byte.invariant

pub returns-then-not-is_level : goal.returns-then-not-is_level
returns-then-not-is_level c =
    blank_stop _ _ c.is_level.result _ c.loop-byte-test.true c.is_level.ensures c.if-not-is_level.true (c.loop-byte.invariant ∙ ap (list_all is_level) c.as_bytes-byte-items.ensures.value)

pub returns : goal.returns
returns c = blank_end _ c.loop-byte.byte-index _ (omega arith) (c.loop-byte.invariant ∙ ap (list_all is_level) c.as_bytes-byte-items.ensures.value)
