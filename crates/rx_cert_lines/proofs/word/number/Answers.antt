-- Digits without a leading zero are those of the number that they write.
use Rattle.std.proofs.Common.{sym, ◌∙◌}
use Rattle.rx_cert_lines.proofs.Numerals.{number_answer, not_plain}
use Rattle.rx_cert_lines.proofs.word.number.Goals as goal

pub returns-then-is_plain : goal.returns-then-is_plain
returns-then-is_plain c = number_answer c.args.word.now c.value.result (sym c.is_plain.ensures ∙ c.if-is_plain.true) c.value.ensures

pub returns-else-is_plain : goal.returns-else-is_plain
returns-else-is_plain c = not_plain c.args.word.now (sym c.is_plain.ensures ∙ c.if-is_plain.false)
