use Rattle.std.proofs.Common.{sym, ap, ◌∙◌}
use Rattle.rx_cert_lines.specs.Lines.{is_form}
use Rattle.rx_cert_lines.proofs.LineTexts.{no_line_by_head, no_line_by_form}
use Rattle.rx_cert_lines.proofs.reader.read_line.Goals as goal

pub returns-in_default : goal.returns-in_default
returns-in_default c = no_line_by_head c.args.bytes.now _ _ c.cut.ensures c.in_default.ensures

pub returns-else-is_form : goal.returns-else-is_form
returns-else-is_form c =
    no_line_by_form c.args.bytes.now _ _ c.cut.ensures c.in-Some.head c.in-Some-2.items c.in-Some.ensures (rw c.in-Some-2.is at c.in_ok-items.ensures)
    (sym (c.is_form.ensures ∙ ap (is_form c.in-Some.head) c.as_slice.ensures) ∙ c.if-is_form.false)
