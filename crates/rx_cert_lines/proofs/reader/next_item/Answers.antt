use Rattle.rx_cert_lines.proofs.ItemTexts.{no_next_read}
use Rattle.rx_cert_lines.proofs.reader.next_item.Goals as goal

pub returns-in_default-item : goal.returns-in_default-item
returns-in_default-item c = no_next_read c.args.left.now c.in-Some.rest.now _ _ c.in-Some.ensures c.cut.ensures c.in_default-item.ensures
