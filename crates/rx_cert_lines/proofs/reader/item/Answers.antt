use Rattle.rx_cert_lines.proofs.ItemTexts.{end_answer, other_answer}
use Rattle.rx_cert_lines.proofs.reader.item.Goals as goal

pub returns-in-Some : goal.returns-in-Some
returns-in-Some c = end_answer c.args.word.now c.in-Some.digits.now c.end_item.result c.in-Some.ensures c.end_item.ensures

pub returns-in-None : goal.returns-in-None
returns-in-None c = other_answer c.args.word.now c.range_or_number.result c.in-None.ensures c.range_or_number.ensures
