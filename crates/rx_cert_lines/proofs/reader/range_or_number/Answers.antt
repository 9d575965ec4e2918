use Rattle.rx_cert_lines.proofs.ItemTexts.{range_answer, number_item_answer}
use Rattle.rx_cert_lines.proofs.reader.range_or_number.Goals as goal

pub returns-in-Some : goal.returns-in-Some
returns-in-Some c = range_answer c.args.word.now c.in-Some.first.now c.in-Some.last.now c.range_item.result c.in-Some.ensures c.range_item.ensures

pub returns-in-None : goal.returns-in-None
returns-in-None c = number_item_answer c.args.word.now c.number_item.result c.in-None.ensures c.number_item.ensures
