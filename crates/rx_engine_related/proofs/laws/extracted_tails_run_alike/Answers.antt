use Rattle.rx_engine_related.proofs.WholeTail.{tail_answer_so, tail_text_so}
use Rattle.rx_engine_related.proofs.laws.extracted_tails_run_alike.Goals as goal

pub returns-clause-answer : goal.returns-clause-answer
returns-clause-answer c = tail_answer_so

pub returns-clause-text : goal.returns-clause-text
returns-clause-text c = tail_text_so
