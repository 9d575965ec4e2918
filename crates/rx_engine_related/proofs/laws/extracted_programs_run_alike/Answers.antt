use Rattle.rx_engine_related.proofs.Whole.{answer_so, text_so}
use Rattle.rx_engine_related.proofs.laws.extracted_programs_run_alike.Goals as goal

pub returns-clause-answer : goal.returns-clause-answer
returns-clause-answer c = answer_so

pub returns-clause-text : goal.returns-clause-text
returns-clause-text c = text_so
