use Rattle.rx_engine_simulation.proofs.Called.{answer_to_text, text_to_answer}
use Rattle.rx_engine_simulation.proofs.laws.calls_run_as_what_they_stand_for.Goals as goal

pub returns-clause-answer : goal.returns-clause-answer
returns-clause-answer c = answer_to_text

pub returns-clause-text : goal.returns-clause-text
returns-clause-text c = text_to_answer
