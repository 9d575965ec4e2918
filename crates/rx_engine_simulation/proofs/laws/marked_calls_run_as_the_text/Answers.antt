use Rattle.rx_engine_simulation.proofs.Marked.{marked_answer, marked_text, marked_found_answer, marked_found_text}
use Rattle.rx_engine_simulation.proofs.laws.marked_calls_run_as_the_text.Goals as goal

pub returns-clause-answer : goal.returns-clause-answer
returns-clause-answer c = marked_answer

pub returns-clause-text : goal.returns-clause-text
returns-clause-text c = marked_text

pub returns-clause-found_answer : goal.returns-clause-found_answer
returns-clause-found_answer c = marked_found_answer

pub returns-clause-found_text : goal.returns-clause-found_text
returns-clause-found_text c = marked_found_text
