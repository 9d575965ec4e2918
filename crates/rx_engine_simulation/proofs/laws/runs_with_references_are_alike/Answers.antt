use Rattle.rx_engine_simulation.proofs.Rightly.{answer_runs_so, text_runs_so}
use Rattle.rx_engine_simulation.proofs.laws.runs_with_references_are_alike.Goals as goal

pub returns-clause-answer : goal.returns-clause-answer
returns-clause-answer c = answer_runs_so

pub returns-clause-text : goal.returns-clause-text
returns-clause-text c = text_runs_so
