-- What meets every condition has an answer, and what both do is told.
use Rattle.rx_rem_command.proofs.Generations.{summary_defined, summary_only}
use Rattle.rx_rem_command.proofs.laws.summaries_are_defined.Goals as goal

pub returns-clause-answer : goal.returns-clause-answer
returns-clause-answer c = summary_defined c.extractions_are_answers.ensures c.answers_run_alike.ensures

pub returns-clause-only : goal.returns-clause-only
returns-clause-only c = summary_only
