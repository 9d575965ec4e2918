-- What meets every condition has an answer, and an answer meets them.
use Rattle.rx_rem_command.proofs.Extractions.{extraction_defined, answer_extracted}
use Rattle.rx_rem_command.proofs.laws.extraction_is_defined.Goals as goal

pub returns-clause-answer : goal.returns-clause-answer
returns-clause-answer c = extraction_defined c.extractions_are_answers.ensures c.answers_run_alike.ensures

pub returns-clause-only : goal.returns-clause-only
returns-clause-only c = answer_extracted
