-- An answer keeps its promise, of which its runs are a part.
use Rattle.rx_rem_command.proofs.RunsAlike.{answer_accepted, answer_up_to, text_up_to}
use Rattle.rx_rem_command.proofs.laws.extractions_run_alike.Goals as goal

pub returns-clause-accepted : goal.returns-clause-accepted
returns-clause-accepted c = answer_accepted

pub returns-clause-answer : goal.returns-clause-answer
returns-clause-answer c = answer_up_to c.passed_or_faulty.ensures.accepted

pub returns-clause-text : goal.returns-clause-text
returns-clause-text c = text_up_to c.passed_or_faulty.ensures.accepted
