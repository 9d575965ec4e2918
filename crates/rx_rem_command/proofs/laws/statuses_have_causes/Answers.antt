-- By the cases of what is due and of how far it was written; and a text has one answer.
use Rattle.rx_rem_command.proofs.Statuses.{status_cause, one_status}
use Rattle.rx_rem_command.proofs.laws.statuses_have_causes.Goals as goal

pub returns-clause-cause : goal.returns-clause-cause
returns-clause-cause c = status_cause c.passed_or_faulty.ensures.accepted c.verified_or_refused.ensures

pub returns-clause-one : goal.returns-clause-one
returns-clause-one c = one_status c.conditions_are_one.ensures.none c.one_outcome.ensures.one c.passed_or_faulty.ensures.accepted c.certificates_are_one.ensures
    c.short_texts_are_one.ensures.one c.short_texts_are_one.ensures.named
