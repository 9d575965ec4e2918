-- A text has one tree, so two answers of its check agree; it has one answer or one refusal of an extraction; and a program has one outcome.
use Rattle.rx_rem_command.proofs.Agreement.{defined_agree}
use Rattle.rx_rem_command.proofs.laws.one_answer.Goals as goal

pub returns : goal.returns
returns c =
    defined_agree c.passed_or_faulty.ensures.accepted c.causes_are_one.ensures c.one_outcome.ensures.one
    c.conditions_are_one.ensures.none c.refusals_are_one.ensures c.answers_are_one.ensures
    c.certificates_are_one.ensures c.verified_or_refused.ensures c.verdicts_are_one.ensures c.short_texts_are_one.ensures.one c.short_texts_are_one.ensures.named
