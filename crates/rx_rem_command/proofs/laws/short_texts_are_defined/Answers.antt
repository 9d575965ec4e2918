use Rattle.rx_rem_command.proofs.Shorts.{short_defined, short_only}
use Rattle.rx_rem_command.proofs.laws.short_texts_are_defined.Goals as goal

pub returns-clause-answer : goal.returns-clause-answer
returns-clause-answer c = short_defined

pub returns-clause-only : goal.returns-clause-only
returns-clause-only c = short_only
