use Rattle.rx_meaning_covered.proofs.Adding.{choices_covered}
use Rattle.rx_meaning_covered.proofs.laws.choices_are_covered.Goals as goal

pub returns : goal.returns
returns c = choices_covered
