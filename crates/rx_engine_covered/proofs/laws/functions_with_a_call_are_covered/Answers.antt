use Rattle.rx_engine_covered.proofs.Called.{called_covered, called_last_covered}
use Rattle.rx_engine_covered.proofs.laws.functions_with_a_call_are_covered.Goals as goal

pub returns-clause-within : goal.returns-clause-within
returns-clause-within c = λ R run call f g x D E k A made fits apart takes h. called_covered R run call f g x D E k A made fits apart takes h

pub returns-clause-at_the_end : goal.returns-clause-at_the_end
returns-clause-at_the_end c = λ R run call o l f g x D E k A made fits apart takes t h. called_last_covered R run call o l f g x D E k A made fits apart takes t h
