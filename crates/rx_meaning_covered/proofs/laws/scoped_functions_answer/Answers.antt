use Rattle.rx_meaning_covered.proofs.Scoping.{functions_use_begun}
use Rattle.rx_meaning_covered.proofs.Leaving.{functions_answer}
use Rattle.rx_meaning_covered.proofs.laws.scoped_functions_answer.Goals as goal

pub returns : goal.returns
returns c = record { begun = functions_use_begun; answers = functions_answer }
