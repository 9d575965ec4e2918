use Rattle.rx_loan.proofs.Fewest.{least_too}
use Rattle.rx_loan.proofs.laws.fewest_are_accepted.Goals as goal

pub returns : goal.returns
returns c C g R S = least_too C g R S
