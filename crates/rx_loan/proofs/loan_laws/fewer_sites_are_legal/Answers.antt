use Rattle.rx_loan.proofs.Walking.{fewer_legal}
use Rattle.rx_loan.proofs.loan_laws.fewer_sites_are_legal.Goals as goal

pub returns : goal.returns
returns c g R S ls = fewer_legal g R S ls
