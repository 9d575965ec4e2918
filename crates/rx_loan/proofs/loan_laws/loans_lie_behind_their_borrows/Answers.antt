use Rattle.rx_loan.proofs.Walking.{on_a_way, inside}
use Rattle.rx_loan.proofs.loan_laws.loans_lie_behind_their_borrows.Goals as goal

pub returns-clause-way : goal.returns-clause-way
returns-clause-way c g R l p = on_a_way g R l p

pub returns-clause-inside : goal.returns-clause-inside
returns-clause-inside c g R l p = inside g R l p
