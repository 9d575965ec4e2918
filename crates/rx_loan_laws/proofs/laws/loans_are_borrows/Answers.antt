use Rattle.rx_loan_laws.proofs.Listing.{loans_are}
use Rattle.rx_loan_laws.proofs.laws.loans_are_borrows.Goals as goal

pub returns : goal.returns
returns c g os l = loans_are g os l
