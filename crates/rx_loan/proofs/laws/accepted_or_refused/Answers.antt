use Rattle.rx_loan.proofs.Found.{missing_or_accepted, forbidden_or_accepted}
use Rattle.rx_loan.proofs.laws.accepted_or_refused.Goals as goal

pub returns-clause-missing : goal.returns-clause-missing
returns-clause-missing c = missing_or_accepted

pub returns-clause-forbidden : goal.returns-clause-forbidden
returns-clause-forbidden c = forbidden_or_accepted
