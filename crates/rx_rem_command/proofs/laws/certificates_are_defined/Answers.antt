-- By the cases of the definitions.
use Rattle.rx_rem_command.proofs.Certificates.{certificate_defined, certificate_only, verified_defined, verified_only}
use Rattle.rx_rem_command.proofs.laws.certificates_are_defined.Goals as goal

pub returns-clause-answer : goal.returns-clause-answer
returns-clause-answer c = certificate_defined

pub returns-clause-only : goal.returns-clause-only
returns-clause-only c = certificate_only

pub returns-clause-good : goal.returns-clause-good
returns-clause-good c = verified_defined

pub returns-clause-verified : goal.returns-clause-verified
returns-clause-verified c = verified_only
