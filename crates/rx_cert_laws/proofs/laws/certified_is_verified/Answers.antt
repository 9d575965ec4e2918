use Rattle.rx_cert_laws.proofs.Certified.{certified_verified}
use Rattle.rx_cert_laws.proofs.laws.certified_is_verified.Goals as goal

pub returns : goal.returns
returns c text bytes short few is = certified_verified c.signatures_are_well_formed.ensures c.parsed_programs_are_numbered.ensures text bytes short few is
