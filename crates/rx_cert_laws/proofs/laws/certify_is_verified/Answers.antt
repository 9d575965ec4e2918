use Rattle.rx_cert_laws.proofs.Certified.{refused_for_memory}
use Rattle.rx_cert_laws.proofs.laws.certify_is_verified.Goals as goal

pub returns-clause-verified : goal.returns-clause-verified
returns-clause-verified c text bytes short answer = c.certified_is_verified.ensures text bytes short answer.1 answer.0

pub returns-clause-accepted : goal.returns-clause-accepted
returns-clause-accepted c text bytes e short answer = refused_for_memory bytes e
    (λ other. c.verified_or_refused.ensures bytes e other (c.certified_is_verified.ensures text bytes short answer.1 answer.0))
