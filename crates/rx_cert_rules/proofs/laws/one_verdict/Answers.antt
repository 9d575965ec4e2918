use Rattle.rx_cert_rules.proofs.Keeping.{not_broken, one_broken}
use Rattle.rx_cert_rules.proofs.laws.one_verdict.Goals as goal

pub returns-clause-broken : goal.returns-clause-broken
returns-clause-broken c C g R W n = not_broken C g R W n

pub returns-clause-one : goal.returns-clause-one
returns-clause-one c C g R W m n = one_broken C g R W m n
