use Rattle.rx_cert_rules.specs.Parts.{HoldsMust}
use Rattle.rx_cert_rules.proofs.Telling.{Below}
use Rattle.rx_cert_rules.proofs.constraining.all_hold_must.Given as goal

abbrev pub invariant-members : goal.invariant-members
invariant-members l = Below (HoldsMust l.outlives l.rows l.sites) l.lifetime
