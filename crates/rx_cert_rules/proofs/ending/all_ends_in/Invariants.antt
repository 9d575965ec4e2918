use Rattle.rx_cert_rules.specs.Parts.{EndsIn}
use Rattle.rx_cert_rules.proofs.Telling.{Below}
use Rattle.rx_cert_rules.proofs.ending.all_ends_in.Given as goal

abbrev pub invariant-members : goal.invariant-members
invariant-members l = Below (EndsIn l.rows l.table l.sites l.own) l.lifetime
