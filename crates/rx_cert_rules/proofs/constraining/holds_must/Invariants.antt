use Rattle.std.proofs.Common.{◌≡◌, true}
use Rattle.rx_graph.specs.Tables.{at}
use Rattle.rx_region.specs.Solutions.{site}
use Rattle.rx_region.specs.Points.{has_point}
use Rattle.rx_cert_rules.proofs.Telling.{Below}
use Rattle.rx_cert_rules.proofs.constraining.holds_must.Given as goal

abbrev pub invariant-sites : goal.invariant-sites
invariant-sites l = Below (λ p. has_point l.outlives.rows l.outlives.sites l.lifetime (site p) ≡ true → at l.rows l.lifetime p ≡ true) l.site
