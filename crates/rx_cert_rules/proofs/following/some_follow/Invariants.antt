use Rattle.rx_cert_rules.specs.Written.{inside}
use Rattle.rx_cert_rules.proofs.Telling.{Below}
use Rattle.rx_cert_rules.proofs.Scopes.{FollowsAt}
use Rattle.rx_cert_rules.proofs.following.some_follow.Given as goal

abbrev pub invariant-next : goal.invariant-next
invariant-next l = Below (FollowsAt (inside l.rows.regions.now l.rows.sites l.lifetime) (inside l.rows.scopes.now l.rows.sites l.loan) l.next) l.k
