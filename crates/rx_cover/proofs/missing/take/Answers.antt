use Rattle.rx_cover.specs.Finding.{takes, takes_none}
use Rattle.rx_cover.proofs.missing.take.Goals as goal

pub returns-in_ok-push-in-Some : goal.returns-in_ok-push-in-Some
returns-in_ok-push-in-Some c = takes c.in-Some.value c.in-Some.ensures c.in_ok-push-in-Some.ensures.ok

pub returns-in-None : goal.returns-in-None
returns-in-None c = takes_none c.in-None.ensures.0
