use Rattle.std.proofs.Common.{map}
use Rattle.rx_lower_walks.specs.PlainSite.{plain-Site}
use Rattle.rx_region.specs.PlainContext.{plain-Given}
use Rattle.rx_region.proofs.Ordering.{answered}
use Rattle.rx_region.proofs.pass.check_regions.Goals as goal

pub returns-in-Ok : goal.returns-in-Ok
returns-in-Ok c = λ lives. answered (plain-Given c.args.given.now) (map plain-Site c.args.sites.now) c.in-Ok.regions c.in-Ok.pairs c.as_slice.result.now c.accepted.result
    (c.in-Ok.ensures lives) c.as_slice.ensures c.accepted.ensures
