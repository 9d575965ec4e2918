use Rattle.std.proofs.Common.{◌≡◌, ◌++◌, map, drop}
use Rattle.rx_lower_walks.specs.Text.{actions_of}
use Rattle.rx_lower_walks.specs.PlainSite.{plain-Site}
use Rattle.rx_lower_lifetimes.specs.PlainOwn.{plain-Own}
use Rattle.rx_region.specs.Constraints.{all_ask}
use Rattle.rx_region.specs.PlainContext.{plain-Given}
use Rattle.rx_region.proofs.given.Given.add_sites.Given as goal

abbrev pub invariant-loop-site : goal.invariant-loop-site
invariant-loop-site l = l.pairs ++ all_ask (plain-Given l.self) (actions_of (map plain-Site (drop l.site-index l.sites))) (map plain-Own l.left)
    ≡ l.fn.pairs ++ all_ask (plain-Given l.fn.self) (actions_of (map plain-Site l.fn.sites)) (map plain-Own l.fn.owned)
