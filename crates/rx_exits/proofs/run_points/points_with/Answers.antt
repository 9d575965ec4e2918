use Rattle.std.proofs.Common.{refl, map}
use Rattle.rx_lower_walks.specs.PlainSite.{plain-Site}
use Rattle.rx_exits.proofs.Telling.{are_points}
use Rattle.rx_exits.proofs.run_points.points_with.Goals as goal

pub returns-clause-points : goal.returns-clause-points
returns-clause-points c = are_points _ (map plain-Site c.args.sites.now) c.past_all-variables.result c.in_ok-facts.facts _ c.in_ok-facts.ensures c.past_all-variables.ensures c.in_ok-marks.ensures
    refl refl refl
