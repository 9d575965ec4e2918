use Rattle.std.proofs.Common.{List, map, ap, ◌∙◌}
use Rattle.rx_typed.specs.PlainTree.{plain-TypedTree}
use Rattle.rx_lower_walks.specs.declared.site.Site.{Site}
use Rattle.rx_lower_walks.specs.PlainSite.{plain-Site}
use Rattle.rx_exits_plan.specs.PlainPlan.{plain-Run}
use Rattle.rx_exits.proofs.Settling.{settled}
use Rattle.rx_exits.proofs.run_points.points_in.Goals as goal

pub returns-clause-points : goal.returns-clause-points
returns-clause-points c = settled (plain-TypedTree c.args.tree.now) (plain-Run c.args.run) c.args.loops.now c.args.frame (map plain-Site c.as_slice.result.now) c.points_of.result
    (ap (λ (l : List Site). map plain-Site l) c.as_slice.ensures ∙ c.in_ok-sites.ensures.sites) c.points_of.ensures.frame c.points_of.ensures.points
