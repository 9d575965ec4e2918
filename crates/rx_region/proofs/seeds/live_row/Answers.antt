use Rattle.std.proofs.Common.{◌<◌, subst, ◌∙◌}
use Rattle.rx_graph_bits.specs.Rows.{words}
use Rattle.rx_lower_walks.specs.PlainFlow.{plain-Root}
use Rattle.rx_region.proofs.Seeding.{site_more}
use Rattle.rx_region.proofs.seeds.live_row.Goals as goal

pub loop-site-preserved : goal.loop-site-preserved
loop-site-preserved c = (
  c.insert_if.ensures.width ∙ c.loop-site.invariant.0,
  c.loop-site.invariant.1,
  λ g lives e. site_more (words c.args.bound) c.loop-site.site c.loop-site.row c.insert_if.new.row g (plain-Root c.args.root) c.is_live_by-wanted.result
      (c.loop-site.invariant.2 g lives e) c.insert_if.ensures
      (c.is_live_by-wanted.ensures g c.args.root c.loop-site.invariant.1 lives (subst (λ n. c.loop-site.site < n) e c.loop-site-test.true)),
)
