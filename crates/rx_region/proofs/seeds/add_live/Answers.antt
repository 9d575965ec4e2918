use Rattle.std.proofs.Common.{length, sym, subst}
use Rattle.rx_graph_bits.specs.Rows.{words}
use Rattle.rx_graph.specs.Tables.{Regular}
use Rattle.rx_lower_walks.specs.PlainFlow.{plain-Root}
use Rattle.rx_region.proofs.Seeding.{spread_lived}
use Rattle.rx_region.proofs.seeds.add_live.Goals as goal

pub join_all-requires : goal.join_all-requires
join_all-requires c = subst (λ v. Regular (length c.args.rows.now) v c.args.rows.now) (sym c.in_ok-row.ensures.width) c.requires.regular

pub returns : goal.returns
returns c = record {
  regular = subst (λ v. Regular (length c.args.rows.now) v c.join_all.new.rows) c.in_ok-row.ensures.width c.join_all.ensures.regular;
  added = λ g lives is. spread_lived (words c.args.bound) c.args.sites c.args.rows.now c.join_all.new.rows c.args.lifetimes.now c.in_ok-row.row g (plain-Root c.args.root)
      c.join_all.result is (c.in_ok-row.ensures.exact g lives is) c.join_all.ensures;
}
