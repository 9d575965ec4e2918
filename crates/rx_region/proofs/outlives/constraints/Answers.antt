use Rattle.std.proofs.Common.{map, refl, length, ◌+◌}
use Rattle.rx_graph_bits.specs.Rows.{words}
use Rattle.rx_lower_walks.specs.PlainSite.{plain-Site}
use Rattle.rx_region.specs.PlainContext.{plain-Given}
use Rattle.rx_region.proofs.Wholes.{asked, length_sites, table_regular, table_within}
use Rattle.rx_region.proofs.outlives.constraints.Goals as goal

pub returns-clause-asks : goal.returns-clause-asks
returns-clause-asks c = λ lives. record {
  own = refl;
  sites = length_sites c.args.sites.now;
  pairs = c.in_ok-pairs.ensures;
  must = asked (plain-Given c.args.given.now) (map plain-Site c.args.sites.now) c.args.given.now.lifetimes.now.types c.as_slice.result.now c.args.live.now c.count-count.result
      c.in_ok-least.least (length c.args.sites.now) c.in_ok-rows.rows.items c.from_vec.result refl c.as_slice.ensures c.in_ok-rows.ensures c.from_vec.ensures
      (length_sites c.args.sites.now) c.in_ok-least.ensures.more c.in_ok-least.ensures.within c.count-count.ensures.more lives;
}

pub returns-clause-table : goal.returns-clause-table
returns-clause-table c =
    let w = words (length c.args.sites.now + c.args.given.now.lifetimes.now.own) in record {
      regular = table_regular c.count-count.result w c.in_ok-rows.rows.items c.from_vec.result c.in_ok-rows.ensures.regular c.from_vec.ensures;
      within = table_within c.in_ok-pairs.pairs c.as_slice-2.result.now c.count-count.result w c.in_ok-rows.rows.items c.from_vec.result c.in_ok-rows.ensures.regular c.from_vec.ensures
          c.count-count.ensures.within c.as_slice-2.ensures;
    }
