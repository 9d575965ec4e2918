use Rattle.std.proofs.Common.{List, map, sym, subst}
use Rattle.rx_core.specs.declared.types.Bound.{Bound}
use Rattle.rx_lower_walks.specs.PlainSite.{plain-Site}
use Rattle.rx_region.specs.PlainContext.{plain-Given}
use Rattle.rx_repair.specs.LeastBounds.{InOrder}
use Rattle.rx_repair.proofs.least.missing_pairs.Goals as goal

pub returns : goal.returns
returns c = λ lives.
    let C = plain-Given c.args.given.now in let g = map plain-Site c.args.sites.now in
    let least = c.in_ok-regions.ensures.least C g (c.in_ok-outlives.ensures.asks lives) in record {
      exact = c.in_ok-pairs.ensures.exact C g least c.in_ok-known.ensures;
      ordered = subst (λ (l : List Bound). InOrder l) (sym c.in_ok-pairs.ensures.in_order) (c.least_bounds_are_missing.ensures.in_order _ c.in_ok-known.known.own);
    }
