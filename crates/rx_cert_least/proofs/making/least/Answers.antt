use Rattle.std.proofs.Common.{List, map, ap, ◌∙◌}
use Rattle.rx_lower_walks.specs.PlainSite.{plain-Site}
use Rattle.rx_lower_lifetimes.specs.PlainOwn.{plain-Own}
use Rattle.rx_lower_lifetimes.specs.declared.numbering.Own.{Own}
use Rattle.rx_region.specs.PlainContext.{plain-Given}
use Rattle.rx_cert_least.proofs.Adding.{scopes_by}
use Rattle.rx_cert_least.proofs.making.least.Goals as goal

pub returns : goal.returns
returns c lives =
    let C = plain-Given c.args.given.now in let g = map plain-Site c.args.sites.now in
    let asks = c.in_ok-outlives.ensures.asks lives in record {
      least = c.in_ok-regions.ensures.least C g asks;
      in_scope = scopes_by C g (map plain-Own c.as_slice.result.now) c.in_ok-regions.regions c.rows.result.now c.in_ok-table.table c.in_ok-table.ensures
          (ap (λ (os : List Own). map plain-Own os) c.as_slice.ensures) c.rows.ensures (c.in_ok-regions.ensures.sites ∙ asks.sites);
    }
