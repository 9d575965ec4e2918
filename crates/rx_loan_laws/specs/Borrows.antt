-- Which loan a borrow makes. (RFC 2094, "Reborrow constraints": a borrow of a place, for a region, shared or mutable.)
use Rattle.std.specs.Prelude.{◌≡◌, List, Some, slice_get}
use Rattle.rx_typed.specs.Tree.{Temporary}
use Rattle.rx_lower_walks.specs.Actions.{Borrow}
use Rattle.rx_lower_walks.specs.Graph.{Site, site_at}
use Rattle.rx_lower_lifetimes.specs.Numbered.{Own, region}
use Rattle.rx_loan.specs.Accesses.{Loan}

-- the loan's site has a borrow, of its place and as mutable as it is, and the loan's region is the site's own lifetime
pub record IsBorrowed (g : List Site) (os : List Own) (l : Loan) : Type 0 where
  pub site : Site
  pub stands : site_at g l.site ≡ Some site
  pub reference : Temporary
  pub borrows : site.action.act ≡ Borrow l.mutable l.place reference
  pub owns : slice_get os l.site ≡ Some (region l.region)
