-- When the lifetimes and loans of a function are accepted: some sets of points serve, need no pair of its own lifetimes that isn't
-- known, and no access meets a conflicting loan in scope. (RFC 2094, "Named lifetimes", "Reporting errors"; "Access legality".)
use Rattle.std.specs.Prelude.{◌≡◌, ℕ, ◌<◌, Bool, true, List}
use Rattle.rx_lower_walks.specs.Graph.{Site}
use Rattle.rx_region.specs.Constraints.{Context}
use Rattle.rx_region.specs.Solutions.{site, end, Sets, Solution}
use Rattle.rx_region.specs.Known.{KnownToOutlive}
use Rattle.rx_loan.specs.Loans.{loans_of, IsLegal}

-- whether a lifetime has a site
abbrev pub at_sites : Sets → ℕ → ℕ → Bool
at_sites R l p = R l (site p)

-- by these sets
pub record AcceptedBy (C : Context) (g : List Site) (R : Sets) : Type 0 where
  pub solution : Solution C g R
  -- where the set of one of the function's own lifetimes has the end of another, it is known to outlive that
  pub known : (l k : ℕ) → l < C.lifetimes.own → k < C.lifetimes.own → R l (end k) ≡ true → KnownToOutlive C l k
  pub legal : IsLegal g (at_sites R) (loans_of g C.lifetimes.owned)

abbrev pub IsAccepted : Context → List Site → Type 0
IsAccepted C g = (R : Sets) × AcceptedBy C g R
