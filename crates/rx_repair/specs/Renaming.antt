-- Other numbers for the lifetimes of a function (Rust Reference, "Lifetime parameters": a declared name means nothing beyond its item;
-- RFC 2094, "Liveness": each lifetime is a variable of its own).
use Rattle.std.specs.Prelude.{◌≡◌, ℕ, ◌<◌, map}
use Rattle.rx_typed.specs.Renaming.{signature_with, renamed, bound_renamed}
use Rattle.rx_lower_lifetimes.specs.Numbered.{Own, none, region, signed}
use Rattle.rx_lower_lifetimes.specs.Lowered.{Lifetimes}
use Rattle.rx_region.specs.Constraints.{Context}
use Rattle.rx_region.specs.Solutions.{Point, site, end, Sets}
use Rattle.rx_loan.specs.Accesses.{Loan}

-- another number for each lifetime, and back; the function's own, of which there are so many, stay its own
pub record Renaming (own : ℕ) : Type 0 where
  pub to : ℕ → ℕ
  pub from : ℕ → ℕ
  pub to_from : (l : ℕ) → to (from l) ≡ l
  pub from_to : (l : ℕ) → from (to l) ≡ l
  pub own_to : (l : ℕ) → l < own → to l < own
  pub own_from : (l : ℕ) → l < own → from l < own

-- ---- a function with other numbers: in its types, its bounds, and what its sites have of their own

abbrev pub own_renamed : (ℕ → ℕ) → Own → Own
own_renamed f none = none
own_renamed f (region r) = region (f r)
own_renamed f (signed S) = signed (signature_with f S.params S.answer S.bounds)

abbrev pub lifetimes_renamed : (ℕ → ℕ) → Lifetimes → Lifetimes
lifetimes_renamed f L = record {
  types = map (renamed f) L.types;
  temporaries = L.temporaries;
  owned = map (own_renamed f) L.owned;
  params = L.params;
  answer = renamed f L.answer;
  bounds = map (bound_renamed f) L.bounds;
  own = L.own;
  regions = L.regions;
}

-- what is declared keeps the numbers of its own lifetimes
abbrev pub context_renamed : (ℕ → ℕ) → Context → Context
context_renamed f C = record { items = C.items; implied = C.implied; lifetimes = lifetimes_renamed f C.lifetimes }

-- ---- points, sets and loans

abbrev pub point_renamed : (ℕ → ℕ) → Point → Point
point_renamed f (site p) = site p
point_renamed f (end l) = end (f l)

-- the set of a lifetime under its new number; `back` tells the old ones
abbrev pub sets_renamed : (ℕ → ℕ) → Sets → Sets
sets_renamed back R l x = R (back l) (point_renamed back x)

abbrev pub loan_renamed : (ℕ → ℕ) → Loan → Loan
loan_renamed f l = record { site = l.site; region = f l.region; mutable = l.mutable; place = l.place }
