-- The lifetime positions of a function: the lifetimes in the types of its variables and temporaries, those of each called
-- signature once a call, and one a borrow.
use Rattle.std.specs.Prelude.{ℕ, ◌+◌, List, [], ◌∷◌, length, slice_get}
use Rattle.rx_typed.specs.declared.declarations.Decl.{Decl}
use Rattle.rx_typed.specs.Regions.{lifetimes_in}
use Rattle.rx_lower_walks.specs.Actions.{Act, Borrow, Call, Action}
use Rattle.rx_lower_lifetimes.specs.Values.{Open, KnownTypes, Held, lifetimes_of, held_by}

-- the lifetimes that an action has of its own
abbrev pub own_lifetimes : List Decl → Act → ℕ
own_lifetimes D (Call f ts d) = lifetimes_of (slice_get D f)
own_lifetimes D (Borrow k p d) = 1
own_lifetimes D _ = 0

abbrev pub all_own : List Decl → List Action → ℕ
all_own D [] = 0
all_own D (a ∷ us) = own_lifetimes D a.act + all_own D us

abbrev pub in_variables : List Open → ℕ
in_variables [] = 0
in_variables (v ∷ vs) = length (lifetimes_in v.typ) + in_variables vs

abbrev pub in_held : List Held → ℕ
in_held [] = 0
in_held (h ∷ hs) = length (lifetimes_in h.typ) + in_held hs

-- those of a function, by the actions of its sites
abbrev pub positions : KnownTypes → List Action → ℕ
positions K us = in_variables K.variables + (in_held (held_by K [] us) + all_own K.items us)
