-- What is made of a list of lifetimes, one step after another: nothing public speaks of it.
use Rattle.std.specs.Prelude.{ℕ, Bool, ◌||◌, if◌then◌else◌, List, [], ◌∷◌, ◌++◌, map}
use Rattle.std.specs.Str.{bytes_eq}
use Rattle.rx_tree.specs.declared.tree.Ident.{Ident}
use Rattle.rx_tree.specs.declared.tree.BoundLifetime.{BoundLifetime}
use Rattle.rx_hoist_extraction.specs.Names.{Names, is_among}
use Rattle.rx_hoist_extraction.specs.OwnLifetimes.{idents}
use Rattle.rx_compact_lifetimes.specs.Merged.{joined_lifetime}

abbrev pub names : List BoundLifetime → Names
names ls = map (λ (l : BoundLifetime). l.name.name) ls

-- one more bound of a lifetime, where it is on another and new
abbrev pub with_bound : List ℕ → List Ident → Ident → List Ident
with_bound x found b = if bytes_eq b.name x || is_among b.name (idents found) then found else found ++ b ∷ []

abbrev pub with_bounds : List ℕ → List Ident → List Ident → List Ident
with_bounds x found [] = found
with_bounds x found (b ∷ bs) = with_bounds x (with_bound x found b) bs

-- those that a lifetime of a list has for a name
abbrev pub bounds_if : List ℕ → BoundLifetime → List Ident
bounds_if x l = if bytes_eq x l.name.name then l.bounds else []

-- one more lifetime, where its name is new
abbrev pub with_joined : List BoundLifetime → List BoundLifetime → Ident → List BoundLifetime
with_joined whole all x = if is_among x.name (names all) then all else all ++ joined_lifetime whole x ∷ []

-- one that is wanted or not
abbrev pub one_if : Bool → BoundLifetime → List BoundLifetime
one_if b l = if b then l ∷ [] else []
