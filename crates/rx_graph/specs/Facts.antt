-- Which facts hold at the sites of a graph. A fact is a number, and a site makes some facts false and then some true; what holds
-- at a site comes along some way to it, so the table of all that hold is the least one that the sites ask for.
use Rattle.std.specs.Prelude.{◌≡◌, ℕ, Bool, true, false, not, ◌&&◌, ◌||◌, ◌==◌, List, [], ◌∷◌, Option, Some, None, get_or, slice_get}
use Rattle.rx_graph.specs.declared.effect.Effect.{Effect}
use Rattle.rx_graph.specs.declared.effect.Start.{Start}

-- whether a list has a number
abbrev pub has : List ℕ → ℕ → Bool
has [] i = false
has (j ∷ js) i = i == j || has js i

-- the sites that a site leads to
abbrev pub targets : List (List ℕ) → ℕ → List ℕ
targets edges q = get_or edges q []

-- what a site does; nothing where it isn't told
abbrev pub effect_of : Option Effect → Effect
effect_of None = record { kills = []; gives = [] }
effect_of (Some e) = e

-- whether a fact holds behind a site, where it does or doesn't at it
abbrev pub behind : Effect → ℕ → Bool → Bool
behind e i before = has e.gives i || (not (has e.kills i) && before)

-- a fact holds at a site: at the start; or a site that leads there makes it true, or leaves it so
pub data Holds (edges : List (List ℕ)) (effects : List Effect) (start : Start) (i : ℕ) : ℕ → Type 0 where
  begins : has start.facts i ≡ true → Holds edges effects start i start.site
  given : {p : ℕ} (q : ℕ) → has (targets edges q) p ≡ true → has (effect_of (slice_get effects q)).gives i ≡ true → Holds edges effects start i p
  stays : {p : ℕ} (q : ℕ) → has (targets edges q) p ≡ true → Holds edges effects start i q → has (effect_of (slice_get effects q)).kills i ≡ false
      → Holds edges effects start i p
