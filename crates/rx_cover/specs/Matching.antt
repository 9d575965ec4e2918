-- Which values a pattern matches (Rust Reference, "Patterns"), and when patterns match every value of a type.
use Rattle.std.specs.Prelude.{◌≡◌, ℕ, suc, nat_eq, if◌then◌else◌, ◌⊎◌, List, [], ◌∷◌}
use Rattle.rx_typed.specs.Types.{Typ, Declarations}
use Rattle.rx_typed.specs.Tree as tree
use Rattle.rx_typed.specs.Tree.{Pattern, any, bind, exactly, parts, behind, Subpatterns, no_part, part_and, whole_number}
use Rattle.rx_cover.specs.Values as value
use Rattle.rx_cover.specs.Values.{Value, Values, number, tuple, made, pointing, no_value, value_and, IsOfType}

-- what is asked of a part, by its number
abbrev pub part_of : Subpatterns → ℕ → Pattern
part_of no_part k = any
part_of (part_and i p ps) k = if nat_eq i k then p else part_of ps k

abbrev mutual
  pub Matches : Pattern → Value → Type 0
  Matches any v = Unit {0}
  Matches (bind n x m) v = Unit {0}
  Matches (exactly n (whole_number k i)) (number j) = i ≡ j
  Matches (exactly n (tree.truth b)) (value.truth c) = b ≡ c
  Matches (parts ps) (tuple vs) = MatchParts ps 0 vs
  Matches (parts ps) (made i vs) = MatchParts ps 0 vs
  Matches (tree.variant n i b k ps) (value.variant j l vs) = (i ≡ j) × (k ≡ l) × MatchParts ps 0 vs
  Matches (behind m p) (pointing v) = Matches p v
  Matches _ _ = ⊥

  -- the parts of a value, from a number on
  pub MatchParts : Subpatterns → ℕ → Values → Type 0
  MatchParts ps k no_value = Unit {0}
  MatchParts ps k (value_and v vs) = Matches (part_of ps k) v × MatchParts ps (suc k) vs

-- some pattern of these matches
abbrev pub SomeMatches : List Pattern → Value → Type 0
SomeMatches [] v = ⊥
SomeMatches (p ∷ ps) v = Matches p v ⊎ SomeMatches ps v

-- every value of the type matches some pattern
abbrev pub Covers : Declarations → Typ → List Pattern → Type 0
Covers D t ps = (v : Value) → IsOfType D t v → SomeMatches ps v
