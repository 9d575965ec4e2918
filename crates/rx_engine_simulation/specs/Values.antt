-- Values of two runs that are alike: equal, but that references lead to slots that are paired (Rust Reference, "Pointer types").
use Rattle.std.specs.Prelude.{◌≡◌, ℕ, ℤ, Bool, true, List, [], ◌∷◌}
use Rattle.rx_core.specs.declared.types.Kind.{Kind}
use Rattle.rx_core.specs.declared.types.Step.{Step}
use Rattle.rx_meaning.specs.Values.{Lack, Value, number, truth, whole, tagged, pointer, lacking, Values, no_value, value_and, is_set}
use Rattle.rx_engine_simulation.specs.Sights.{Hold, free, In}

-- a slot of the text, its slot in the answer
pub record Pair : Type 0 where
  pub left : ℕ
  pub right : ℕ
  pub hold : Hold

abbrev pub pair : ℕ → ℕ → Hold → Pair
pair i k h = record { left = i; right = k; hold = h }

mutual
  pub data LikeValue (j : List Pair) : Value → Value → Type 0 where
    numbers : {k : Kind} {z : ℤ} → LikeValue j (number k z) (number k z)
    truths : {b : Bool} → LikeValue j (truth b) (truth b)
    wholes : {vs ws : Values} → LikeValues j vs ws → LikeValue j (whole vs) (whole ws)
    taggeds : {i : ℕ} {vs ws : Values} → LikeValues j vs ws → LikeValue j (tagged i vs) (tagged i ws)
    pointers : {ss : List Step} {m : Bool} (p : Pair) → In p j → (m ≡ true → p.hold ≡ free) → LikeValue j (pointer p.left ss m) (pointer p.right ss m)
    lacks : {l : Lack} → LikeValue j (lacking l) (lacking l)

  pub data LikeValues (j : List Pair) : Values → Values → Type 0 where
    no_values : LikeValues j no_value no_value
    values_and : {v w : Value} {vs ws : Values} → LikeValue j v w → LikeValues j vs ws → LikeValues j (value_and v vs) (value_and w ws)

abbrev pub More : List Pair → List Pair → Type 0
More j j1 = (p : Pair) → In p j → In p j1

-- values of temporaries: alike, and set in each part
abbrev pub Given : List Pair → Value → Value → Type 0
Given j v w = LikeValue j v w × (is_set v ≡ true)

pub data AllGiven (j : List Pair) : List Value → List Value → Type 0 where
  none_given : AllGiven j [] []
  more_given : {v w : Value} {vs ws : List Value} → Given j v w → AllGiven j vs ws → AllGiven j (v ∷ vs) (w ∷ ws)
