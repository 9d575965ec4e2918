-- How the answer has the variables of the text (REM, "Extract method": a variable moves, is copied, or is lent, shared or mutable).
use Rattle.std.specs.Prelude.{◌≡◌, ℕ, Bool, nat_eq, List, [], ◌∷◌, Option, Some, None, ◌⊎◌, if◌then◌else◌}

-- what may still be written to a pair of slots
pub data Hold : Type 0 where
  -- nothing
  fixed : Hold
  -- by the variable's name alone
  shut : Hold
  -- mutable references may lead there
  free : Hold

abbrev pub NotFixed : Hold → Type 0
NotFixed fixed = ⊥
NotFixed _ = Unit {0}

abbrev pub In : {A : Type 0} → A → List A → Type 0
In a [] = ⊥
In a (b ∷ l) = (a ≡ b) ⊎ In a l

-- how the answer has a variable of the text
pub data How : Type 0 where
  -- in the slot of a pair
  plain : Hold → How
  -- in a slot of its own, which matters only while the variable is live
  special : How
  -- behind a reference, mutable or not, to the slot of a pair
  through : Hold → Bool → How
  -- in a slot with an equal value, while neither changes
  copied : How
  -- the same, where the reference that it holds is shared
  viewed : How
  -- nowhere, while another function runs
  absent : How

pub record Sight : Type 0 where
  pub to : ℕ
  pub how : How

abbrev pub sight : ℕ → How → Sight
sight y w = record { to = y; how = w }

abbrev pub Renaming : Type 0
Renaming = List (ℕ × Sight)

abbrev pub sight_of : Renaming → ℕ → Option Sight
sight_of [] x = None
sight_of (b ∷ bs) x = if nat_eq x b.0 then Some b.1 else sight_of bs x

-- no variable of the answer stands for two of the text
abbrev pub IsNew : Renaming → ℕ → Type 0
IsNew R y = (z : ℕ) (e : Sight) → sight_of R z ≡ Some e → e.to ≡ y → ⊥
