-- A pass over functions, in order: what holds of each with what was made for it, and what is said of the first that is refused.
use Rattle.std.specs.Prelude.{◌⊎◌, List, [], ◌∷◌, ◌++◌}

-- each is good
abbrev pub AllAre : {A : Type 0} → (A → Type 0) → List A → Type 0
AllAre Good [] = Unit {0}
AllAre Good (a ∷ xs) = Good a × AllAre Good xs

-- as many were made, and this holds of each with its own
abbrev pub Each : {A B : Type 0} → (A → B → Type 0) → List A → List B → Type 0
Each Holds [] [] = Unit {0}
Each Holds (a ∷ xs) (b ∷ ys) = Holds a b × Each Holds xs ys
Each Holds _ _ = ⊥

-- of the first that isn't good this is said
abbrev pub FirstNot : {A : Type 0} → (A → Type 0) → (A → Type 0) → List A → Type 0
FirstNot Good Said [] = ⊥
FirstNot Good Said (a ∷ xs) = Said a ⊎ (Good a × FirstNot Good Said xs)

-- ---- what is left for a pass to do: what it makes of those that are left, behind what is made, it makes of all

pub record Behind {A B E : Type 0} (Holds : A → B → Type 0) (Good : A → Type 0) (Said : E → A → Type 0) (xs left : List A) (made : List B) : Type 0 where
  pub done : (more : List B) → Each Holds left more → Each Holds xs (made ++ more)
  pub first : (e : E) → FirstNot Good (Said e) left → FirstNot Good (Said e) xs
