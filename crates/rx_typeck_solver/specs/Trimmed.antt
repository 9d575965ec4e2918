-- Tables that end with their last type: nothing stands behind it.
use Rattle.std.specs.Prelude.{List, [], ◌∷◌, Option, IsSome}

-- of an entry and those behind it, the last is there
abbrev pub LastIsThere : {A : Type 0} → Option A → List (Option A) → Type 0
LastIsThere e [] = IsSome e
LastIsThere e (f ∷ fs) = LastIsThere f fs

-- a table is empty, or its last entry is there
abbrev pub IsTrimmed : {A : Type 0} → List (Option A) → Type 0
IsTrimmed [] = Unit {0}
IsTrimmed (e ∷ es) = LastIsThere e es
