-- Operands for each field (Rust Reference, "Struct expressions", "Tuple expressions").
use Rattle.std.specs.Prelude.{◌≡◌, ℕ, zero, suc, true, nat_eq, List, [], ◌∷◌, length, ◌⊎◌}
use Rattle.rx_typed.specs.Tree as tree
use Rattle.rx_typed.specs.Tree.{Making}

-- each field has an operand, so far
abbrev pub Has : List ℕ → ℕ → Type 0
Has [] i = ⊥
Has (j ∷ js) i = (nat_eq i j ≡ true) ⊎ Has js i

-- so many fields from a number on
abbrev pub HasAll : List ℕ → ℕ → ℕ → Type 0
HasAll js zero i = Unit {0}
HasAll js (suc n) i = Has js i × HasAll js n (suc i)

-- the fields that operands are for
abbrev pub Complete : List ℕ → Type 0
Complete js = HasAll js (length js) 0

-- a struct's operands, a tuple's and a variant's are for all of its fields
abbrev pub Fitting : Making → List ℕ → Type 0
Fitting tree.tuple js = Complete js
Fitting (tree.struct i) js = Complete js
Fitting (tree.variant_of i v) js = Complete js
Fitting _ js = Unit {0}
