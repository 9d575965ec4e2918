-- The last of a list, and whether it is an expression without `;`.
use Rattle.std.specs.Prelude.{Bool, true, false, not, List, [], ◌∷◌, Option, Some, None}
use Rattle.rx_tree.specs.Plain as plain
use Rattle.rx_tree.specs.Plain.{Statement}

abbrev pub last_one : {A : Type 0} → List A → Option A
last_one [] = None
last_one (x ∷ []) = Some x
last_one (x ∷ y ∷ xs) = last_one (y ∷ xs)

abbrev pub is_open : Statement → Bool
is_open (plain.let_statement s p t o) = false
is_open (plain.expression_statement s e b) = not b
