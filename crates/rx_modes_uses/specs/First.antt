-- The first of some variables of which something holds: what a refusal names.
use Rattle.std.specs.Prelude.{ℕ, List, ◌∷◌}

pub data First (Q : ℕ → Type 0) : List ℕ → ℕ → Type 0 where
  this : {x : ℕ} {l : List ℕ} → Q x → First Q (x ∷ l) x
  later : {x y : ℕ} {l : List ℕ} → ¬ (Q y) → First Q l x → First Q (y ∷ l) x
