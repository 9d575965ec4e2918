-- Which variables, loops and items of one function correspond to which of another (Rust Reference, "Scopes", "Loop labels",
-- "Items"): pairs of numbers, as two walks side by side make them.
use Rattle.std.specs.Prelude.{◌≡◌, ◌≤◌, ◌⊎◌, ℕ, Bool, true, List, [], ◌∷◌}
use Rattle.rx_resolve_names.specs.Meant.{number}

-- items of the second are told by those of the first; of a variable or loop it is told whether two correspond
pub record Renaming : Type 0 where
  pub variable : ℕ → ℕ → Bool
  pub loop : ℕ → ℕ → Bool
  pub item : ℕ → ℕ

-- ---- what was made side by side, the newest first

abbrev pub Pairs : Type 0
Pairs = List (ℕ × ℕ)

-- where it is declared a number is whole, where it is named it is as it is kept
abbrev pub IsPair : ℕ × ℕ → ℕ → ℕ → Type 0
IsPair p n m = ((n ≡ p.0) × (m ≡ p.1)) ⊎ ((n ≡ number p.0) × (m ≡ number p.1))

abbrev pub Has : Pairs → ℕ → ℕ → Type 0
Has [] n m = ⊥
Has (p ∷ ps) n m = IsPair p n m ⊎ Has ps n m

-- where something else has been passed: what was made until there, and the numbers of the next variables and loops in both
pub record Passage : Type 0 where
  pub variables : Pairs
  pub loops : Pairs
  pub variable : ℕ
  pub variable' : ℕ
  pub loop : ℕ
  pub loop' : ℕ

pub record Made : Type 0 where
  pub variables : Pairs
  pub loops : Pairs
  pub passages : List Passage

abbrev pub HasPassage : List Passage → Passage → Type 0
HasPassage [] x = ⊥
HasPassage (y ∷ ys) x = (x ≡ y) ⊎ HasPassage ys x

-- what corresponds was made until there, or is declared behind it in both
pub record Respects (x : Passage) (R : Renaming) : Type 0 where
  pub variables : (n m : ℕ) → R.variable n m ≡ true → Has x.variables n m ⊎ ((x.variable ≤ n) × (x.variable' ≤ m))
  pub loops : (n m : ℕ) → R.loop n m ≡ true → Has x.loops n m ⊎ ((x.loop ≤ n) × (x.loop' ≤ m))

-- a renaming in which all correspond that were made; and nothing else, across what has been passed
pub record Serves (items : ℕ → ℕ) (M : Made) (R : Renaming) : Type 0 where
  pub variables : (n m : ℕ) → Has M.variables n m → R.variable n m ≡ true
  pub loops : (n m : ℕ) → Has M.loops n m → R.loop n m ≡ true
  pub items_are : (n : ℕ) → R.item n ≡ items n
  pub passages : (x : Passage) → HasPassage M.passages x → Respects x R
