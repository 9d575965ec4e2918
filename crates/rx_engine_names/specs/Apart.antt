-- Pairs of numbers that are one to one (Rust Reference, "Variables", "Loop labels"): no two have a first in common, nor a second. Numbers are
-- kept in 32 bits, so this is said where there are so few.
use Rattle.std.specs.Prelude.{◌≡◌, ◌≤◌, ◌<◌, ◌⊎◌, ℕ, [], ◌∷◌}
use Rattle.rx_tree.specs.Lists.{Every}
use Rattle.rx_engine_names.specs.Renaming.{Has, HasPassage, Made, Pairs, Passage}

abbrev pub Few : ℕ → Type 0
Few n = n ≤ 4294967295

abbrev pub Unlike : ℕ × ℕ → ℕ × ℕ → Type 0
Unlike p q = (p.0 ≡ q.0 → ⊥) × (p.1 ≡ q.1 → ⊥)

abbrev pub Apart : Pairs → Type 0
Apart [] = Unit {0}
Apart (p ∷ ps) = Every (Unlike p) ps × Apart ps

-- all numbers are less than these
abbrev pub Below : Pairs → ℕ → ℕ → Type 0
Below ps n m = Every (λ (p : ℕ × ℕ). (p.0 < n) × (p.1 < m)) ps

-- of so many on each side
abbrev pub OneToOne : Pairs → ℕ → ℕ → Type 0
OneToOne ps n m = Few n → Few m → Apart ps × Below ps n m

-- each pair is among the old ones, or both its numbers are from these on
abbrev pub OldOrBehind : Pairs → ℕ → ℕ → Pairs → Type 0
OldOrBehind old n m ps = (i j : ℕ) → Has ps i j → Has old i j ⊎ ((n ≤ i) × (m ≤ j))

pub record Across (M : Made) (x : Passage) : Type 0 where
  pub variables : OldOrBehind x.variables x.variable x.variable' M.variables
  pub loops : OldOrBehind x.loops x.loop x.loop' M.loops

-- of so many variables and loops on each side: no pair goes across what was passed
abbrev pub NoneAcross : Made → ℕ → ℕ → ℕ → ℕ → Type 0
NoneAcross M n m k l = Few n → Few m → Few k → Few l → (x : Passage) → HasPassage M.passages x → Across M x
