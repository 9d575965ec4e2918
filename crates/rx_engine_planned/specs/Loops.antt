-- The loops round a run, each once (Rust Reference, "Loop expressions").
use Rattle.std.specs.Prelude.{◌≡◌, ◌≤◌, ◌^◌, ℕ, false, List, [], ◌∷◌, length}
use Rattle.rx_exits_plan.specs.Occurrences.{has_number}

abbrev pub EachOnce : List ℕ → Type 0
EachOnce [] = Unit {0}
EachOnce (x ∷ xs) = (has_number x xs ≡ false) × EachOnce xs

-- each once, and so many that each has a number in a name
pub record LoopsApart (ls : List ℕ) : Type 0 where
  pub once : EachOnce ls
  pub few : length ls ≤ 2 ^ 64
