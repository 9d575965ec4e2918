-- What is promised of the types that are found, and of the places where none are.
use Rattle.std.specs.Prelude.{◌≡◌, ◌⊎◌, ◌↔◌, ℕ, List, Some}
use Rattle.rx_typeck_solver.specs.declared.facts.Broken.TheVariants as broken
use Rattle.rx_typeck_solver.specs.declared.facts.Rule.{Rule}
use Rattle.rx_typeck_solver.specs.declared.facts.Subject.{Subject}
use Rattle.rx_typeck_solver.specs.declared.facts.Demand.{Demand}
use Rattle.rx_typeck_solver.specs.declared.solver.Solved.{Solved}
use Rattle.rx_typeck_solver.specs.declared.solver.Unsolved.{Unsolved}
use Rattle.rx_typeck_solver.specs.declared.solver.Unsolved.TheVariants as unsolved
use Rattle.rx_typeck_solver.specs.Facts.{Assignment, KnownItems}
use Rattle.rx_typeck_solver.specs.Valid.{Task, Told, Valid, Breaks, IsUnclear, Asked}
use Rattle.rx_typeck_solver.specs.Solver.{Term, answer}
use Rattle.rx_typeck_solver.specs.Tabled.{table_of, state_of, Fits}
use Rattle.rx_typeck_solver.specs.Ends.{Flat}

abbrev pub task_of : List Demand → List ℕ → Task
task_of ds ls = record { demands = ds; literals = ls }

-- the types that were found; where none was, the unit
abbrev pub types_of : Solved → Assignment
types_of s = answer (state_of s.arena.entries.items s.tables)

abbrev pub HasTerm : Solved → Subject → Type 0
HasTerm s x = (t : Term) × (table_of s.arena.entries.items s.tables x ≡ Some t)

-- the tables hold together
pub record IsSound (s : Solved) : Type 0 where
  pub fits : Fits s.arena.entries.items s.tables
  pub flat : Flat s.tables.classes.parents.items

-- the types are the valid assignment, and exactly what the demands tell has a type
pub record IsSolved (K : KnownItems) (task : Task) (s : Solved) : Type 0 where
  pub valid : Valid K task (types_of s)
  pub told : (x : Subject) → Told task.demands x ↔ HasTerm s x
  pub sound : IsSound s

-- a node breaks a rule, or it isn't clear which type is meant there; the span is that of a demand at the node
abbrev pub IsUnsolved : KnownItems → Task → Unsolved → Type 0
IsUnsolved K task (unsolved.Broken n s b) = (Breaks K task n b ⊎ ((b ≡ broken.Mismatch Rule.Unclear) × IsUnclear K task n)) × Asked task.demands n s
IsUnsolved K task unsolved.OutOfMemory = Unit {0}

-- what is answered of a node at which it isn't clear which type is meant
abbrev pub UnclearAt : List Demand → ℕ → Unsolved → Type 0
UnclearAt ds n (unsolved.Broken m s b) = (m ≡ n) × (b ≡ broken.Mismatch Rule.Unclear) × Asked ds n s
UnclearAt ds n unsolved.OutOfMemory = ⊥
