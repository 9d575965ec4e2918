-- Classes of numbers: each number has a parent, itself or a lower one; the class is named by its least number.
use Rattle.std.specs.Prelude.{◌≡◌, ℕ, zero, suc, ◌≤◌, nat_eq, if◌then◌else◌, List, length, get_or}
use Rattle.rx_typeck_solver.specs.declared.facts.Kinds.{Kinds}
use Rattle.rx_typeck_solver.specs.Solver.{all_kinds, some_kind, Step, Go, No, State, Term}
use Rattle.rx_typeck_solver.specs.declared.facts.Subject.{Subject}
use Rattle.std.specs.Prelude.{Bool, true, false, IsTrue, Option}

-- a number past the list's end is its own parent
abbrev pub top : ℕ → List ℕ → ℕ → ℕ
top zero ps z = z
top (suc n) ps z = if nat_eq (get_or ps z z) z then z else top n ps (get_or ps z z)

unfoldable pub rep_of : List ℕ → ℕ → ℕ
rep_of ps z = top z ps z

-- no parent is higher
abbrev pub Falling : List ℕ → Type 0
Falling ps = (z : ℕ) → get_or ps z z ≤ z

unfoldable pub set_of : List Kinds → ℕ → Kinds
set_of ss z = get_or ss z all_kinds

-- each class has an integer type
abbrev pub SomeLeft : List Kinds → Type 0
SomeLeft ss = (z : ℕ) → IsTrue (some_kind (set_of ss z))

-- the state of these shapes and classes
abbrev pub state_in : (Subject → Option Term) → List ℕ → List Kinds → State
state_in tab ps ss = record { shapes = tab; rep = rep_of ps; set = set_of ss }

-- parents and sets of classes
pub record Classed (ps : List ℕ) (ss : List Kinds) : Type 0 where
  pub falling : Falling ps
  pub as_many : length ss ≡ length ps
  pub left : SomeLeft ss

abbrev pub step_if : Bool → State → Step
step_if true st = Go st
step_if false st = No
