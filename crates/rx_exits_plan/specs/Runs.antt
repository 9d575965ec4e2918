-- A run: consecutive statements of one block of a function, perhaps with the block's tail, which are to become a function of their
-- own (REM: "Adventures in refactoring Rust: extract function", OOPSLA 2023); and where it sits.
use Rattle.std.specs.Prelude.{◌≡◌, ℕ, ◌+◌, ◌<◌, ◌≤◌, Bool, true, false, if◌then◌else◌, List, length, take, drop, Option, Some, None}
use Rattle.rx_typed.specs.Tree.{Exp, Body, Function}
use Rattle.rx_lower_walks.specs.Walks.{Among}
use Rattle.rx_exits_plan.specs.Blocks.{Statement, statements, tail, written_tail}
use Rattle.rx_exits_plan.specs.Spots.{Around, a_block, spots_of_function}

-- the block's node; how many of its statements stand in front, how many are of the run; whether the block's tail is of it
pub record Run : Type 0 where
  pub block : ℕ
  pub first : ℕ
  pub count : ℕ
  pub tail : Bool

-- the block of a run: what is around it, and its body
pub record Home : Type 0 where
  pub around : Around
  pub body : Body

-- ---- the statements in front of it, those of it, those behind it

abbrev pub in_front : Run → Body → List Statement
in_front r b = take r.first (statements b)

abbrev pub inside : Run → Body → List Statement
inside r b = take r.count (drop r.first (statements b))

abbrev pub behind : Run → Body → List Statement
behind r b = drop r.count (drop r.first (statements b))

-- its last value, where the block's tail is of it
abbrev pub last_value : Run → Body → Option Exp
last_value r b = if r.tail then Some (written_tail r.block (tail b)) else None

-- The function has the block, and the block has the run's statements. There is one at least, and with the tail all up to it.
pub record Sits (f : Function) (r : Run) (h : Home) : Type 0 where
  pub block : Among (a_block h.around r.block h.body) (spots_of_function f)
  pub fits : r.first + r.count ≤ length (statements h.body)
  pub some : (r.tail ≡ false) → 0 < r.count
  pub whole : (r.tail ≡ true) → r.first + r.count ≡ length (statements h.body)
