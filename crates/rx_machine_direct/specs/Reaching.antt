-- How far an expression comes at once: what is left of it, with the memory then.
use Rattle.std.specs.Prelude.{◌≡◌, ◌≤◌, ℕ, ◌+◌, List, [], Option}
use Rattle.rx_typed.specs.Tree.{Exp, Body}
use Rattle.rx_meaning.specs.Values.{Value, slot_of, State, with_memory}
use Rattle.rx_meaning.specs.Results.{Result, on}
use Rattle.rx_meaning.specs.Expressions.{Functions}
use Rattle.rx_machine_running.specs.Running.{Meaning, value, body}
use Rattle.rx_machine_frames.specs.Sizes.{size, size_body}
use Rattle.rx_machine_direct.specs.Direct.{recorded}

pub data Reach : Type 0 where
  into : Exp → Reach
  statements : Body → Reach
  gave : Value → Reach

-- the state has this memory, and this table tells the newest slot of each variable
abbrev pub Shows : List (Option ℕ) → List Value → State → Type 0
Shows T M s = (s.memory ≡ M) × ((x : ℕ) → slot_of s.frame.slots x ≡ recorded T x)

abbrev pub reached : Functions → Meaning → Reach → State → Result ℕ Value
reached P below (into e) s = value P below e s
reached P below (statements b) s = body P below b s
reached P below (gave v) s = on [] v s

abbrev pub reach_size : Reach → ℕ
reach_size (into e) = size e
reach_size (statements b) = 1 + size_body b
reach_size (gave v) = 1

-- what is left is all that the expression does from there, whatever is called and however deep, and it is no more
abbrev pub Comes : List (Option ℕ) → List Value → Exp → List Value → Reach → Type 0
Comes T M e N r = ((P : Functions) (below : Meaning) (s : State) → Shows T M s → value P below e s ≡ reached P below r (with_memory s N)) × (reach_size r ≤ size e)

-- the same of statements
abbrev pub ComesBody : List (Option ℕ) → List Value → Body → List Value → Body → Type 0
ComesBody T M b N c = ((P : Functions) (below : Meaning) (s : State) → Shows T M s → body P below b s ≡ body P below c (with_memory s N)) × (size_body c ≤ size_body b)
