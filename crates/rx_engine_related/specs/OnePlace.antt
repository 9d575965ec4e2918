-- That marks of one exit lead to one place: behind each of them variables end, and walks go on alike (Rust Reference, "break expressions",
-- "continue expressions"; "Destructors", "Drop scopes"). And the loops of a part, by which jumps are told.
use Rattle.std.specs.Prelude.{ℕ, if◌then◌else◌, List, [], ◌∷◌, ◌++◌}
use Rattle.rx_typed.specs.Tree.{Body, Function, temporary_of}
use Rattle.rx_lower_walks.specs.Actions.{Dead, Action, does}
use Rattle.rx_lower_walks.specs.Orders.{Order, order, order_scrutinee}
use Rattle.rx_lower_walks.specs.Orders as orders
use Rattle.rx_lower_walks.specs.Walks.{IsWalk}
use Rattle.rx_exits_plan.specs.Blocks as block
use Rattle.rx_exits_plan.specs.Blocks.{Statement, tail}
use Rattle.rx_exits_plan.specs.Runs.{Run, inside}

-- two lists of actions are one behind variables that end
pub data MeetInOne : List Action → List Action → Type 0 where
  alike : {us : List Action} → MeetInOne us us
  ends_in_one : {n x : ℕ} {us vs : List Action} → MeetInOne us vs → MeetInOne (does n (Dead x) ∷ us) vs
  ends_in_other : {n x : ℕ} {us vs : List Action} → MeetInOne us vs → MeetInOne us (does n (Dead x) ∷ vs)

-- what follows the action on one walk follows it on each other, but for such ends
abbrev pub LeadsToOnePlace : Function → Action → Type 0
LeadsToOnePlace f a = (w v us : List Action) → IsWalk f (w ++ a ∷ us) → IsWalk f (v ++ a ∷ []) → (vs : List Action) × MeetInOne us vs × IsWalk f (v ++ a ∷ vs)

abbrev pub loops_in : Order → List ℕ
loops_in orders.nothing = []
loops_in orders.nowhere = []
loops_in (orders.act a) = []
loops_in (orders.then s t) = loops_in s ++ loops_in t
loops_in (orders.or s t) = loops_in s ++ loops_in t
loops_in (orders.leave x) = []
loops_in orders.fail = []
loops_in (orders.otherwise s t) = loops_in s ++ loops_in t
loops_in (orders.ending n x s) = loops_in s
loops_in (orders.passes l s) = l ∷ loops_in s

abbrev pub loops_of : List Statement → List ℕ
loops_of [] = []
loops_of (block.does e ∷ ss) = loops_in (order e (temporary_of e)) ++ loops_of ss
loops_of (block.begins s xs ∷ ss) = loops_of ss
loops_of (block.binds s p c ∷ ss) = loops_in (order_scrutinee c) ++ loops_of ss

-- those of a run, with its block's tail where this is of it
abbrev pub loops_of_run : Run → Body → List ℕ
loops_of_run r b = loops_of (inside r b) ++ (if r.tail then loops_in (order (tail b) (temporary_of (tail b))) else [])
