-- The text that runs, of a run that holds its block's tail: as that of a run without (Running), but the tail's value is let pass at the run's end, which
-- drops nothing; and it has the marks of the tail's jumps.
use Rattle.std.specs.Prelude.{◌≡◌, ◌≤◌, ℕ, ◌+◌, ◌==◌, ◌||◌, if◌then◌else◌, Bool, true, false, List, ◌∷◌, map}
use Rattle.rx_typed.specs.Tree.{Making, lazy, Exp, jump, give, Body, ends, Function}
use Rattle.rx_lower_walks.specs.Actions.{Act, Build, Action}
use Rattle.rx_lower_walks.specs.Orders.{Order, order_function}
use Rattle.rx_lower_walks.specs.Orders as order
use Rattle.rx_lower_walks.specs.Walks.{actions_in, Among}
use Rattle.rx_exits_plan.specs.Blocks.{tail, before}
use Rattle.rx_exits_plan.specs.Runs.{Run, in_front, inside, behind}
use Rattle.rx_exits_plan.specs.Changed.{Changes, changed, changed_statement, changed_function}
use Rattle.rx_exits_plan.specs.Marked.{entering}
use Rattle.rx_exits_plan.specs.Unmarked.{is_mark}
use Rattle.rx_exits_plan.specs.Asked.{Asked}
use Rattle.rx_engine_simulation.specs.Passed.{let_pass}
use Rattle.rx_engine_related.specs.Running.{passing}

-- that of a function's body stands in a `give` at the block's node
abbrev pub passing_value : ℕ → List ℕ → Exp → Exp
passing_value n ls (give m e) = if m.node == n then give m (let_pass (changed (passing ls) e)) else let_pass (changed (passing ls) (give m e))
passing_value n ls e = let_pass (changed (passing ls) e)

abbrev pub tailed_body : Run → List ℕ → List ℕ → Body → Body
tailed_body r ls xs b =
    before (in_front r b) (before (entering xs) (before (map (changed_statement (passing ls)) (inside r b)) (before (behind r b) (ends (passing_value r.block ls (tail b))))))

abbrev pub in_the_tailed_block : Run → List ℕ → List ℕ → Changes
in_the_tailed_block r ls xs = record {
  at_block = λ n was b. if n == r.block then tailed_body r ls xs was else b;
  at_jump = λ m l again. jump m l again;
  at_return = λ e. e;
}

abbrev pub tailed : Run → List ℕ → List ℕ → Function → Function
tailed r ls xs f = changed_function (in_the_tailed_block r ls xs) f

abbrev pub tailed_of : Asked → List ℕ → Function
tailed_of A xs = tailed A.run A.home.around.loops xs A.function

-- ---- how often an order lets a value pass, or has the mark of an end

abbrev pub makes_pass : Making → List ℕ → Bool
makes_pass lazy (i ∷ is) = true
makes_pass _ _ = false

abbrev pub lets_pass : Act → Bool
lets_pass (Build w is ts d) = makes_pass w is
lets_pass _ = false

-- the mark of a run's end has the node 1
abbrev pub tells_end : Action → Bool
tells_end a = lets_pass a.act || (if is_mark a.act then a.node == 1 else false)

abbrev pub one_if : Bool → ℕ
one_if true = 1
one_if false = 0

abbrev pub tells : (Action → Bool) → Order → ℕ
tells Q order.nothing = 0
tells Q order.nowhere = 0
tells Q (order.act a) = one_if (Q a)
tells Q (order.then s t) = tells Q s + tells Q t
tells Q (order.or s t) = tells Q s + tells Q t
tells Q (order.leave x) = 0
tells Q order.fail = 0
tells Q (order.otherwise s t) = tells Q s + tells Q t
tells Q (order.ending n x s) = tells Q s
tells Q (order.passes l s) = tells Q s

-- what an order of a text is
pub record HasNoPass (s : Order) : Type 0 where
  pub none : (a : Action) → Among a (actions_in s) → lets_pass a.act ≡ false

-- the function lets no value pass; and the end is told at one place of the text, at most
pub record TellsOnce (A : Asked) (xs : List ℕ) : Type 0 where
  pub none_before : tells (λ a. lets_pass a.act) (order_function A.function) ≡ 0
  pub once : tells tells_end (order_function (tailed_of A xs)) ≤ 1
