-- The function with those marks that do nothing but to tell that a run came there: where it is entered, with reads of variables; at its end;
-- in front of each jump that leaves it. None stands behind what a `return` gives, since such a mark drops the value. So it does what the
-- function does. Of a run without its block's tail.
use Rattle.std.specs.Prelude.{ℕ, ◌==◌, if◌then◌else◌, false, List, [], map, Option, Some}
use Rattle.rx_typed.specs.Tree.{jump, Body, ends, Function}
use Rattle.rx_exits_plan.specs.Blocks.{tail, before}
use Rattle.rx_exits_plan.specs.Runs.{Run, in_front, inside, behind}
use Rattle.rx_exits_plan.specs.Changed.{Changes, changed_statement, changed_function}
use Rattle.rx_exits_plan.specs.Marked.{marked_jump, entering, ended}
use Rattle.rx_exits_plan.specs.Asked.{Asked}

abbrev pub passing : List ℕ → Changes
passing ls = record { at_block = λ n was b. b; at_jump = λ m l again. marked_jump ls m l again; at_return = λ e. e }

abbrev pub running_body : Run → List ℕ → List ℕ → Body → Body
running_body r ls xs b =
    before (in_front r b) (before (entering xs) (before (map (changed_statement (passing ls)) (inside r b)) (before (ended false) (before (behind r b) (ends (tail b))))))

abbrev pub in_the_block : Run → List ℕ → List ℕ → Changes
in_the_block r ls xs = record {
  at_block = λ n was b. if n == r.block then running_body r ls xs was else b;
  at_jump = λ m l again. jump m l again;
  at_return = λ e. e;
}

abbrev pub running : Run → List ℕ → List ℕ → Function → Function
running r ls xs f = changed_function (in_the_block r ls xs) f

abbrev pub running_of : Asked → List ℕ → Function
running_of A xs = running A.run A.home.around.loops xs A.function

-- an entry of a program, and of one with such texts for some functions
pub data MarkedEntry : Option (Option Function) → Option (Option Function) → Type 0 where
  as_it_is : {o : Option (Option Function)} → MarkedEntry o o
  marked_run : {g : Function} (r : Run) (ls : List ℕ) → MarkedEntry (Some (Some g)) (Some (Some (running r ls [] g)))
