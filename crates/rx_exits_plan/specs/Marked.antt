-- The function with marks at the points of a run. A mark is `()` made as a tuple: one action that no tree of a text has, which sets,
-- unsets and uses no variable. It stands where the run is entered, at its end, in front of each jump that leaves it, and behind
-- the operand of each of its `return`s. So a walk comes to a point of the run, also where nothing is done there, where it holds
-- the point's mark.
use Rattle.std.specs.Prelude.{ℕ, ◌==◌, if◌then◌else◌, Bool, true, false, ◌||◌, List, [], ◌∷◌, ◌++◌, map, None}
use Rattle.rx_typed.specs.Tree.{Mark, tuple, Exp, read, build, unit, block, jump, give, no_operand, Body, ends, runs, Function, own, mark_of, temporary_at}
use Rattle.rx_lower_walks.specs.Actions.{Build, Action}
use Rattle.rx_lower_walks.specs.Actions as action
use Rattle.rx_lower_walks.specs.Walks.{IsWalk}
use Rattle.rx_exits_plan.specs.Blocks.{Statement, does, tail, before}
use Rattle.rx_exits_plan.specs.Runs.{Run, Home, in_front, inside, behind}
use Rattle.rx_exits_plan.specs.Points.{next, returns, jump_exit, Point, enters, leaves, number}
use Rattle.rx_exits_plan.specs.Changed.{Changes, changed, changed_statement, changed_function}

-- ---- marks

-- at the node of the point's number
abbrev pub at_point : Point → Mark
at_point p = record { node = number p; typ = None }

abbrev pub mark : Point → Exp
mark p = build (at_point p) tuple no_operand

-- what a walk shows of it
abbrev pub shown : Point → Action
shown p = action.does (number p) (Build tuple [] [] (temporary_at (number p) 0))

-- in front of an expression; behind it, its value being dropped and left in its temporary
abbrev pub mark_then : Point → Exp → Exp
mark_then p e = block (mark_of e) (runs (mark p) (ends e))

abbrev pub then_mark : Point → Exp → Exp
then_mark p e = block (mark_of e) (runs e (runs (mark p) (ends (unit (mark_of e)))))

-- ---- inside the run

abbrev pub is_among : ℕ → List ℕ → Bool
is_among l [] = false
is_among l (k ∷ ks) = (l == k) || is_among l ks

-- a jump leaves the run where its loop is one of these, those around the run
abbrev pub marked_jump : List ℕ → Mark → ℕ → Bool → Exp
marked_jump ls m l again = if is_among l ls then mark_then (leaves (jump_exit l again)) (jump m l again) else jump m l again

abbrev pub marking : List ℕ → Changes
marking ls = record {
  at_block = λ n was b. b;
  at_jump = λ m l again. marked_jump ls m l again;
  at_return = λ e. then_mark (leaves returns) e;
}

-- ---- its block

-- where it is entered: the mark, and a use of each of these variables
abbrev pub using : ℕ → Statement
using x = does (read (at_point enters) false (own x))

abbrev pub entering : List ℕ → List Statement
entering xs = does (mark enters) ∷ map using xs

-- the end of the run, where it has not the block's tail; a tail that it has
abbrev pub ended : Bool → List Statement
ended true = []
ended false = does (mark (leaves next)) ∷ []

-- that of a function's body stands in a `give` at the block's node, which is none of the run
abbrev pub ended_value : ℕ → List ℕ → Exp → Exp
ended_value n ls (give m e) =
    if m.node == n then give m (then_mark (leaves next) (changed (marking ls) e)) else then_mark (leaves next) (changed (marking ls) (give m e))
ended_value n ls e = then_mark (leaves next) (changed (marking ls) e)

abbrev pub ended_tail : Bool → ℕ → List ℕ → Exp → Exp
ended_tail true n ls e = ended_value n ls e
ended_tail false n ls e = e

abbrev pub marked_body : Run → List ℕ → List ℕ → Body → Body
marked_body r ls xs b =
    before (in_front r b) (before (entering xs) (before (map (changed_statement (marking ls)) (inside r b)) (before (ended r.tail) (before (behind r b)
    (ends (ended_tail r.tail r.block ls (tail b)))))))

-- ---- its function

abbrev pub at_the_block : Run → List ℕ → List ℕ → Changes
at_the_block r ls xs = record {
  at_block = λ n was b. if n == r.block then marked_body r ls xs was else b;
  at_jump = λ m l again. jump m l again;
  at_return = λ e. e;
}

-- by the loops around the run, and the variables that are used where it is entered
abbrev pub marked : Run → List ℕ → List ℕ → Function → Function
marked r ls xs f = changed_function (at_the_block r ls xs) f

-- ---- walks at points

-- a walk that came to a point of the run behind these actions, where no variable is used on entry
abbrev pub ComesTo : Function → Run → Home → Point → List Action → Type 0
ComesTo f r h p w = IsWalk (marked r h.around.loops [] f) (w ++ shown p ∷ [])
