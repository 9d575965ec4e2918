-- What the code's changes stand for: those of blocks, jumps and operands of `return`. (REM, OOPSLA 2023.)
use Rattle.std.specs.Prelude.{ℕ, if◌then◌else◌, List, ◌++◌, map, take, drop}
use Rattle.rx_typed.specs.Tree.{Exp, jump, unit, Body, mark_of}
use Rattle.rx_exits_plan.specs.PlainPlan.{plain-Run, plain-Exit}
use Rattle.rx_exits_plan.specs.Points as points
use Rattle.rx_exits_plan.specs.Changed.{Changes, changed, changed_statement}
use Rattle.rx_exits_plan.specs.Blocks.{Statement}
use Rattle.rx_exits_plan.specs.Runs.{Run}
use Rattle.rx_exits_plan.specs.Marked.{marking, entering, ended, ended_tail, marked_body, at_the_block}
use Rattle.rx_modes_uses.specs.Outside as outside
use Rattle.rx_modes_uses.specs.Outside.{cutting}
use Rattle.rx_exits_tree.specs.declared.changes.Change.{Change}
use Rattle.rx_exits_tree.specs.declared.changes.AtBlock.{AtBlock}
use Rattle.rx_exits_tree.specs.declared.marks.Point.{Point}

-- all stays as it is
abbrev pub keeping : Changes
keeping = record {
  at_block = λ n was b. b;
  at_jump = λ m l again. jump m l again;
  at_return = λ e. e;
}

abbrev pub changes_of : Change → Changes
changes_of Change.Keep = keeping
changes_of (Change.Mark ls) = marking ls.now
changes_of (Change.MarkAt r ls xs) = at_the_block (plain-Run r) ls.now xs.now
changes_of (Change.CutAt r) = cutting (plain-Run r)

-- what becomes of a block, by its body as it was and its body with changes inside
abbrev pub body_of : AtBlock → Body → Body → Body
body_of AtBlock.Inside was b = b
body_of (AtBlock.Marked r ls xs) was b = marked_body (plain-Run r) ls.now xs.now was
body_of (AtBlock.Cut r) was b = outside.without_run (plain-Run r) was

-- its statements and its tail

abbrev pub marked_list : Run → List ℕ → List ℕ → List Statement → List Statement
marked_list r ls xs l =
    take r.first l ++ entering xs ++ map (changed_statement (marking ls)) (take r.count (drop r.first l)) ++ ended r.tail ++ drop r.count (drop r.first l)

abbrev pub cut_list : Run → List Statement → List Statement
cut_list r l = take r.first l ++ drop r.count (drop r.first l)

abbrev pub statements_at : AtBlock → Changes → List Statement → List Statement
statements_at AtBlock.Inside C l = map (changed_statement C) l
statements_at (AtBlock.Marked r ls xs) C l = marked_list (plain-Run r) ls.now xs.now l
statements_at (AtBlock.Cut r) C l = cut_list (plain-Run r) l

abbrev pub tail_at : AtBlock → Changes → Exp → Exp
tail_at AtBlock.Inside C e = changed C e
tail_at (AtBlock.Marked r ls xs) C e = ended_tail r.tail r.block ls.now e
tail_at (AtBlock.Cut r) C e = if r.tail then unit (mark_of e) else e

abbrev pub plain-Point : Point → points.Point
plain-Point Point.Enters = points.enters
plain-Point (Point.Leaves e) = points.leaves (plain-Exit e)
