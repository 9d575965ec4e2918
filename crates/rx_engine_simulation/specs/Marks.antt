-- What the text alone has: marks at the points of a run, `()` made as a tuple, by which its histories tell where they have come to; and
-- where the run is entered, reads of variables, as the call has them (REM, "Extract method"). The answer has nothing for them.
use Rattle.std.specs.Prelude.{ℕ, false, List, [], ◌∷◌}
use Rattle.rx_typed.specs.Tree as tree
use Rattle.rx_typed.specs.Tree.{Exp, Body, Temporary, own}
use Rattle.rx_lower_walks.specs.Actions.{Action}
use Rattle.rx_lower_walks.specs.Orders.{order_body}
use Rattle.rx_exits_plan.specs.Points.{Point, enters}
use Rattle.rx_exits_plan.specs.Marked.{at_point, mark, mark_then}
use Rattle.rx_engine_simulation.specs.Histories.{Facts, Written}
use Rattle.rx_engine_simulation.specs.Sights.{In, Renaming}
use Rattle.rx_engine_simulation.specs.Openings.{Openings}
use Rattle.rx_engine_simulation.specs.Passed.{let_pass}
use Rattle.rx_engine_simulation.specs.Blocks.{Stretch, done, does_then, declares_then, lets_then, before}

-- reads of variables in front of statements, and a mark in front of those
abbrev pub reading : List ℕ → Stretch → Stretch
reading [] r = r
reading (x ∷ xs) r = does_then (tree.read (at_point enters) false (own x)) (reading xs r)

abbrev pub with_mark : Point → List ℕ → Stretch → Stretch
with_mark p xs r = does_then (mark p) (reading xs r)

-- statements with a mark behind them
abbrev pub closed_by : Stretch → Point → Stretch
closed_by done p = does_then (mark p) done
closed_by (does_then e r) p = does_then e (closed_by r p)
closed_by (declares_then n xs r) p = declares_then n xs (closed_by r p)
closed_by (lets_then n q c r) p = lets_then n q c (closed_by r p)

-- each was written where a walk of the text comes to the mark
abbrev pub AreWritten : Facts → Point → List ℕ → Type 0
AreWritten V p xs = (x : ℕ) → In x xs → (b : Body) (i : ℕ) (t : Temporary) (h : List Action) → V.Comes (order_body (tree.runs (mark p) b) i t) h → Written h x

-- ---- openings: a text with marks for one without

pub data MarksExpression : (Exp → Exp) → (Exp → Exp) → Type 0 where
  marks_expression : (p : Point) → MarksExpression (λ e. mark_then p e) (λ e. e)
  -- or it tells that it is behind the value
  marks_value : MarksExpression (λ e. let_pass e) (λ e. e)

pub data MarksStatements (V : Facts) (R : Renaming) : Renaming → (Body → Body) → (Body → Body) → Type 0 where
  marks_statements : (p : Point) (xs : List ℕ) → AreWritten V p xs → MarksStatements V R R (λ b. before (with_mark p xs done) b) (λ b. b)

abbrev pub marks : Openings
marks = record { expression = λ V a J R e f g. MarksExpression f g; statements = λ V a J R S b f g. MarksStatements V R S f g }
