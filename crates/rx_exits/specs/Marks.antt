-- Marks among the sites of a graph: each is told by the number of its point. (Rust Reference, "Expressions", on the order in which they
-- are evaluated.)
use Rattle.std.specs.Prelude.{ℕ, suc, Bool, false, ◌&&◌, ◌==◌, if◌then◌else◌, List, [], ◌∷◌, ◌++◌}
use Rattle.rx_typed.specs.Tree.{Temporary, tuple, temporary_at}
use Rattle.rx_lower_walks.specs.Actions.{Act, Build, Action, does}
use Rattle.rx_lower_walks.specs.Graph.{Site}
use Rattle.rx_exits_plan.specs.Points as points
use Rattle.rx_exits_plan.specs.Points.{enters, leaves}
use Rattle.rx_exits_plan.specs.Unmarked.{makes_mark}
use Rattle.rx_exits_plan.specs.PlainPlan.{plain-Exit}
use Rattle.rx_exits.specs.declared.marks.Point.{Point}
use Rattle.rx_exits.specs.declared.marks.Point.TheVariants as point
use Rattle.rx_exits.specs.declared.marks.MarkSite.{MarkSite}

abbrev pub plain-Point : Point → points.Point
plain-Point point.Enters = enters
plain-Point (point.Leaves e) = leaves (plain-Exit e)

-- the mark of the point with this number
abbrev pub mark_at : ℕ → Action
mark_at n = does n (Build tuple [] [] (temporary_at n 0))

-- ---- what private functions do

abbrev pub is_at : ℕ → Temporary → Bool
is_at n t = (t.node == n) && (t.which == 0)

abbrev pub makes_mark_at : ℕ → Act → Bool
makes_mark_at n (Build w is ts d) = makes_mark w is ts && is_at n d
makes_mark_at n _ = false

-- whether an action is a mark
abbrev pub shows_mark : Action → Bool
shows_mark a = makes_mark_at a.node a.act

-- a site is noted where its action is a mark
abbrev pub noted : List MarkSite → ℕ → Action → List MarkSite
noted ms i a = if shows_mark a then ms ++ record { site = i; point = a.node } ∷ [] else ms

-- the marks among these sites, the first of which has this number
abbrev pub marks_from : ℕ → List Site → List MarkSite
marks_from i [] = []
marks_from i (s ∷ g) = if shows_mark s.action then record { site = i; point = s.action.node } ∷ marks_from (suc i) g else marks_from (suc i) g
