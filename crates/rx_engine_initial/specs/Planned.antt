-- The text that a new function comes from: the function with marks at the points of a run, and reads of the params where it is entered; and
-- a part of it where a mark is met first.
use Rattle.std.specs.Prelude.{◌≡◌, ℕ, List, [], ◌∷◌, ◌++◌}
use Rattle.rx_lower_walks.specs.Actions.{Action}
use Rattle.rx_lower_walks.specs.Orders.{Order}
use Rattle.rx_lower_walks.specs.Walks.{IsWalk, Among}
use Rattle.rx_exits_plan.specs.Points.{Point}
use Rattle.rx_exits_plan.specs.Marked.{shown}
use Rattle.rx_exits_plan.specs.Asked.{Asked}
use Rattle.rx_exits_plan.specs.Plan.{Plan}
use Rattle.rx_engine_related.specs.AboutRun.{text_of}
use Rattle.rx_engine_initial.specs.Matching.{Reach}
use Rattle.rx_engine_initial.specs.Variables.{as_itself, Sides, KnownVariables}
use Rattle.rx_engine_initial.specs.Copies.{world}

-- the text is that of a plan
pub record IsTextOf (S : Sides) (A : Asked) (k : Plan) : Type 0 where
  pub text : S.text ≡ text_of A k
  pub types : S.frame_there ≡ A.frame

-- each walk that comes to a part goes on to a mark at once
abbrev pub MeetsMark : Sides → Point → Order → Type 0
MeetsMark S p q = (w : List Action) → Reach (world S) q w → IsWalk S.text (w ++ shown p ∷ [])

-- the new function's variables for these
abbrev pub AllFor : {S : Sides} → KnownVariables S → List ℕ → List ℕ → Type 0
AllFor R xs ys = (x : ℕ) → Among x xs → (y : ℕ) × Among (as_itself x y) R.variables × Among y ys
