-- What is told of a tree and a frame is told of a function of a typed program.
use Rattle.std.proofs.Common.{◌≡◌, ℕ, List, map, option_map, Option, Result, Ok, Err, IfOk, refl, ap, sym}
use Rattle.std.specs.declared.alloc.AllocError.{AllocError}
use Rattle.rx_core.specs.declared.types.Ty.{Ty}
use Rattle.rx_typed.specs.Types.{Declarations}
use Rattle.rx_typed.specs.PlainTypes.{plain-Ty}
use Rattle.rx_typed.specs.PlainTree.{plain-TypedTree}
use Rattle.rx_typeck_typed.specs.declared.typed.TypedFn.{TypedFn}
use Rattle.rx_lower.specs.Functions.{trimmed}
use Rattle.rx_facts_tables.specs.Places.{Frame}
use Rattle.rx_exits_plan.specs.Runs.{Home}
use Rattle.rx_exits_plan.specs.declared.plan.Run.{Run}
use Rattle.rx_exits_plan.specs.PlainPlan.{plain-Run}
use Rattle.rx_exits_plan.specs.Asked.{Asked}
use Rattle.rx_exits.specs.declared.run_points.RunPoints.{RunPoints}
use Rattle.rx_exits.specs.AskedOf.{asked_of}
use Rattle.rx_exits.specs.Points.{IsPoints}

abbrev frame_with : Declarations → (ℕ → ℕ) → List (Option Ty) → Frame
frame_with D P ts = record { declared = D; sizes = P; types = map (option_map plain-Ty) ts }

pub asked : (D : Declarations) (P : ℕ → ℕ) (f : TypedFn) (r : Run) (loops : List ℕ) (ts : List (Option Ty)) (made : Result RunPoints AllocError) → ts ≡ trimmed f.variables
    → IfOk made (λ p. (A : Asked) → A.function ≡ plain-TypedTree f.tree → A.run ≡ plain-Run r → A.home.around.loops ≡ loops → A.frame ≡ frame_with D P ts → IsPoints A p)
    → IfOk made (λ p. (h : Home) → h.around.loops ≡ loops → IsPoints (asked_of D P f r h) p)
asked D P f r loops ts (Ok p) e told = λ h same. told (asked_of D P f r h) refl refl same (ap (λ l. frame_with D P l) (sym e))
asked D P f r loops ts (Err x) e told = tt
