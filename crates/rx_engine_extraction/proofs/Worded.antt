-- The function of an item is one of the program's; a run without its block's tail has no value.
use Rattle.std.proofs.Common.{◌≡◌, ℕ, Bool, true, false, ◌==◌, List, [], ◌∷◌, Option, Some, None, ap, subst}
use Rattle.std.specs.Prelude.{if◌then◌else◌}
use Rattle.rx_tree.specs.Plain.{ProgramTree}
use Rattle.rx_typed.specs.Tree.{Body}
use Rattle.rx_typed_runs.specs.declared.runs.RunPos.{RunPos}
use Rattle.rx_typeck_typed.specs.declared.typed.TypedFn.{TypedFn}
use Rattle.rx_lower.specs.Functions.{function_at}
use Rattle.rx_lower_walks.specs.Walks.{Among}
use Rattle.rx_lower_walks.specs.Walks as walks
use Rattle.rx_exits_plan.specs.Blocks.{tail, written_tail}
use Rattle.rx_exits_plan.specs.Runs.{last_value}
use Rattle.rx_exits_plan.specs.Plan.{handed_value}
use Rattle.rx_hoist_nodes.specs.TypedRun.{typed_run}

one_function : (f g : TypedFn) (fs : List TypedFn) → ◌≡◌ {A = Option TypedFn} (Some f) (Some g) → Among g (f ∷ fs)
one_function f g fs e = let s : f ≡ g = cc in subst (λ (x : TypedFn). Among x (f ∷ fs)) s walks.here

pub function_among : (fs : List TypedFn) (n : ℕ) (g : TypedFn) → function_at fs n ≡ Some g → Among g fs
function_among [] n g e = absurd (cc)
function_among (f ∷ fs) n g e = by (f.item == n) e (function_among fs n g)
  where
    by : (b : Bool) → (if b then Some f else function_at fs n) ≡ Some g → (function_at fs n ≡ Some g → Among g fs) → Among g (f ∷ fs)
    by true e r = one_function f g fs e
    by false e r = walks.there (r e)

pub no_value : (p : ProgramTree) (r : RunPos) (b : Body) → r.tail ≡ false → handed_value (last_value (typed_run p r) b) ≡ None
no_value p r b e = ap (λ (c : Bool). handed_value (if c then Some (written_tail (typed_run p r).block (tail b)) else None)) e
