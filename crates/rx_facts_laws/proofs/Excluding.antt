-- A fault is of an action that some walk holds, and says that it isn't in order there.
use Rattle.std.proofs.Common.{ℕ, Bool, List, sym, ◌∙◌, true≢false}
use Rattle.rx_typed.specs.Tree.{Place, Function}
use Rattle.rx_facts_tables.specs.Places.{Frame}
use Rattle.rx_facts_tables.specs.Initialised.{Initialised, IsUnset, looked, entered, IsAgain, again}

pub unset_excludes : (F : Frame) (muts : List Bool) (f : Function) (n : ℕ) (p : Place) → IsUnset F f n p → Initialised F muts f → ⊥
unset_excludes F muts f n p (looked w a walk e at u) h = true≢false (sym ((h w a walk).looks p at u.0 u.1) ∙ u.2)
unset_excludes F muts f n p (entered w a x qs walk e is i s) h = true≢false (sym ((h w a walk).enters x qs i) ∙ s)

pub again_excludes : (F : Frame) (muts : List Bool) (f : Function) (n x : ℕ) → IsAgain muts f n x → Initialised F muts f → ⊥
again_excludes F muts f n x (again w a walk e i fixed was) h = true≢false (sym was ∙ (h w a walk).assigns x i fixed)
