-- The run's block: what stands for the run, step by step; and walks that are told the same.
use Rattle.std.proofs.Common.{◌≡◌, refl, ap, Option, Some, None}
use Rattle.rx_engine_simulation.specs.Sights.{Renaming}
use Rattle.rx_engine_simulation.specs.Jumps.{Jumping}
use Rattle.rx_engine_alike.specs.Likeness.{if_so, and_then}
use Rattle.rx_engine_alike.specs.Forms.{Between}
use Rattle.rx_engine_alike.specs.PlainJumping.{plain-Jumping}
use Rattle.rx_engine_alike.specs.PlainLikeness.{plain-Between}
use Rattle.rx_engine_alike.specs.declared.jumping.Jumping as jumping
use Rattle.rx_engine_alike.specs.declared.between.Between as code
use Rattle.rx_engine_extracted.specs.Told.{Told}
use Rattle.rx_engine_extracted.specs.Stretches.{Passed}
use Rattle.rx_engine_extracted.specs.Handing.{Put, Stood, redeclared, is_within}
use Rattle.rx_engine_extracted.specs.Calls.{Called, called_by}
use Rattle.rx_engine_extracted.specs.Block.{function_runs, stands_for}
use Rattle.rx_engine_extracted.specs.PlainBlock.{call_runs}

one_by_one : {A B D : Type 0} (o : Option A) (f : A → Option B) (g : B → Option D) → and_then o (λ a. and_then (f a) g) ≡ and_then (and_then o f) g
one_by_one None f g = refl
one_by_one (Some a) f g = refl

pub stands_by : (T : Told) (J : Jumping) (p : Passed) (S : Stood)
    → stands_for T J p S ≡ and_then (call_runs T J p.inside p.text S.called) (λ Rb. and_then (redeclared Rb S.inside T.plan.redeclared S.rest) (λ D. if_so (is_within p.inside D.inside) (Some D)))
stands_by T J p S =
    one_by_one (called_by T J p.inside S.called) (λ K. function_runs T K p.inside p.text) (λ Rb. and_then (redeclared Rb S.inside T.plan.redeclared S.rest) (λ D. if_so
    (is_within p.inside D.inside) (Some D)))

pub ruleset stands_rules = (stands_by)

-- a walk that is told the same
pub told_as : {A : Type 0} (b : code.Between) (C : Between) (j : jumping.Jumping) (F : Between → Jumping → A) → plain-Between b ≡ C
    → F (plain-Between b) (plain-Jumping b.ways.elsewhere j) ≡ F C (plain-Jumping C.ways.elsewhere j)
told_as b C j F e = ap (λ (D : Between). F D (plain-Jumping D.ways.elsewhere j)) e
