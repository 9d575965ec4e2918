use Rattle.std.proofs.Common.{◌≡◌, ℕ, List, Some, inl}
use Rattle.rx_parse_grammar.proofs.Numbered.{text_numbered}
use Rattle.rx_resolve_names.specs.declared.resolved.ItemNames.{ItemNames}
use Rattle.rx_typeck_typed.specs.declared.typed.Typed.{Typed}
use Rattle.rx_lower_walks.specs.Walks.{Among}
use Rattle.rx_exits_plan.specs.Asked.{Asked}
use Rattle.rx_exits_plan.specs.Exits.{at_start}
use Rattle.rx_exits_plan.specs.PlainPlan.{plan_of}
use Rattle.rx_exits_plan.specs.Shadowed.{meant}
use Rattle.rx_exits.specs.Refusing.{same_name}
use Rattle.rx_hoist_naming.specs.NamedPlan.{names_in, Told}
use Rattle.rx_engine_called.specs.Planned.{Planned}
use Rattle.rx_engine_called.proofs.Tied.{behind_tells, run_tells}
use Rattle.rx_engine_called.proofs.laws.texts_tell_of_plans.Goals as goal

pub returns : goal.returns
returns c = record {
  run = λ A q bytes names t k r g tied.
      run_tells A q k.plan k.agree k.loops (λ x i o. c.outs_have_their_own_names.ensures.at_the_end q (plan_of q A.plan) (names_in A) k.visible i x o) (given A q bytes names t k) r g tied;
  behind = λ A q bytes names t k r g tied h.
      behind_tells A q k.plan k.agree k.loops (λ x i o. c.outs_have_their_own_names.ensures.at_the_end q (plan_of q A.plan) (names_in A) k.visible i x o) (given A q bytes names t k) r g tied h;
}
  where
    -- a param is in scope where the run begins
    given : (A : Told) (q : Asked) (bytes : List ℕ) (names : List ItemNames) (t : Typed) → Planned A q bytes names t → (x : ℕ) → Among x A.plan.params → meant (same_name (names_in A)) x (at_start q.run q.home).scope ≡ Some x
    given A q bytes names t k x i =
        c.runs_tell_params_and_locals_by_names.ensures.meant A.program names t (text_numbered bytes A.program k.parsed k.short) k.meant k.typed A.function k.among q (plan_of q A.plan) k.function k.sits k.plan.plan x (inl i)
