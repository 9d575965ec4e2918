use Rattle.std.proofs.Common.{inl, inr}
use Rattle.rx_exits_plan.specs.PlainPlan.{plan_of}
use Rattle.rx_exits_plan.specs.Unreachable.{first, not_begun}
use Rattle.rx_engine_planned.proofs.Apart.{no_both}
use Rattle.rx_engine_planned.proofs.DistinctNames.{names_apart}
use Rattle.rx_engine_planned.proofs.laws.params_and_locals_are_apart.Goals as goal

pub returns : goal.returns
returns c = record {
  numbers = λ A muts acc k plan reached. no_both A muts acc k plan (λ h. reached first (not_begun h));
  names = λ A names t few meant typed among q is sits plan muts acc reached. names_apart A
      (c.named_plans_have_distinct_names.ensures.params A names t few meant typed among q is sits plan) (c.named_plans_have_distinct_names.ensures.locals A names t few meant typed among q is sits plan)
      (no_both q muts acc (plan_of q A.plan) plan.plan (λ h. reached first (not_begun h)))
      (λ x y i j e. c.runs_tell_params_and_locals_by_names.ensures.apart A.program names t few meant typed A.function among q (plan_of q A.plan) is sits plan.plan x y (inl i) (inr j) e);
}
