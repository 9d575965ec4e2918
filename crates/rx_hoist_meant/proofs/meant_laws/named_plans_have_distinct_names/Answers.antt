use Rattle.std.proofs.Common.{inl, inr}
use Rattle.rx_exits_plan.specs.PlainPlan.{plan_of}
use Rattle.rx_hoist_naming.specs.NamedPlan.{names_in}
use Rattle.rx_hoist_meant.proofs.Plans.{params_distinct, locals_distinct, outs_distinct}
use Rattle.rx_hoist_meant.proofs.meant_laws.named_plans_have_distinct_names.Goals as goal

pub returns : goal.returns
returns c = record {
  params = λ A names t few m typed a q is s plan. params_distinct A q plan
      (λ x y i j e. c.runs_tell_params_and_locals_by_names.ensures.apart A.program names t few m typed A.function a q (plan_of q A.plan) is s plan.plan x y (inl i) (inl j) e);
  locals = λ A names t few m typed a q is s plan. locals_distinct A q plan
      (λ x y i j e. c.runs_tell_params_and_locals_by_names.ensures.apart A.program names t few m typed A.function a q (plan_of q A.plan) is s plan.plan x y (inr i) (inr j) e);
  outs = λ A q plan agree none l i. outs_distinct A q plan agree
      (λ e k x y f g same. c.outs_have_their_own_names.ensures.apart q (plan_of q A.plan) (names_in A) plan.plan none e k x y f g same) l i;
}
