use Rattle.std.proofs.Common.{ap, length}
use Rattle.rx_exits_plan.specs.PlainPlan.{plan_of}
use Rattle.rx_modes_uses.specs.Uses.{IsUses}
use Rattle.rx_modes.proofs.Using.{param_at, each_none, counted, each_more, each_all}
use Rattle.rx_modes.proofs.uses.all_uses.Goals as goal

pub loop-variable-init : goal.loop-variable-init
loop-variable-init c = record {
  count = ap length c.new-all.ensures.items;
  uses = λ A muts known. each_none (IsUses A muts (plan_of A c.args.known.now.plan.now)) c.as_slice-params.result.now c.new-all.result.items c.new-all.ensures.items;
}

pub loop-variable-preserved : goal.loop-variable-preserved
loop-variable-preserved c = record {
  count = counted c.loop-variable.all.items c.push.new.self.items c.uses_of.result c.loop-variable.variable-index c.in_ok-push.ensures.items c.loop-variable.invariant.count;
  uses = λ A muts known. each_more (IsUses A muts (plan_of A c.args.known.now.plan.now)) c.as_slice-params.result.now c.loop-variable.all.items c.push.new.self.items
      c.loop-variable.variable-index 0 c.uses_of.result c.loop-variable-test.true c.in_ok-push.ensures.items
      (c.uses_of.ensures A muts known (param_at c.as_slice-params.result.now c.args.known.now.plan.now.params c.loop-variable.variable-index c.as_slice-params.ensures c.loop-variable-test.true))
      (c.loop-variable.invariant.uses A muts known);
}

pub returns-clause-uses : goal.returns-clause-uses
returns-clause-uses c A muts known = each_all (IsUses A muts (plan_of A c.args.known.now.plan.now)) c.as_slice-params.result.now c.args.known.now.plan.now.params c.loop-variable.all.items
    c.loop-variable.variable-index c.loop-variable-test.false c.as_slice-params.ensures (c.loop-variable.invariant.uses A muts known)
