use Rattle.std.proofs.Common.{◌-◌, refl, sym, ◌∙◌, arith}
use Rattle.rx_hoist_changes.specs.declared.jumps.Around.TheVariants as form
use Rattle.rx_hoist_changes.proofs.JumpLemmas.{at_test, past_loop, at_loop}
use Rattle.rx_hoist_changes.proofs.jumps.loop_left.Goals as goal

pub returns-in-Test : goal.returns-in-Test
returns-in-Test c =
    at_test c.args.wanted.now c.args.around.now c.loop-left.left (c.loop-left.left - 1) _ _ (omega arith) (omega arith) c.in-Test.is c.loop-left.invariant.same

pub loop-left-preserved : goal.loop-left-preserved
loop-left-preserved c = record {
  same =
      past_loop c.args.wanted.now c.args.around.now c.loop-left.left (c.loop-left.left - 1) (form.Loop c.in-Loop.label c.in-Loop.number) _ _ c.in-Loop.number _ (omega arith) (omega arith)
      c.in-Loop.is refl (sym c.if-is_meant.ensures) c.loop-left.invariant.same;
  within = omega arith;
}

pub returns-then-is_meant : goal.returns-then-is_meant
returns-then-is_meant c =
    c.outside.ensures
    ∙ at_loop c.args.wanted.now c.args.around.now c.loop-left.left (c.loop-left.left - 1) (form.Loop c.in-Loop.label c.in-Loop.number) _ _ c.in-Loop.number _ (omega arith) (omega arith)
    c.in-Loop.is refl (sym c.if-is_meant.ensures) c.loop-left.invariant.same
