use Rattle.std.proofs.Common.{◌-◌, [], ap, sym, ◌∙◌, refl, arith}
use Rattle.rx_hoist_changes.specs.declared.jumps.Around.TheVariants as form
use Rattle.rx_hoist_changes.specs.Standing.{around_behind}
use Rattle.rx_hoist_changes.proofs.JumpLemmas.{round_next, round_whole}
use Rattle.rx_hoist_changes.proofs.jumps.Loops.round.Goals as goal

pub loop-left-preserved : goal.loop-left-preserved
loop-left-preserved c = record {
  behind =
      ap (around_behind []) c.in_ok-push.ensures.items
      ∙ round_next _ c.args.labels.now c.loop-left.left (c.loop-left.left - 1) _ _ c.loop-left.around.items (form.Loop c.index-labels-left.result c.loop-left.left) (omega arith) (omega arith)
      (sym c.index-labels-left.is) refl c.loop-left.invariant.behind;
  within = omega arith;
}

pub returns : goal.returns
returns c = round_whole _ c.args.labels.now c.loop-left.left c.loop-left.around.items c.loop-left.invariant.behind (omega arith)
