use Rattle.std.proofs.Common.{◌∙◌}
use Rattle.rx_modes.proofs.Passing.{without_turn_at}
use Rattle.rx_modes.proofs.choosing.first_without.Goals as goal

pub loop-i-preserved : goal.loop-i-preserved
loop-i-preserved c = without_turn_at c.args.params.now c.args.uses.now c.loop-i.i _ c.can_pass.result c.loop-i-test.true c.requires c.can_pass.ensures c.if-not-can_pass.false
    ∙ c.loop-i.invariant
