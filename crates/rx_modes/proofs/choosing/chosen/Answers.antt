use Rattle.rx_modes.proofs.Passing.{can_choose}
use Rattle.rx_modes.proofs.choosing.chosen.Goals as goal

pub choose-requires : goal.choose-requires
choose-requires g c = can_choose c.args.uses.now c.loop-i.i _ c.requires c.loop-i-test.true
