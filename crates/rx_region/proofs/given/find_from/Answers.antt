use Rattle.rx_region.proofs.Finding.{skipped}
use Rattle.rx_region.proofs.given.find_from.Goals as goal

pub loop-i-init : goal.loop-i-init
loop-i-init c = skipped c.args.temporaries.now c.args.temporary c.args.first c.requires.within c.requires.before
