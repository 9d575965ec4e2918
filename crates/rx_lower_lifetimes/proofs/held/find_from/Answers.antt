use Rattle.rx_lower_lifetimes.proofs.Finding.{skipped}
use Rattle.rx_lower_lifetimes.proofs.held.find_from.Goals as goal

pub loop-i-init : goal.loop-i-init
loop-i-init c = skipped c.args.held.now c.args.temporary c.args.first c.requires.within c.requires.before
