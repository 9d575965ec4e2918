use Rattle.rx_compact_placed.proofs.Placed.{fits}
use Rattle.rx_compact_placed.proofs.laws.short_signatures_fit.Goals as goal

pub returns : goal.returns
returns c = fits
