use Rattle.std.proofs.Common.{length}
use Rattle.rx_hoist.proofs.site.+labels.Given as goal

-- the way that is left
abbrev pub decreases-labels_on : goal.decreases-labels_on
decreases-labels_on l = length l.way.now
