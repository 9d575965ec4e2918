use Rattle.rx_compact_laws.proofs.ShortNames.{names_stay}
use Rattle.rx_compact_laws.proofs.laws.short_signatures_resolve.Goals as goal

pub returns : goal.returns
returns c o single p i names w = names_stay o single p i names w
