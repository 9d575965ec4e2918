use Rattle.rx_compact_laws.proofs.Keeping.{same_items}
use Rattle.rx_compact_laws.proofs.laws.short_signatures_keep_items.Goals as goal

pub returns : goal.returns
returns c o b p i = same_items o b p i
