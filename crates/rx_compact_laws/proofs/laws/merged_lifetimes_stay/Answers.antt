use Rattle.rx_compact_laws.proofs.MergedSets.{sites_stay, pairs_stay}
use Rattle.rx_compact_laws.proofs.laws.merged_lifetimes_stay.Goals as goal

pub returns-clause-sites : goal.returns-clause-sites
returns-clause-sites c f C K g M l p h = sites_stay f C K g M l p h

pub returns-clause-pairs : goal.returns-clause-pairs
returns-clause-pairs c f C K g M = pairs_stay f C K g M
