use Rattle.std.proofs.Common.{refl}
use Rattle.rx_lower_walks.proofs.WalksFronts.{fronts}
use Rattle.rx_lower_walks.proofs.walks_laws.fronts_are_walks.Goals as goal

pub returns : goal.returns
returns c s us vs o h = fronts h us vs refl
