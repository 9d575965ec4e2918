use Rattle.rx_repair.proofs.Existing.{least_sets, are_least}
use Rattle.rx_repair.proofs.bounds_laws.least_sets_exist.Goals as goal

pub returns : goal.returns
returns c C g = (least_sets C g, are_least C g)
