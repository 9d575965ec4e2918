use Rattle.rx_repair.proofs.Once.{all_distinct}
use Rattle.rx_repair.proofs.repair_laws.lifetimes_are_distinct.Goals as goal

pub returns : goal.returns
returns c = all_distinct
