use Rattle.rx_repair.proofs.Extracting.{repaired_extraction}
use Rattle.rx_repair.proofs.repair_laws.repaired_is_extraction.Goals as goal

pub returns : goal.returns
returns c p r plan s f bounds there once words = repaired_extraction p r plan bounds s f there once words
