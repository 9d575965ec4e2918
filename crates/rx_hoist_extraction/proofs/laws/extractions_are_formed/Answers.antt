use Rattle.rx_hoist_extraction.proofs.FormedPrograms.{extraction_formed}
use Rattle.rx_hoist_extraction.proofs.laws.extractions_are_formed.Goals as goal

pub returns : goal.returns
returns c = extraction_formed
