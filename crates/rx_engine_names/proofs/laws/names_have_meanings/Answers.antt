use Rattle.rx_engine_names.proofs.ExtractionItems.{extraction_resolves}
use Rattle.rx_engine_names.proofs.laws.names_have_meanings.Goals as goal

pub returns : goal.returns
returns c = extraction_resolves
