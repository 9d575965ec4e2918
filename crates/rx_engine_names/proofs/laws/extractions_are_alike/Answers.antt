use Rattle.rx_engine_names.proofs.ExtractionItems.{extraction_inserted}
use Rattle.rx_engine_names.proofs.Extractions.{extraction_alike}
use Rattle.rx_engine_names.proofs.laws.extractions_are_alike.Goals as goal

pub returns : goal.returns
returns c = λ p r plan bounds s f there free loops scope ts m run t comes pins call.
    (extraction_inserted p r plan bounds s f there free, extraction_alike p r plan bounds s f there free loops scope ts m run t comes pins call)
