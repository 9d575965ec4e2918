use Rattle.rx_engine_names.proofs.ExtractionItems.{extraction_inserted, numbers_there}
use Rattle.rx_engine_names.proofs.laws.extraction_is_inserted.Goals as goal

pub returns : goal.returns
returns c = λ p r pl bs s f t w. (extraction_inserted p r pl bs s f t w, numbers_there p r pl bs s f t w)
