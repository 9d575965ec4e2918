use Rattle.rx_engine_validated.proofs.TailPrograms.{tail_extraction_found}
use Rattle.rx_engine_validated.proofs.found_laws.found_tail_extractions_are_extractions.Goals as goal

pub returns : goal.returns
returns c A T value item made P Q told e = tail_extraction_found A T value item made P Q told e
