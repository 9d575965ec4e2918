use Rattle.rx_engine_validated.proofs.Found.{found_parts}
use Rattle.rx_engine_validated.proofs.ExtractedLawsPrograms.{extraction_found}
use Rattle.rx_engine_validated.proofs.found_laws.found_extractions_are_extractions.Goals as goal

pub returns : goal.returns
returns c A T item made P Q told e = extraction_found A T item made P Q told (found_parts A T told.elsewhere) e
