use Rattle.rx_engine_extraction.proofs.Keeping.{kept}
use Rattle.rx_engine_extraction.proofs.laws.extractions_are_answers.Goals as goal

pub returns : goal.returns
returns c = kept
