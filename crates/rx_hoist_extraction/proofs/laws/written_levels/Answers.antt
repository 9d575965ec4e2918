use Rattle.rx_hoist_extraction.proofs.WrittenLevels.{full_levels, elided_levels}
use Rattle.rx_hoist_extraction.proofs.laws.written_levels.Goals as goal

pub returns-clause-full : goal.returns-clause-full
returns-clause-full c = full_levels

pub returns-clause-elided : goal.returns-clause-elided
returns-clause-elided c = elided_levels
