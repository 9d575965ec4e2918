use Rattle.rx_engine_initial_related.proofs.Fronts.{block_matches}
use Rattle.rx_engine_initial_related.proofs.laws.related_blocks_match.Goals as goal

pub returns : goal.returns
returns c = block_matches
