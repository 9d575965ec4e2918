use Rattle.rx_engine_initial_related.proofs.EntryScope.{entry_matches}
use Rattle.rx_engine_initial_related.proofs.laws.related_entries_match.Goals as goal

pub returns : goal.returns
returns c = λ S A k plan acc text sized sized_there initialised again modes R Ra es ps ls given types T none q meets. entry_matches S A k plan acc text sized sized_there initialised given types T none q meets
