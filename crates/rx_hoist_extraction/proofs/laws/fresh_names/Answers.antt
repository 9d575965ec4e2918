use Rattle.rx_hoist_extraction.proofs.FreshNames.{fresh_is_free, fresh_differ}
use Rattle.rx_hoist_extraction.proofs.laws.fresh_names.Goals as goal

pub returns-clause-free : goal.returns-clause-free
returns-clause-free c = fresh_is_free

pub returns-clause-differ : goal.returns-clause-differ
returns-clause-differ c = fresh_differ
