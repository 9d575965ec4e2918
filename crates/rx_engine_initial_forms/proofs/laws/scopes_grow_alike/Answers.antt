use Rattle.rx_engine_initial_forms.proofs.Scopes.{one_more}
use Rattle.rx_engine_initial_forms.proofs.laws.scopes_grow_alike.Goals as goal

pub returns : goal.returns
returns c = one_more
