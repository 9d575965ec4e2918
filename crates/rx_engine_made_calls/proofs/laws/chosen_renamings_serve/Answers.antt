use Rattle.rx_engine_made_calls.proofs.Settled.{settled_fits, settled_names}
use Rattle.rx_engine_made_calls.proofs.laws.chosen_renamings_serve.Goals as goal

pub returns-clause-modes : goal.returns-clause-modes
returns-clause-modes c = λ A muts k p apart choice allowed ms modes x m t h i. settled_fits A muts k p apart choice allowed ms modes x m t h i

pub returns-clause-names : goal.returns-clause-names
returns-clause-names c = λ A muts k p apart choice allowed ms modes R chosen out types sure whole. settled_names A muts k p apart choice allowed ms modes R chosen out types sure whole
