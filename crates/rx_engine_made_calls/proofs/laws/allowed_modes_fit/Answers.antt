use Rattle.rx_engine_made_calls.proofs.Modes.{modes_fit}
use Rattle.rx_engine_made_calls.proofs.laws.allowed_modes_fit.Goals as goal

pub returns : goal.returns
returns c = λ A muts k x t u m e r other i. modes_fit A muts k x t u m e r other i
