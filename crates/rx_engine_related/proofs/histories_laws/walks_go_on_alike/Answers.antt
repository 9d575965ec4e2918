use Rattle.rx_engine_related.proofs.Recombining.{recombined}
use Rattle.rx_engine_related.proofs.histories_laws.walks_go_on_alike.Goals as goal

pub returns : goal.returns
returns c = recombined
