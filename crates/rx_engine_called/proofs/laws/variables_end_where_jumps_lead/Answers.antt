use Rattle.rx_engine_called.proofs.Ended.{ends_behind}
use Rattle.rx_engine_called.proofs.laws.variables_end_where_jumps_lead.Goals as goal

pub returns : goal.returns
returns c = λ x m l k s i us o h front rest e. ends_behind x m l k h i front rest e
