use Rattle.rx_engine_related.specs.Tails.{the_tail_call}
use Rattle.rx_engine_dropped.proofs.Undropping.{function_so}
use Rattle.rx_engine_dropped.proofs.laws.functions_that_drop_are_related.Goals as goal

pub returns : goal.returns
returns c = λ N A muts k modes items gain units new g g' z same x r. function_so N A muts k items (the_tail_call A muts k modes items gain units new) gain g g' z same x r
