use Rattle.rx_engine_initial_typed.proofs.Callers.{exp_calls}
use Rattle.rx_engine_initial_typed.proofs.laws.callers_of_types_move_alike.Goals as goal

pub returns : goal.returns
returns c = λ r S alike A k muts modes items gain U new special i J N e f l s n d t x y. exp_calls r S alike A k l s n d t x y
