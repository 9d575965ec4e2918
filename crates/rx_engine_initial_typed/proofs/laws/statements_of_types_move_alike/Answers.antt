use Rattle.rx_engine_initial_typed.proofs.Moved.{exp_moves, stretch_moves}
use Rattle.rx_engine_initial_typed.proofs.laws.statements_of_types_move_alike.Goals as goal

pub returns : goal.returns
returns c = record {
  expressions = λ r S alike items U gain special i J N e f l s n d t x y. exp_moves r S alike l s n d t x y;
  stretches = λ r S alike items gain U special J N M s q m h n b c i j d t x y. stretch_moves r S alike m h n b c i j d t x y;
}
