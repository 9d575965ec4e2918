use Rattle.rx_engine_initial_forms.proofs.Following.{exp_alike}
use Rattle.rx_engine_initial_forms.proofs.laws.related_trees_are_alike.Goals as goal

pub returns : goal.returns
returns c = record {
  same = λ S items gain special i J N e f l. exp_alike S l;
  with_call = λ S A muts k modes U F items gain special i J N e f l. exp_alike S l;
  moved = λ S U items gain special i J N e f l. exp_alike S l;
}
