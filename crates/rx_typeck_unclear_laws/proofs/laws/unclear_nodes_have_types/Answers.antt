use Rattle.rx_typed.specs.Naming.{function_named}
use Rattle.rx_typeck_typed.specs.Demands.{task}
use Rattle.rx_typeck_unclear_laws.proofs.Finding.{open_told, some_unclear}
use Rattle.rx_typeck_unclear_laws.proofs.laws.unclear_nodes_have_types.Goals as goal

pub returns : goal.returns
returns c = record {
  literals = λ K i s f ns n w. open_told K (task (function_named i s f ns)) (c.demands_are_orderly.ensures i s f ns) n w;
  nodes = λ K i s f ns A t v. some_unclear K (task (function_named i s f ns)) (c.demands_are_orderly.ensures i s f ns) A t v;
}
