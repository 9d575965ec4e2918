use Rattle.rx_typed.specs.Naming.{function_named}
use Rattle.rx_typed.specs.Elaborated.{elaborated}
use Rattle.rx_facts_laws.proofs.Living.{live_on_walks}
use Rattle.rx_facts_laws.proofs.laws.live_is_told_by_walks.Goals as goal

pub returns : goal.returns
returns c = record {
  once = live_on_walks;
  typed = λ A i at f ns r p. live_on_walks (elaborated A (function_named i at f ns)) (c.actions_are_distinct.ensures.once A i at f ns) r p;
}
