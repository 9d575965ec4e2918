use Rattle.rx_typed.specs.Naming.{function_named}
use Rattle.rx_typed.specs.Elaborated.{elaborated}
use Rattle.rx_facts_laws.proofs.Arriving.{arrivals}
use Rattle.rx_facts_laws.proofs.laws.arrivals_are_walks.Goals as goal

pub returns : goal.returns
returns c = record {
  once = arrivals;
  typed = λ A i at f ns p s e w. arrivals (elaborated A (function_named i at f ns)) (c.actions_are_distinct.ensures.once A i at f ns) p s e w;
}
