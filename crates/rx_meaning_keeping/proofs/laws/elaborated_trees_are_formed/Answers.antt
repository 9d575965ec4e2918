use Rattle.rx_typed.specs.Naming.{function_named}
use Rattle.rx_meaning_keeping.proofs.Elaborating.{function_formed}
use Rattle.rx_meaning_keeping.proofs.laws.elaborated_trees_are_formed.Goals as goal

pub returns : goal.returns
returns c = λ A i s f ns. function_formed A (function_named i s f ns) _ (c.numbers_stand_in_order.ensures.nodes i s f ns)
