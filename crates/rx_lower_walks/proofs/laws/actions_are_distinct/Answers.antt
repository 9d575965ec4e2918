use Rattle.rx_typed.specs.Naming.{function_named}
use Rattle.rx_lower_walks.proofs.Distinct.{distinct, one_site}
use Rattle.rx_lower_walks.proofs.laws.actions_are_distinct.Goals as goal

pub returns : goal.returns
returns c = record {
  once = λ A i s f ns. distinct A (function_named i s f ns) _ _ (c.numbers_stand_in_order.ensures.nodes i s f ns) (c.numbers_stand_in_order.ensures.variables i s f ns);
  told = λ A i s f ns p q v w.
      one_site _ (distinct A (function_named i s f ns) _ _ (c.numbers_stand_in_order.ensures.nodes i s f ns) (c.numbers_stand_in_order.ensures.variables i s f ns)) p q v w;
}
