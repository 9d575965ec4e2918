use Rattle.rx_exits_plan.specs.Plan.{variables_of}
use Rattle.rx_modes_uses.proofs.One.{one_first}
use Rattle.rx_modes_uses.proofs.laws.refusals_name_one.Goals as goal

pub returns-clause-not_mut : goal.returns-clause-not_mut
returns-clause-not_mut c A muts k x y f g = one_first k.params x y f g

pub returns-clause-aliased : goal.returns-clause-aliased
returns-clause-aliased c A muts k x y f g = one_first (variables_of A) x y f g
