use Rattle.rx_exits_plan.proofs.Every.{one_case}
use Rattle.rx_exits_plan.proofs.laws.cases_are_one.Goals as goal

pub returns : goal.returns
returns c A a b u v = one_case A a b u v
