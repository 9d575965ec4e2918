use Rattle.rx_exits_plan.proofs.Every.{param_or_local}
use Rattle.rx_exits_plan.proofs.laws.variables_are_params_or_locals.Goals as goal

pub returns : goal.returns
returns c A k x p i sure whole = param_or_local A k x p i sure whole
