use Rattle.rx_exits_plan.proofs.One.{same_exits, same_params, same_locals, same_outs, same_value, same_redeclared, same_loose}
use Rattle.rx_exits_plan.proofs.laws.plans_are_one.Goals as goal

pub returns-clause-exits : goal.returns-clause-exits
returns-clause-exits c A k m a b = same_exits A k m a b

pub returns-clause-params : goal.returns-clause-params
returns-clause-params c A k m a b = same_params A k m a b

pub returns-clause-locals : goal.returns-clause-locals
returns-clause-locals c A k m a b = same_locals A k m a b

pub returns-clause-outs : goal.returns-clause-outs
returns-clause-outs c A k m a b = same_outs A k m a b

pub returns-clause-value : goal.returns-clause-value
returns-clause-value c A k m a b = same_value A k m a b

pub returns-clause-redeclared : goal.returns-clause-redeclared
returns-clause-redeclared c A k m a b = same_redeclared A k m a b

pub returns-clause-loose : goal.returns-clause-loose
returns-clause-loose c A k m a b = same_loose A k m a b
