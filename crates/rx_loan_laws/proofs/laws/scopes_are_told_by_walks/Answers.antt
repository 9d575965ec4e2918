use Rattle.rx_typed.specs.Naming.{function_named}
use Rattle.rx_typed.specs.Elaborated.{elaborated}
use Rattle.rx_loan_laws.proofs.Scoping.{scopes}
use Rattle.rx_loan_laws.proofs.laws.scopes_are_told_by_walks.Goals as goal

pub returns : goal.returns
returns c = record {
  once = scopes;
  typed = λ A i at f ns R l p. scopes (elaborated A (function_named i at f ns)) (c.actions_are_distinct.ensures.once A i at f ns) R l p;
}
