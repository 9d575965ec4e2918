use Rattle.rx_typed.specs.Naming.{function_named}
use Rattle.rx_typed.specs.Elaborated.{elaborated}
use Rattle.rx_loan_laws.proofs.Scoping.{legality}
use Rattle.rx_loan_laws.proofs.laws.legality_is_told_by_walks.Goals as goal

pub returns : goal.returns
returns c = record {
  once = legality;
  typed = λ A i at f ns R ls. legality (elaborated A (function_named i at f ns)) (c.actions_are_distinct.ensures.once A i at f ns) R ls;
}
