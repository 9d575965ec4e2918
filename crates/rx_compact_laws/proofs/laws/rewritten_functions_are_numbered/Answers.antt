use Rattle.rx_compact_laws.proofs.Functions.{named_same, spans_same, variables_same, lets_beside}
use Rattle.rx_compact_laws.proofs.laws.rewritten_functions_are_numbered.Goals as goal

pub returns-clause-tree : goal.returns-clause-tree
returns-clause-tree c rs K i s f g ns ms w p = named_same rs K i s f g ns ms w p

pub returns-clause-spans : goal.returns-clause-spans
returns-clause-spans c rs K s f g ns ms w p = spans_same rs K s f g ns ms w p

pub returns-clause-variables : goal.returns-clause-variables
returns-clause-variables c rs K s f g ns ms w p = variables_same rs K s f g ns ms w p

pub returns-clause-lets : goal.returns-clause-lets
returns-clause-lets c rs K s f g ns ms w p = lets_beside rs K s f g ns ms w p
