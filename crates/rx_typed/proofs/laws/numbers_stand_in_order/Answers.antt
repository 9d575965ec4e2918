use Rattle.rx_typed.proofs.Numbering.{nodes_in_order, variables_in_order}
use Rattle.rx_typed.proofs.laws.numbers_stand_in_order.Goals as goal

pub returns-clause-nodes : goal.returns-clause-nodes
returns-clause-nodes c i s f ns = nodes_in_order i s f ns

pub returns-clause-variables : goal.returns-clause-variables
returns-clause-variables c i s f ns = variables_in_order i s f ns
