use Rattle.rx_machine_values.proofs.RowLemmas.{behind_there}
use Rattle.rx_machine_values.proofs.reading.behind.Goals as goal

pub returns : goal.returns
returns c =
    behind_there c.args.nodes.now c.args.at c.index-nodes-at.result c.requires c.index-nodes-at.is c.extent.result c.past.result.now c.past-2.result.now c.extent.ensures c.past.ensures c.past-2.ensures
