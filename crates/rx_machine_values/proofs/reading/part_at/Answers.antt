use Rattle.rx_machine_values.specs.PlainValues.{plain-Part}
use Rattle.rx_machine_values.proofs.RowLemmas.{part_there}
use Rattle.rx_machine_values.proofs.reading.part_at.Goals as goal

pub returns : goal.returns
returns c = part_there c.args.nodes.now c.args.at c.index-nodes-at.result c.requires c.index-nodes-at.is (plain-Part c.part_of.result) c.past.result.now c.part_of.ensures c.past.ensures
