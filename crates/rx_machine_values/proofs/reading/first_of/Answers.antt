use Rattle.std.proofs.Common.{sym}
use Rattle.std.proofs.lemmas.List.{take-map}
use Rattle.rx_machine_values.specs.PlainValues.{plain-Node}
use Rattle.rx_machine_values.proofs.reading.first_of.Goals as goal

pub returns-then-count-nodes : goal.returns-then-count-nodes
returns-then-count-nodes c = sym (take-map plain-Node c.args.count c.args.nodes.now)
