use Rattle.std.proofs.Common.{map, sym, ap, ◌∙◌}
use Rattle.std.proofs.lemmas.List.{take_rest, drop-map}
use Rattle.rx_machine_values.specs.PlainValues.{plain-Node}
use Rattle.rx_machine_values.proofs.reading.past.Goals as goal

pub returns-then-count-nodes : goal.returns-then-count-nodes
returns-then-count-nodes c = ap (λ l. map plain-Node l) (take_rest c.args.nodes.now c.args.count) ∙ sym (drop-map plain-Node c.args.count c.args.nodes.now)
