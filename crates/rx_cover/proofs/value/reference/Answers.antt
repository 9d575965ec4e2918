use Rattle.std.proofs.Common.{◌∙◌}
use Rattle.rx_cover.specs.Values as plain
use Rattle.rx_cover.specs.PlainValue.{plain-Value}
use Rattle.rx_cover.proofs.NodeLemmas.{plain_is, whole_is, reference_nodes}
use Rattle.rx_cover.proofs.value.reference.Goals as goal

pub of_nodes-requires : goal.of_nodes-requires
of_nodes-requires c = whole_is c.in-Ok.row (plain.pointing (plain-Value c.args.value)) (reference_nodes c.in-Ok.row c.args.value c.nodes.result.now c.nodes.ensures.whole c.nodes.ensures.same c.in-Ok.ensures)

pub returns-in-Ok : goal.returns-in-Ok
returns-in-Ok c = plain_is c.of_nodes.result (plain.pointing (plain-Value c.args.value)) (c.of_nodes.ensures ∙ reference_nodes c.in-Ok.row c.args.value c.nodes.result.now c.nodes.ensures.whole c.nodes.ensures.same c.in-Ok.ensures)
