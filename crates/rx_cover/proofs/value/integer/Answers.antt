use Rattle.std.proofs.Common.{◌∙◌}
use Rattle.rx_typed.specs.Elaborated.{with_sign}
use Rattle.rx_cover.specs.Values as plain
use Rattle.rx_cover.proofs.NodeLemmas.{plain_is, whole_is, integer_nodes}
use Rattle.rx_cover.proofs.value.integer.Goals as goal

pub of_nodes-requires : goal.of_nodes-requires
of_nodes-requires c = whole_is c.in_ok-row.row (plain.number (with_sign c.args.negative c.args.magnitude)) (integer_nodes c.in_ok-row.row c.is_below-negative.result c.args.negative c.args.magnitude c.is_below-negative.ensures c.in_ok-row.ensures)

pub returns : goal.returns
returns c = plain_is c.of_nodes.result (plain.number (with_sign c.args.negative c.args.magnitude)) (c.of_nodes.ensures ∙ integer_nodes c.in_ok-row.row c.is_below-negative.result c.args.negative c.args.magnitude c.is_below-negative.ensures c.in_ok-row.ensures)
