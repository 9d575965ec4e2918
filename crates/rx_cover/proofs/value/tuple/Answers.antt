use Rattle.std.proofs.Common.{◌∙◌}
use Rattle.rx_cover.specs.Values as plain
use Rattle.rx_cover.specs.PlainValue.{plain_values}
use Rattle.rx_cover.proofs.NodeLemmas.{plain_is, whole_is, tuple_nodes}
use Rattle.rx_cover.proofs.value.tuple.Goals as goal

pub of_nodes-requires : goal.of_nodes-requires
of_nodes-requires c = whole_is c.in_ok-row.row (plain.tuple (plain_values c.args.parts)) (tuple_nodes c.in_ok-row.row c.len.result c.args.parts c.len.ensures c.in_ok-row.ensures)

pub returns : goal.returns
returns c = plain_is c.of_nodes.result (plain.tuple (plain_values c.args.parts)) (c.of_nodes.ensures ∙ tuple_nodes c.in_ok-row.row c.len.result c.args.parts c.len.ensures c.in_ok-row.ensures)
