use Rattle.std.proofs.Common.{◌∙◌}
use Rattle.rx_cover.specs.Values as plain
use Rattle.rx_cover.specs.PlainValue.{plain_values}
use Rattle.rx_cover.proofs.NodeLemmas.{plain_is, whole_is, made_nodes}
use Rattle.rx_cover.proofs.value.made.Goals as goal

pub of_nodes-requires : goal.of_nodes-requires
of_nodes-requires c = whole_is c.in_ok-row.row (plain.made c.args.adt (plain_values c.args.fields)) (made_nodes c.in_ok-row.row c.args.adt c.len.result c.args.fields c.len.ensures c.in_ok-row.ensures)

pub returns : goal.returns
returns c = plain_is c.of_nodes.result (plain.made c.args.adt (plain_values c.args.fields)) (c.of_nodes.ensures ∙ made_nodes c.in_ok-row.row c.args.adt c.len.result c.args.fields c.len.ensures c.in_ok-row.ensures)
