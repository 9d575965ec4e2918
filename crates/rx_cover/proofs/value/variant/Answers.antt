use Rattle.std.proofs.Common.{◌∙◌}
use Rattle.rx_cover.specs.Values as plain
use Rattle.rx_cover.specs.PlainValue.{plain_values}
use Rattle.rx_cover.proofs.NodeLemmas.{plain_is, whole_is, variant_nodes}
use Rattle.rx_cover.proofs.value.variant.Goals as goal

pub of_nodes-requires : goal.of_nodes-requires
of_nodes-requires c = whole_is c.in_ok-row.row (plain.variant c.args.adt c.args.variant (plain_values c.args.parts)) (variant_nodes c.in_ok-row.row c.args.adt c.args.variant c.len.result c.args.parts c.len.ensures c.in_ok-row.ensures)

pub returns : goal.returns
returns c = plain_is c.of_nodes.result (plain.variant c.args.adt c.args.variant (plain_values c.args.parts)) (c.of_nodes.ensures ∙ variant_nodes c.in_ok-row.row c.args.adt c.args.variant c.len.result c.args.parts c.len.ensures c.in_ok-row.ensures)
