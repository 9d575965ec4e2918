use Rattle.std.proofs.Common.{◌∙◌}
use Rattle.rx_cover.specs.Values as plain
use Rattle.rx_cover.proofs.NodeLemmas.{plain_is, whole_is}
use Rattle.rx_cover.proofs.value.truth.Goals as goal

pub of_nodes-requires : goal.of_nodes-requires
of_nodes-requires c = whole_is c.in_ok-row.row (plain.truth c.args.truth) (c.in_ok-row.ensures)

pub returns : goal.returns
returns c = plain_is c.of_nodes.result (plain.truth c.args.truth) (c.of_nodes.ensures ∙ c.in_ok-row.ensures)
