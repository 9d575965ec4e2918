use Rattle.std.proofs.Common.{ap, ◌∙◌}
use Rattle.rx_machine_values.specs.Rows.{values_in}
use Rattle.rx_machine_values.specs.PlainValues.{plain-Parts, parts_is}
use Rattle.rx_machine_values.proofs.RowLemmas.{rows_value}
use Rattle.rx_machine_values.proofs.copying.parts_of.Goals as goal

pub returns : goal.returns
returns c = ap plain-Parts c.in_ok-parts.ensures ∙ parts_is (record { nodes = c.in_ok-row.row }) ∙ ap values_in c.in_ok-row.ensures ∙ rows_value c.args.values.now
