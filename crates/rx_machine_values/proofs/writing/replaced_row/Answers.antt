use Rattle.std.proofs.Common.{◌++◌, take, drop, ap, ◌∙◌}
use Rattle.rx_machine_values.specs.Rows.{behind_first}
use Rattle.rx_machine_values.specs.PlainValues.{plain-Nodes, row_of}
use Rattle.rx_machine_values.proofs.WriteLemmas.{three}
use Rattle.rx_machine_values.proofs.writing.replaced_row.Goals as goal

pub returns : goal.returns
returns c =
    three (plain-Nodes c.in_ok-row.row) (plain-Nodes c.add_copies.new.row) (plain-Nodes c.add_value.new.row) (plain-Nodes c.add_copies-2.new.row)
    (take c.args.at (plain-Nodes c.args.nodes.now)) (row_of c.args.value.now) (behind_first (drop c.args.at (plain-Nodes c.args.nodes.now)))
    (ap plain-Nodes c.in_ok-row.ensures) (c.in_ok-add_copies.ensures ∙ ap (λ k. plain-Nodes c.in_ok-row.row ++ k) c.first_of.ensures)
    c.in_ok-add_value.ensures (c.in_ok-add_copies-2.ensures ∙ ap (λ k. plain-Nodes c.add_value.new.row ++ k) c.behind.ensures)
