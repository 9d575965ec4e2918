use Rattle.std.proofs.Common.{drop, sym, ap, ◌∙◌}
use Rattle.rx_meaning.specs.Values.{and_then}
use Rattle.rx_machine_values.specs.Rows.{first_value}
use Rattle.rx_machine_values.specs.PlainValues.{plain-Nodes}
use Rattle.rx_machine_values.proofs.RowLemmas.{field_is}
use Rattle.rx_machine_values.proofs.reading.field.Goals as goal

pub returns-in-Some : goal.returns-in-Some
returns-in-Some c =
    c.part_at.ensures
    ∙ sym (field_is c.args.number (plain-Nodes c.args.nodes.now) ∙ ap (λ o. and_then o (λ j. first_value (drop j (plain-Nodes c.args.nodes.now)))) (sym c.in-Some.ensures.place))

pub returns-in-None : goal.returns-in-None
returns-in-None c =
    sym (field_is c.args.number (plain-Nodes c.args.nodes.now) ∙ ap (λ o. and_then o (λ j. first_value (drop j (plain-Nodes c.args.nodes.now)))) (sym c.in-None.ensures.place))
