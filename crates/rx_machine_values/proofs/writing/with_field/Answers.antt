use Rattle.std.proofs.Common.{ap, sym, ◌∙◌, arith}
use Rattle.std.proofs.lemmas.List.{length-map}
use Rattle.rx_meaning.specs.Values.{whole}
use Rattle.rx_machine_values.specs.PlainValues.{plain-Value, plain-Node, plain-Nodes, row_of, value_whole}
use Rattle.rx_machine_values.specs.declared.value.Value.TheVariants as value
use Rattle.rx_machine_values.proofs.RowLemmas.{row_value}
use Rattle.rx_machine_values.proofs.WriteLemmas.{field_replaced, field_missing}
use Rattle.rx_machine_values.proofs.writing.with_field.Goals as goal

pub returns-in_ok-replaced-in-Some : goal.returns-in_ok-replaced-in-Some
returns-in_ok-replaced-in-Some c =
    field_replaced c.args.number c.in-Some.at (plain-Nodes c.args.nodes.now) (row_of c.args.value.now) (plain-Value c.args.value.now) (plain-Value (value.Whole c.in_ok-replaced-in-Some.field-0)) (sym c.in-Some.ensures.place)
    (let e = length-map c.args.nodes.now plain-Node in let f = c.in-Some.ensures.within in omega (arith, e, f)) (row_value c.args.value.now)
    (value_whole c.in_ok-replaced-in-Some.field-0 ∙ ap whole c.in_ok-replaced-in-Some.ensures)

pub returns-in-None : goal.returns-in-None
returns-in-None c = field_missing c.args.number (plain-Nodes c.args.nodes.now) (plain-Value c.args.value.now) (sym c.in-None.ensures.place)
