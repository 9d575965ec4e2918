use Rattle.std.proofs.Common.{length, refl, sym, ap, ◌∙◌}
use Rattle.std.proofs.lemmas.Bool.{ltb-true, ltb-false}
use Rattle.std.proofs.lemmas.Option.{slice_get_read, slice_get_past}
use Rattle.rx_typed.proofs.Parts.{field_type, field_there}
use Rattle.rx_typed.proofs.places.field_of.Goals as goal

pub returns-in-Some : goal.returns-in-Some
returns-in-Some c =
    let less = ltb-true c.args.number (length c.args.fields.now) (sym c.in-Some.ensures.lookup.0) in
    let e = slice_get_read c.args.fields.now _ c.args.number c.in-Some.field.now refl less c.in-Some.ensures.lookup.1 in
    ap field_type (sym e) ∙ sym (field_there c.args.fields.now c.args.number)

pub returns-in-None : goal.returns-in-None
returns-in-None c =
    let e = slice_get_past c.args.fields.now c.args.number (ltb-false c.args.number (length c.args.fields.now) (sym c.in-None.ensures.lookup.0)) in
    ap field_type (sym e) ∙ sym (field_there c.args.fields.now c.args.number)
