use Rattle.std.proofs.Common.{length, refl, sym, ap, ◌∙◌}
use Rattle.std.proofs.lemmas.Bool.{ltb-true, ltb-false}
use Rattle.std.proofs.lemmas.Option.{slice_get_read, slice_get_past}
use Rattle.rx_lower_lifetimes.specs.Values.{type_found}
use Rattle.rx_region.proofs.Finding.{part_found}
use Rattle.rx_region.proofs.made.part_of.Goals as goal

pub returns-in-Some : goal.returns-in-Some
returns-in-Some c =
    let less = ltb-true c.args.number (length c.args.types.now) (sym c.in-Some.ensures.lookup.0) in
    let e = slice_get_read c.args.types.now _ c.args.number c.in-Some.ty.now refl less c.in-Some.ensures.lookup.1 in
    ap type_found (sym e) ∙ sym (part_found c.args.types.now c.args.number)

pub returns-in-None : goal.returns-in-None
returns-in-None c =
    let e = slice_get_past c.args.types.now c.args.number (ltb-false c.args.number (length c.args.types.now) (sym c.in-None.ensures.lookup.0)) in
    ap type_found (sym e) ∙ sym (part_found c.args.types.now c.args.number)
