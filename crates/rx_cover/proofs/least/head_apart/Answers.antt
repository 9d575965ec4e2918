use Rattle.std.proofs.Common.{◌∙◌, ap, true, false, map}
use Rattle.rx_typed.specs.Types.{tuple_of, reference, shapes_of}
use Rattle.rx_typed.specs.PlainTypes.{plain-Ty, declarations, typ_integer, typ_boolean, typ_tuple, typ_shared, typ_mut}
use Rattle.rx_cover.proofs.LeastLemmas.{sole_tuple, sole_reference}
use Rattle.rx_cover.proofs.least.head_apart.Goals as goal

pub returns-in-Int : goal.returns-in-Int
returns-in-Int c = rw (ap plain-Ty c.in-Int.is ∙ typ_integer c.in-Int.kind) (c.integer_apart.ensures (declarations c.args.decls.now.items))

pub returns-in-Bool : goal.returns-in-Bool
returns-in-Bool c = rw (ap plain-Ty c.in-Bool.is ∙ typ_boolean) (c.truth_apart.ensures (declarations c.args.decls.now.items))

pub returns-in-Tuple : goal.returns-in-Tuple
returns-in-Tuple c =
    let D = declarations c.args.decls.now.items in
    let ts = shapes_of (map plain-Ty c.in-Tuple.field-0) in
    rw (ap plain-Ty c.in-Tuple.is ∙ typ_tuple c.in-Tuple.field-0) (c.sole_apart.ensures D (tuple_of ts) (sole_tuple D ts))

pub returns-in-Shared : goal.returns-in-Shared
returns-in-Shared c =
    let D = declarations c.args.decls.now.items in
    rw (ap plain-Ty c.in-Shared.is ∙ typ_shared c.in-Shared.field-0 c.in-Shared.field-1) (c.sole_apart-in-Shared.ensures D (reference false (plain-Ty c.in-Shared.field-1)) (sole_reference D false (plain-Ty c.in-Shared.field-1)))

pub returns-in-Mut : goal.returns-in-Mut
returns-in-Mut c =
    let D = declarations c.args.decls.now.items in
    rw (ap plain-Ty c.in-Mut.is ∙ typ_mut c.in-Mut.field-0 c.in-Mut.field-1) (c.sole_apart-in-Mut.ensures D (reference true (plain-Ty c.in-Mut.field-1)) (sole_reference D true (plain-Ty c.in-Mut.field-1)))
