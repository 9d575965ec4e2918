use Rattle.std.proofs.Common.{map, ◌∙◌, ap}
use Rattle.rx_typed.specs.Regions.{region-Ty, regions_of}
use Rattle.rx_typed.specs.Places.{part_behind}
use Rattle.rx_typed.proofs.Parts.{tuple_arm, shared_arm, mut_arm}
use Rattle.rx_typed.proofs.places.behind_type.Goals as goal

pub returns-in_ok-copied-in-Tuple : goal.returns-in_ok-copied-in-Tuple
returns-in_ok-copied-in-Tuple c =
    tuple_arm c.args.decls.now.items c.args.arguments.now c.in_ok-copied-in-Tuple.field-0 c.args.ty.now c.in-Tuple.parts c.behind_parts.result c.args.step c.in-Tuple.is c.in_ok-copied-in-Tuple.ensures
    (c.behind_parts.ensures ∙ ap (λ l. part_behind (regions_of (map region-Ty l)) c.args.step) c.as_slice.ensures)

pub returns-in_ok-copied-in-Shared : goal.returns-in_ok-copied-in-Shared
returns-in_ok-copied-in-Shared c =
    shared_arm c.args.decls.now.items c.args.arguments.now c.in_ok-copied-in-Shared.field-0 c.args.ty.now c.in-Shared.field-0 c.in-Shared.inner c.get.result.now c.behind_reference.result c.args.step
    c.in-Shared.is c.in_ok-copied-in-Shared.ensures c.get.ensures c.behind_reference.ensures

pub returns-in_ok-copied-in-Mut : goal.returns-in_ok-copied-in-Mut
returns-in_ok-copied-in-Mut c =
    mut_arm c.args.decls.now.items c.args.arguments.now c.in_ok-copied-in-Mut.field-0 c.args.ty.now c.in-Mut.field-0 c.in-Mut.inner c.get-in-Mut.result.now c.behind_reference-in-Mut.result c.args.step
    c.in-Mut.is c.in_ok-copied-in-Mut.ensures c.get-in-Mut.ensures c.behind_reference-in-Mut.ensures
