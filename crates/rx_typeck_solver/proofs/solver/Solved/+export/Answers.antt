use Rattle.std.proofs.Common.{◌≡◌, List, [], ◌∷◌, ◌++◌, map, sym, ap, ◌∙◌, arith}
use Rattle.std.proofs.lemmas.Result.{IfOk-weaker}
use Rattle.rx_core.specs.declared.types.Ty.{Ty}
use Rattle.rx_typed.specs.Types.{integer}
use Rattle.rx_typed.specs.PlainTypes.{declarations}
use Rattle.rx_typed.specs.Regions.{region-Ty, regions_of, region_tuple, region_reference, region_of_integer, region_of_boolean, region_of_tuple}
use Rattle.rx_typeck_solver.specs.Views.{typ_at, typs_at, unnumbered, all_unnumbered, regions_then}
use Rattle.rx_typeck_solver.proofs.Viewing as viewing
use Rattle.rx_typeck_solver.proofs.Exporting as exporting
use Rattle.rx_typeck_solver.proofs.solver.Solved.+export.Goals as goal

pub typ-returns-in-Fixed : goal.typ-returns-in-Fixed
typ-returns-in-Fixed t c = region_of_integer c.in-Fixed.kind ∙ sym (ap (unnumbered (declarations c.args.items.now)) (viewing.fixed_seen c.args.self.now c.requires.sound c.args.entry c.form.result c.requires.entry c.form.ensures c.in-Fixed.kind c.in-Fixed.is))

pub typ-returns-in-KindOf : goal.typ-returns-in-KindOf
typ-returns-in-KindOf t c = region_of_integer c.kind_of.result
    ∙ sym (ap (unnumbered (declarations c.args.items.now)) (exporting.open_typ c.args.self.now c.requires.sound c.args.entry c.form.result c.form.ensures c.requires.entry c.in-KindOf.node c.in-KindOf.is ∙ ap integer (sym c.kind_of.ensures)))

pub typ-returns-in-Boolean : goal.typ-returns-in-Boolean
typ-returns-in-Boolean t c = region_of_boolean ∙ sym (ap (unnumbered (declarations c.args.items.now)) (viewing.truth_seen c.args.self.now c.requires.sound c.args.entry c.form.result c.requires.entry c.form.ensures c.in-Boolean.is))

pub typ-returns-in_ok-parts-in-Tuple : goal.typ-returns-in_ok-parts-in-Tuple
typ-returns-in_ok-parts-in-Tuple t c = region_of_tuple c.in_ok-parts-in-Tuple.parts
    ∙ ap region_tuple (exporting.given (λ (it : List Ty). regions_of (map region-Ty it) ≡ all_unnumbered (declarations c.args.items.now) (typs_at c.args.self.now c.in-Tuple.list)) c.types.result c.in_ok-parts-in-Tuple.parts c.types.ensures c.in_ok-parts-in-Tuple.was)
    ∙ sym (ap (unnumbered (declarations c.args.items.now)) (exporting.tuple_typ c.args.self.now c.requires.sound c.args.entry c.form.result c.form.ensures c.requires.entry c.in-Tuple.list c.in-Tuple.is))

pub typ-returns-in_ok-to-in-Reference : goal.typ-returns-in_ok-to-in-Reference
typ-returns-in_ok-to-in-Reference t c = IfOk-weaker c.reference.result _ _ (λ it p. p
    ∙ ap (region_reference c.in-Reference.mutable 0) (exporting.given (λ (it : Ty). region-Ty it ≡ unnumbered (declarations c.args.items.now) (typ_at c.args.self.now c.in-Reference.to)) c.typ.result c.in_ok-to-in-Reference.to c.typ.ensures c.in_ok-to-in-Reference.was)
    ∙ sym (ap (unnumbered (declarations c.args.items.now)) (viewing.reference_seen c.args.self.now c.requires.sound c.args.entry c.form.result c.requires.entry c.form.ensures c.in-Reference.mutable c.in-Reference.to c.in-Reference.is).1)) c.reference.ensures

pub typ-returns-in-Named : goal.typ-returns-in-Named
typ-returns-in-Named t c = IfOk-weaker c.named.result _ _ (λ it p. p ∙ sym (ap (unnumbered (declarations c.args.items.now)) (viewing.named_seen c.args.self.now c.requires.sound c.args.entry c.form.result c.requires.entry c.form.ensures c.in-Named.item c.in-Named.is))) c.named.ensures

pub typ-returns-in-Nothing : goal.typ-returns-in-Nothing
typ-returns-in-Nothing t c = absurd (exporting.not_nothing c.args.self.now c.requires.sound c.args.entry c.form.result c.form.ensures c.requires.entry c.in-Nothing.is)

pub typ-returns-in-And : goal.typ-returns-in-And
typ-returns-in-And t c = absurd (exporting.not_list c.args.self.now c.requires.sound c.args.entry c.form.result c.form.ensures c.requires.entry c.in-And.field-0 c.in-And.field-1 c.in-And.is)

pub types-loop-first-preserved : goal.types-loop-first-preserved
types-loop-first-preserved t c =
    let here = c.loop-first.invariant in
    let others = exporting.list_others c.args.self.now c.requires.sound c.loop-first.at c.form.result c.form.ensures here.0 c.in-And.first c.in-And.others c.in-And.is in
    let less = others.1 in let before = here.1 in
    let held = c.in_ok-ty.ensures in
    let told = exporting.given (λ (it : Ty). region-Ty it ≡ unnumbered (declarations c.args.items.now) (typ_at c.args.self.now c.in-And.first)) c.typ.result c.in_ok-ty.ty c.typ.ensures held.0 in (
      others.0,
      omega (arith, less, before),
      exporting.list_more (declarations c.args.items.now) c.args.self.now c.args.list c.loop-first.at c.in-And.first c.in-And.others c.loop-first.all c.in_ok-ty.ty c.in_ok-all.all (c.in_ok-all.ensures ∙ ap (λ l. l ++ c.in_ok-ty.ty ∷ []) held.1) told
          (exporting.list_typs c.args.self.now c.requires.sound c.loop-first.at c.form.result c.form.ensures here.0 c.in-And.first c.in-And.others c.in-And.is) here.2,
    )

pub types-returns : goal.types-returns
types-returns t c = sym (exporting.then_none (map region-Ty c.loop-first.all))
    ∙ ap (regions_then (map region-Ty c.loop-first.all)) (sym (ap (all_unnumbered (declarations c.args.items.now)) (exporting.list_end c.args.self.now c.requires.sound c.loop-first.at c.form.result c.form.ensures c.loop-first.invariant.0 c.in_default.not-And)))
    ∙ sym c.loop-first.invariant.2
