-- Trees with numbers of one text by two tables of names, which name the same variables and loops, are one tree by other numbers of items.
use Rattle.std.proofs.Common.{◌≡◌, ℕ, Bool, true, Option, Some, None, refl, sym, ap, subst, eqb-true}
use Rattle.std.specs.Prelude.{◌==◌}
use Rattle.rx_core.specs.declared.types.Span.{Span}
use Rattle.rx_tree.specs.Plain as plain
use Rattle.rx_tree.specs.Plain.{TypeTree, TypeTrees, PatternTree, PatternTrees, Expression, Expressions, OptionalExpression, OptionalExpressions, FieldExpressions, Arms, Body, Statement, Statements, Parameter, Function}
use Rattle.rx_typed.specs.declared.nodes.Node.{Node}
use Rattle.rx_typed.specs.declared.nodes.Site.{Site}
use Rattle.rx_typed.specs.declared.nodes.Stage.{Stage}
use Rattle.rx_typed.specs.Named as named
use Rattle.rx_typed.specs.Naming as numbering
use Rattle.rx_typed.specs.Naming.{Annotation, Cursor, Numbering, a_node, an_entry, taken, first, second}
use Rattle.rx_engine_names.specs.Renaming.{Renaming}
use Rattle.rx_engine_names.specs.LikeNamed as alike
use Rattle.rx_engine_names.specs.LikeNamed.{LikeWritten, LikeWrittens, LikeOptionalWritten, LikePattern, LikePatterns, LikeFieldPatterns, LikeAnnotation, LikeExp, LikeExps, LikeElse, LikeFields, LikeArms, LikeBody, LikeStatement, LikeStatements, LikeParameters, LikeFunction}
use Rattle.rx_engine_names.specs.Alike.{same_numbers}
use Rattle.rx_engine_blocks.specs.Renumbering.{Renumbering}
use Rattle.rx_engine_typing.specs.Renumbered as ren
use Rattle.rx_engine_typing.specs.Renumbered.{no_holes, RenumberedType, RenumberedTypes, RenumberedAnnotation, RenumberedPattern, RenumberedPatterns, RenumberedFieldPatterns, RenumberedExp, RenumberedExps, RenumberedElse, RenumberedFields, RenumberedArms, RenumberedBody, RenumberedStatement, RenumberedStatements, RenumberedParameters, RenumberedNodes, RenumberedFunction}
use Rattle.rx_engine_validated.specs.Kept.{kept}
use Rattle.rx_engine_validated.proofs.InStep.{InStep, in_step, Kept, next_node, next_entry, next_declared}
use Rattle.rx_engine_validated.proofs.Parts.{reference_part, item_part, bind_part, variant_pattern_parts, field_pattern_parts}

-- what is a number's other number
numbers_same : (n m : ℕ) → (n == m) ≡ true → m ≡ n
numbers_same n m e = sym (eqb-true n m e)

module _ (items : ℕ → ℕ) where
  abbrev R : Renaming
  R = same_numbers items

  abbrev q : Renumbering
  q = kept items

  -- ---- types

  item_type : (n : Node) (i i' : ℕ) (ls : Option ℕ) → items i ≡ i' → RenumberedType q (named.an_item n i ls) (named.an_item n i' ls)
  item_type n i i' ls e = subst (λ (j : ℕ). RenumberedType q (named.an_item n i ls) (named.an_item n j ls)) e (ren.RenumberedType.an_item {n = n} {s = n.span})

  lifetime_next : {c c' : Cursor} (l : Option _) → InStep c c' → InStep (numbering.lifetime_entry l c).1 (numbering.lifetime_entry l c').1
  lifetime_next None st = st
  lifetime_next (Some l) st = next_entry st

  mutual
    pub type_kept : {c c' : Cursor} (t : TypeTree) → InStep c c' → LikeWritten R (numbering.of_type t c).0 (numbering.of_type t c').0 → Kept (RenumberedType q) (numbering.of_type t c) (numbering.of_type t c')
    type_kept (plain.kind_type s k) (in_step {P = P} {Q = Q} {Q' = Q'}) h = record { like = ren.RenumberedType.a_kind {s = s}; steps = next_node s Site.Value (in_step {P = P} {Q = Q} {Q' = Q'}) }
    type_kept (plain.bool_type s) (in_step {P = P} {Q = Q} {Q' = Q'}) h = record { like = ren.RenumberedType.a_bool {s = s}; steps = next_node s Site.Value (in_step {P = P} {Q = Q} {Q' = Q'}) }
    type_kept (plain.tuple_type s ts) (in_step {P = P} {Q = Q} {Q' = Q'}) (alike.like_tuple_type e h) = let x = types_kept ts (next_node s Site.Value (in_step {P = P} {Q = Q} {Q' = Q'})) h in record { like = ren.RenumberedType.a_tuple {s = s} x.like; steps = x.steps }
    type_kept (plain.ref_type s l m t) (in_step {P = P} {Q = Q} {Q' = Q'}) h = let x = type_kept t (lifetime_next l (next_node s Site.Value (in_step {P = P} {Q = Q} {Q' = Q'}))) (reference_part h) in record { like = ren.RenumberedType.a_reference {s = s} x.like; steps = x.steps }
    type_kept (plain.named_type s y ls) (in_step {P = P} {Q = Q} {Q' = Q'}) h = record { like = item_type _ _ _ _ (item_part h); steps = next_entry (next_node s Site.Value (in_step {P = P} {Q = Q} {Q' = Q'})) }

    types_kept : {c c' : Cursor} (ts : TypeTrees) → InStep c c' → LikeWrittens R (numbering.of_types ts c).0 (numbering.of_types ts c').0 → Kept (RenumberedTypes q) (numbering.of_types ts c) (numbering.of_types ts c')
    types_kept plain.no_type st h = record { like = ren.RenumberedTypes.no_written; steps = st }
    types_kept (plain.type_and t ts) st (alike.like_more_types h hs) = let x = type_kept t st h in let y = types_kept ts x.steps hs in record { like = ren.RenumberedTypes.written_and x.like y.like; steps = y.steps }

  pub optional_type_kept : {c c' : Cursor} (y : Option TypeTree) → InStep c c' → LikeOptionalWritten R (numbering.of_optional_type y c).0 (numbering.of_optional_type y c').0 → Kept (RenumberedAnnotation q) (numbering.of_optional_type y c) (numbering.of_optional_type y c')
  optional_type_kept None st h = record { like = ren.RenumberedAnnotation.no_type; steps = st }
  optional_type_kept (Some t) st (alike.like_annotation h) = let x = type_kept t st h in record { like = ren.RenumberedAnnotation.a_type x.like; steps = x.steps }

  pub annotation_kept : {c c' : Cursor} {s : Span} (y : Option TypeTree) → InStep c c' → LikeAnnotation alike.no_holes R s (numbering.of_optional_type y c).0 (numbering.of_optional_type y c').0 → Kept (RenumberedAnnotation q) (numbering.of_optional_type y c) (numbering.of_optional_type y c')
  annotation_kept y st (alike.like_typed h) = optional_type_kept y st h
  annotation_kept y st (alike.like_other_type h) = absurd h

  -- ---- patterns

  bound : (n : Node) (x x' : ℕ) (m : Bool) → x' ≡ x → RenumberedPattern q (named.bind n x m) (named.bind n x' m)
  bound n x x' m e = subst (λ (y : ℕ). RenumberedPattern q (named.bind n x m) (named.bind n y m)) (sym e) (ren.RenumberedPattern.bind {n = n} {s = n.span})

  variant_at : (n : Node) (i i' v v' : ℕ) {ps ps' : named.Patterns} → items i ≡ i' → v' ≡ v → RenumberedPatterns q ps ps' → RenumberedPattern q (named.variant_pattern n i v ps) (named.variant_pattern n i' v' ps')
  variant_at n i i' v v' {ps} {ps'} e f h = subst (λ (j : ℕ). RenumberedPattern q (named.variant_pattern n i v ps) (named.variant_pattern n j v' ps')) e (subst (λ (w : ℕ). RenumberedPattern q (named.variant_pattern n i v ps) (named.variant_pattern n (items i) w ps')) (sym f) (ren.RenumberedPattern.variant_pattern {n = n} {s = n.span} h))

  struct_at : (n : Node) (i i' : ℕ) {fs fs' : named.FieldPatterns} → items i ≡ i' → RenumberedFieldPatterns q fs fs' → RenumberedPattern q (named.struct_pattern n i fs) (named.struct_pattern n i' fs')
  struct_at n i i' {fs} {fs'} e h = subst (λ (j : ℕ). RenumberedPattern q (named.struct_pattern n i fs) (named.struct_pattern n j fs')) e (ren.RenumberedPattern.struct_pattern {n = n} {s = n.span} h)

  -- with the node of the whole, and the variable that the whole is
  pub record KeptPattern (x x' : named.Pattern × Cursor) : Type 0 where
    pub like : RenumberedPattern q x.0 x'.0
    pub steps : InStep x.1 x'.1
    pub node : named.pattern_node x'.0 ≡ named.pattern_node x.0
    pub whole : named.whole_binding x'.0 ≡ named.whole_binding x.0

  mutual
    pub pattern_kept : {c c' : Cursor} (p : PatternTree) → InStep c c' → LikePattern R (numbering.of_pattern p c).0 (numbering.of_pattern p c').0 → KeptPattern (numbering.of_pattern p c) (numbering.of_pattern p c')
    pattern_kept (plain.wild s) (in_step {P = P} {Q = Q} {Q' = Q'}) h = record { like = ren.RenumberedPattern.wild {s = s}; steps = next_node s Site.Value (in_step {P = P} {Q = Q} {Q' = Q'}); node = refl; whole = refl }
    pattern_kept (plain.bind s y m) (in_step {P = P} {Q = Q} {Q' = Q'}) h = record {
      like = bound _ _ _ m (numbers_same _ _ (bind_part h));
      steps = next_declared (record { mutable = m; stage = Stage.Given }) (next_entry (next_node s Site.Value (in_step {P = P} {Q = Q} {Q' = Q'})));
      node = refl;
      whole = ap (λ (x : ℕ). Some x) (numbers_same _ _ (bind_part h));
    }
    pattern_kept (plain.int_pattern s g v k) (in_step {P = P} {Q = Q} {Q' = Q'}) h = record { like = ren.RenumberedPattern.whole_number {s = s}; steps = next_node s Site.Value (in_step {P = P} {Q = Q} {Q' = Q'}); node = refl; whole = refl }
    pattern_kept (plain.bool_pattern s b) (in_step {P = P} {Q = Q} {Q' = Q'}) h = record { like = ren.RenumberedPattern.truth {s = s}; steps = next_node s Site.Value (in_step {P = P} {Q = Q} {Q' = Q'}); node = refl; whole = refl }
    pattern_kept (plain.tuple_pattern s ps) (in_step {P = P} {Q = Q} {Q' = Q'}) (alike.like_tuple_pattern e h) = let x = patterns_kept ps (next_node s Site.Value (in_step {P = P} {Q = Q} {Q' = Q'})) h in record { like = ren.RenumberedPattern.tuple_pattern {s = s} x.like; steps = x.steps; node = refl; whole = refl }
    pattern_kept (plain.variant_pattern s a v ps) (in_step {P = P} {Q = Q} {Q' = Q'}) h = let g = variant_pattern_parts h in let x = patterns_kept ps (next_entry (next_node s Site.Value (in_step {P = P} {Q = Q} {Q' = Q'}))) g.2 in
        record { like = variant_at _ _ _ _ _ g.0 g.1 x.like; steps = x.steps; node = refl; whole = refl }
    pattern_kept (plain.make_pattern s y fs) (in_step {P = P} {Q = Q} {Q' = Q'}) (alike.like_struct_pattern e i h) = let x = field_patterns_kept fs (next_entry (next_node s Site.Value (in_step {P = P} {Q = Q} {Q' = Q'}))) h in
        record { like = struct_at _ _ _ i x.like; steps = x.steps; node = refl; whole = refl }

    patterns_kept : {c c' : Cursor} (ps : PatternTrees) → InStep c c' → LikePatterns R (numbering.of_patterns ps c).0 (numbering.of_patterns ps c').0 → Kept (RenumberedPatterns q) (numbering.of_patterns ps c) (numbering.of_patterns ps c')
    patterns_kept plain.no_pattern st h = record { like = ren.RenumberedPatterns.no_pattern; steps = st }
    patterns_kept (plain.pattern_and p ps) st (alike.like_more_patterns h hs) = let x = pattern_kept p st h in let y = patterns_kept ps x.steps hs in record { like = ren.RenumberedPatterns.pattern_and x.like y.like; steps = y.steps }

    field_patterns_kept : {c c' : Cursor} (fs : plain.FieldPatterns) → InStep c c' → LikeFieldPatterns R (numbering.of_field_patterns fs c).0 (numbering.of_field_patterns fs c').0 → Kept (RenumberedFieldPatterns q) (numbering.of_field_patterns fs c) (numbering.of_field_patterns fs c')
    field_patterns_kept plain.no_field_pattern st h = record { like = ren.RenumberedFieldPatterns.no_field_pattern; steps = st }
    field_patterns_kept (plain.field_pattern_and y p fs) st h = let g = field_pattern_parts h in let x = pattern_kept p st g.0 in let y = field_patterns_kept fs x.steps g.1 in record { like = ren.RenumberedFieldPatterns.field_pattern_and x.like y.like; steps = y.steps }
