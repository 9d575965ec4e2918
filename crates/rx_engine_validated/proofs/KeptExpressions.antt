-- Expressions, statements and blocks of one text by two tables of names.
use Rattle.std.proofs.Common.{◌≡◌, ℕ, Bool, true, false, ◌&&◌, List, length, get_or, Option, Some, None, option_map, refl, sym, ap, ◌∙◌, subst, eqb-true}
use Rattle.std.specs.Prelude.{◌==◌}
use Rattle.rx_core.specs.declared.types.Span.{Span}
use Rattle.rx_tree.specs.Plain as plain
use Rattle.rx_tree.specs.Plain.{TypeTree, TypeTrees, PatternTree, PatternTrees, Expression, Expressions, OptionalExpression, OptionalExpressions, FieldExpressions, Arms, Body, Statement, Statements, Parameter, Function}
use Rattle.rx_typed.specs.declared.nodes.Node.{Node}
use Rattle.rx_typed.specs.declared.nodes.Site.{Site}
use Rattle.rx_typed.specs.declared.nodes.Use.{Use}
use Rattle.rx_typed.specs.declared.nodes.Stage.{Stage}
use Rattle.rx_typed.specs.declared.nodes.Declaration.{Declaration}
use Rattle.rx_typed.specs.Named as named
use Rattle.rx_typed.specs.Named.{Exp, Exps, Fields}
use Rattle.rx_typed.specs.Naming as numbering
use Rattle.rx_typed.specs.Naming.{Annotation, Cursor, Numbering, a_node, an_entry, taken, first, second, of_expression}
use Rattle.rx_engine_names.specs.Renaming.{Renaming}
use Rattle.rx_engine_names.specs.LikeNamed as alike
use Rattle.rx_engine_names.specs.LikeNamed.{LikeWritten, LikeWrittens, LikeOptionalWritten, LikePattern, LikePatterns, LikeFieldPatterns, LikeAnnotation, LikeExp, LikeExps, LikeElse, LikeFields, LikeArms, LikeBody, LikeStatement, LikeStatements, LikeParameters, LikeFunction}
use Rattle.rx_engine_names.specs.Alike.{same_numbers}
use Rattle.rx_engine_blocks.specs.Renumbering.{Renumbering}
use Rattle.rx_engine_typing.specs.Renumbered as ren
use Rattle.rx_engine_typing.specs.Renumbered.{no_holes, RenumberedType, RenumberedTypes, RenumberedAnnotation, RenumberedPattern, RenumberedPatterns, RenumberedFieldPatterns, RenumberedExp, RenumberedExps, RenumberedElse, RenumberedFields, RenumberedArms, RenumberedBody, RenumberedStatement, RenumberedStatements, RenumberedParameters, RenumberedNodes, RenumberedFunction}
use Rattle.rx_engine_blocks.specs.DemandsLike.{NoSpecial, Is}
use Rattle.rx_engine_blocks.specs.DemandsLike.Is.{itself}
use Rattle.rx_engine_typing.proofs.Holes.{no_fits}
use Rattle.rx_engine_typing.proofs.Looks.{like_never}
use Rattle.rx_engine_validated.specs.Kept.{kept, same}
use Rattle.rx_engine_validated.proofs.InStep.{InStep, in_step, cursor_of, Place, Rest, Kept, next_node, next_entry, next_between, next_stage, next_led, next_loop, next_annotation, next_waits, same_use, declared_same, loops_same, variables_same}
use Rattle.rx_engine_validated.proofs.Parts.{tuple_part, var_part, field_part, part_part, deref_part, negate_part, invert_part, borrow_part, binary_parts, assign_parts, gives_parts, given_parts, giving_parts, update_parts, call_parts, hidden_part, not_hidden, not_called, variant_parts, make_parts, field_parts, print_part, block_part, if_parts, if_let_parts, match_parts, loop_parts, while_parts, while_let_parts, break_part, continue_part, return_part, body_parts, evaluated_part, root_same}
use Rattle.rx_engine_validated.proofs.KeptPatterns.{pattern_kept, annotation_kept}

module _ (items : ℕ → ℕ) where
  abbrev R : Renaming
  R = same_numbers items

  abbrev q : Renumbering
  q = kept items

  abbrev Same : Exp → Exp → Type 0
  Same e e' = RenumberedExp q same no_holes e e'

  abbrev E : Exp → Exp → Type 0
  E e e' = LikeExp alike.no_holes R e e'

  numbers_same : (n m : ℕ) → (n == m) ≡ true → m ≡ n
  numbers_same n m e = sym (eqb-true n m e)

  -- ---- one form by others that are the same

  var_at : (n : Node) (u u' : Use) → u' ≡ u → Same (named.var n u) (named.var n u')
  var_at n u u' e = subst (λ (z : Use). Same (named.var n u) (named.var n z)) (sym e) (ren.RenumberedExp.var {n = n} {s = n.span})

  call_at : (n : Node) (i i' : ℕ) {es es' : Exps} → items i ≡ i' → RenumberedExps q same no_holes es es' → Same (named.call n i es) (named.call n i' es')
  call_at n i i' {es} {es'} e h = subst (λ (j : ℕ). Same (named.call n i es) (named.call n j es')) e (ren.RenumberedExp.call {n = n} {s = n.span} h)

  variant_at : (n : Node) (i i' v v' : ℕ) {es es' : Exps} → items i ≡ i' → v' ≡ v → RenumberedExps q same no_holes es es' → Same (named.variant n i v es) (named.variant n i' v' es')
  variant_at n i i' v v' {es} {es'} e f h = subst (λ (j : ℕ). Same (named.variant n i v es) (named.variant n j v' es')) e (subst (λ (w : ℕ). Same (named.variant n i v es) (named.variant n (items i) w es')) (sym f) (ren.RenumberedExp.variant {n = n} {s = n.span} h))

  make_at : (n : Node) (i i' : ℕ) {fs fs' : Fields} → items i ≡ i' → RenumberedFields q same no_holes fs fs' → Same (named.make n i fs) (named.make n i' fs')
  make_at n i i' {fs} {fs'} e h = subst (λ (j : ℕ). Same (named.make n i fs) (named.make n j fs')) e (ren.RenumberedExp.make {n = n} {s = n.span} h)

  loop_at : (n : Node) (l l' : ℕ) (k k' : Bool) {b b' : named.Body} → l' ≡ l → k' ≡ k → RenumberedBody q same no_holes b b' → Same (named.loop n l k b) (named.loop n l' k' b')
  loop_at n l l' k k' {b} {b'} e f h = subst (λ (j : ℕ). Same (named.loop n l k b) (named.loop n j k' b')) (sym e) (subst (λ (j : Bool). Same (named.loop n l k b) (named.loop n l j b')) (sym f) (ren.RenumberedExp.loop {n = n} {s = n.span} h))

  while_at : (n : Node) (l l' : ℕ) {x x' : Exp} {b b' : named.Body} → l' ≡ l → Same x x' → RenumberedBody q same no_holes b b' → Same (named.while n l x b) (named.while n l' x' b')
  while_at n l l' {x} {x'} {b} {b'} e h g = subst (λ (j : ℕ). Same (named.while n l x b) (named.while n j x' b')) (sym e) (ren.RenumberedExp.while {n = n} {s = n.span} h g)

  while_let_at : (n : Node) (l l' : ℕ) {p p' : named.Pattern} {x x' : Exp} {b b' : named.Body} → l' ≡ l → RenumberedPattern q p p' → Same x x' → RenumberedBody q same no_holes b b' → Same (named.while_let n l p x b) (named.while_let n l' p' x' b')
  while_let_at n l l' {p} {p'} {x} {x'} {b} {b'} e o h g = subst (λ (j : ℕ). Same (named.while_let n l p x b) (named.while_let n j p' x' b')) (sym e) (ren.RenumberedExp.while_let {n = n} {s = n.span} o h g)

  break_at : (n : Node) (l l' : ℕ) → l' ≡ l → Same (named.break n l) (named.break n l')
  break_at n l l' e = subst (λ (j : ℕ). Same (named.break n l) (named.break n j)) (sym e) (ren.RenumberedExp.break {n = n} {s = n.span})

  continue_at : (n : Node) (l l' : ℕ) → l' ≡ l → Same (named.continue n l) (named.continue n l')
  continue_at n l l' e = subst (λ (j : ℕ). Same (named.continue n l) (named.continue n j)) (sym e) (ren.RenumberedExp.continue {n = n} {s = n.span})

  mapped_same : (d : Option ℕ) → option_map (λ (n : ℕ). n) d ≡ d
  mapped_same None = refl
  mapped_same (Some d) = refl

  gives_at : (n p : Node) (u u' : Use) (d d' : Option ℕ) {e e' : Exp} → u' ≡ u → d' ≡ d → Same e e' → Same (named.gives n p u d e) (named.gives n p u' d' e')
  gives_at n p u u' d d' {e} {e'} x y h = subst (λ (z : Use). Same (named.gives n p u d e) (named.gives n p z d' e')) (sym x)
      (subst (λ (z : Option ℕ). Same (named.gives n p u d e) (named.gives n p u z e')) (mapped_same d ∙ sym y) (ren.RenumberedExp.gives {n = n} {p = p} {s = n.span} {t = p.span} {m = u.mutable} h))

  -- ---- a callee, which may be hidden

  called_kept : {c c' : Cursor} (n : Node) (a a' : List ℕ × Bool) (f : Site → Numbering Exps) → ((t : Site) → LikeExps alike.no_holes R (f t c).0 (f t c').0 → Kept (RenumberedExps q same no_holes) (f t c) (f t c'))
      → E (numbering.called n a f c).0 (numbering.called n a' f c').0 → Kept Same (numbering.called n a f c) (numbering.called n a' f c')
  called_kept n (xs, true) (xs', true) f k h = let y = k Site.Value (hidden_part h) in record { like = ren.RenumberedExp.hidden_call {n = n} {s = n.span} y.like; steps = y.steps }
  called_kept n (xs, false) (xs', false) f k h = let g = call_parts h in let y = k Site.Expects g.1 in record { like = call_at n (first xs) (first xs') g.0 y.like; steps = y.steps }
  called_kept n (xs, true) (xs', false) f k h = absurd (not_called h)
  called_kept n (xs, false) (xs', true) f k h = absurd (not_hidden h)

  -- ---- an assignment of a variable, which may give it its type

  abbrev stage_of : Cursor → ℕ → Option (ℕ × ℕ)
  stage_of c x = numbering.waiting x (numbering.declaration c x).stage

  waits_for_it : (x : ℕ) (s : Stage) (w : ℕ × ℕ) → Some w ≡ numbering.waiting x s → w.0 ≡ x
  waits_for_it x (Stage.Waits p z) w e = ap (λ (y : ℕ × ℕ). y.0) (some_is w (x, p) e)
    where
      some_is : (a b : ℕ × ℕ) → ◌≡◌ {A = Option (ℕ × ℕ)} (Some a) (Some b) → a ≡ b
      some_is a b e = cc
  waits_for_it x Stage.Known w e = absurd (cc)
  waits_for_it x Stage.Given w e = absurd (cc)

  stage_same : {c c' : Cursor} (x x' : ℕ) → x' ≡ x → InStep c c' → stage_of c' x' ≡ stage_of c x
  stage_same {c} {c'} x x' e st = ap (λ (y : ℕ). stage_of c' y) e ∙ ap (λ (vs : List Declaration). numbering.waiting x (get_or vs x numbering.not_declared).stage) (variables_same st)

  given_kept : {c c' : Cursor} (x x' : ℕ) → x' ≡ x → InStep c c' → ((numbering.gives_here x' c').0 ≡ (numbering.gives_here x c).0) × InStep (numbering.gives_here x c).1 (numbering.gives_here x' c').1
  given_kept {c} {c'} x x' e st = subst (λ (o : Option (ℕ × ℕ)). ((numbering.given_here x' o c').0 ≡ (numbering.gives_here x c).0) × InStep (numbering.gives_here x c).1 (numbering.given_here x' o c').1) (sym (stage_same x x' e st)) (go (stage_of c x))
    where
      go : (o : Option (ℕ × ℕ)) → ((numbering.given_here x' o c').0 ≡ (numbering.given_here x o c).0) × InStep (numbering.given_here x o c).1 (numbering.given_here x' o c').1
      go None = (refl, st)
      go (Some w) = (refl, next_stage Stage.Known Stage.Known e refl st)

  none_some : {A : Type 0} (a : A) → ◌≡◌ {A = Option A} None (Some a) → ⊥
  none_some a e = cc

  assigned_kept : {c c' : Cursor} (n m : Node) (u u' : Use) (w w' : Option (ℕ × ℕ)) → w ≡ stage_of c u.number → w' ≡ stage_of c' u'.number → InStep c c' → (u'.number ≡ u.number → u' ≡ u) → (f : Site → Numbering Exp)
      → ((t : Site) → E (f t c).0 (f t c').0 → Kept Same (f t c) (f t c'))
      → E (numbering.assigned n (named.var m u) w f c).0 (numbering.assigned n (named.var m u') w' f c').0 → Kept Same (numbering.assigned n (named.var m u) w f c) (numbering.assigned n (named.var m u') w' f c')
  assigned_kept n m u u' None None e e' st k f i h =
      let g = assign_parts h in let y = i Site.Expects g.1 in
      record { like = ren.RenumberedExp.assign {n = n} {s = n.span} (var_at m u u' (k (numbers_same u.number u'.number (var_part g.0)))) y.like; steps = y.steps }
  assigned_kept {c} {c'} n m u u' (Some w) (Some w') e e' st k f i h =
      let g = gives_parts h in let y = i Site.Reborrows g.value in
      let x : w'.0 ≡ w.0 = sym g.is'.variable ∙ root_same items g.like ∙ g.is.variable in
      let z = given_kept w.0 w'.0 x y.steps in
      record { like = gives_at n m _ _ _ _ (same_use w.0 w'.0 x y.steps) z.0 y.like; steps = z.1 }
  assigned_kept {c} {c'} n m u u' None (Some w') e e' st k f i h =
      let g = giving_parts h in
      let x : u'.number ≡ u.number = sym (waits_for_it u'.number (numbering.declaration c' u'.number).stage w' e') ∙ sym g.is'.variable ∙ root_same items g.like in
      absurd (none_some w' (e ∙ sym (stage_same u.number u'.number x st) ∙ sym e'))
  assigned_kept {c} {c'} n m u u' (Some w) None e e' st k f i h =
      let g = given_parts h in
      let x : u'.number ≡ u.number = root_same items g.like ∙ g.is.variable ∙ waits_for_it u.number (numbering.declaration c u.number).stage w e in
      absurd (none_some w (e' ∙ stage_same u.number u'.number x st ∙ sym e))

  -- ---- all forms

  untyped_same : {y y' : Option named.Written} → RenumberedAnnotation q y y' → numbering.has_no_type y' ≡ numbering.has_no_type y
  untyped_same ren.RenumberedAnnotation.no_type = refl
  untyped_same (ren.RenumberedAnnotation.a_type k) = refl

  is_same : {a b : Bool} → Is a b → b ≡ a
  is_same itself = refl

  never_same : {e e' : Exp} → Same e e' → named.never e' ≡ named.never e
  never_same h = is_same (like_never q same no_holes NoSpecial (no_fits q same) h)

  and_same : {a a' b b' : Bool} → a' ≡ a → b' ≡ b → (a' && b') ≡ (a && b)
  and_same {a} {a'} {b} {b'} e f = ap (λ (x : Bool). x && b') e ∙ ap (λ (x : Bool). a && x) f

  -- from wherever both have come to in step
  abbrev Claim : Type 1
  Claim = Cursor → Cursor → Type 0

  abbrev Run : Claim → Type 0
  Run X = (P : Place) (Q Q' : Rest) → X (cursor_of P Q) (cursor_of P Q')

  along : (X : Claim) {c c' : Cursor} → InStep c c' → Run X → X c c'
  along X (in_step {P = P} {Q = Q} {Q' = Q'}) f = f P Q Q'

  abbrev ExpKept : Bool → Site → Expression → Claim
  ExpKept m t e c c' = E (of_expression m t e c).0 (of_expression m t e c').0 → Kept Same (of_expression m t e c) (of_expression m t e c')

  abbrev AllKept : Site → Expressions → Claim
  AllKept t es c c' = LikeExps alike.no_holes R (numbering.of_expressions t es c).0 (numbering.of_expressions t es c').0 → Kept (RenumberedExps q same no_holes) (numbering.of_expressions t es c) (numbering.of_expressions t es c')

  abbrev OptionalKept : Site → OptionalExpression → Claim
  OptionalKept t o c c' = LikeElse alike.no_holes R (numbering.of_optional t o c).0 (numbering.of_optional t o c').0 → Kept (RenumberedElse q same no_holes) (numbering.of_optional t o c) (numbering.of_optional t o c')

  abbrev ArgumentsKept : OptionalExpressions → Claim
  ArgumentsKept o c c' = LikeExps alike.no_holes R (numbering.of_arguments o c).0 (numbering.of_arguments o c').0 → Kept (RenumberedExps q same no_holes) (numbering.of_arguments o c) (numbering.of_arguments o c')

  abbrev FieldsKept : FieldExpressions → Claim
  FieldsKept fs c c' = LikeFields alike.no_holes R (numbering.of_fields fs c).0 (numbering.of_fields fs c').0 → Kept (RenumberedFields q same no_holes) (numbering.of_fields fs c) (numbering.of_fields fs c')

  abbrev ArmsKept : Site → Arms → Claim
  ArmsKept t l c c' = LikeArms alike.no_holes R (numbering.of_arms t l c).0 (numbering.of_arms t l c').0 → Kept (RenumberedArms q same no_holes) (numbering.of_arms t l c) (numbering.of_arms t l c')

  abbrev BodyKept : Site → Body → Claim
  BodyKept t b c c' = LikeBody alike.no_holes R (numbering.of_body t b c).0 (numbering.of_body t b c').0 → Kept (RenumberedBody q same no_holes) (numbering.of_body t b c) (numbering.of_body t b c')

  abbrev StatementsKept : Statements → Claim
  StatementsKept ss c c' = LikeStatements alike.no_holes R (numbering.of_statements ss c).0 (numbering.of_statements ss c').0 → Kept (RenumberedStatements q same no_holes) (numbering.of_statements ss c) (numbering.of_statements ss c')

  abbrev StatementKept : Statement → Claim
  StatementKept a c c' = LikeStatement alike.no_holes R (numbering.of_statement a c).0 (numbering.of_statement a c').0 → Kept (RenumberedStatement q same no_holes) (numbering.of_statement a c) (numbering.of_statement a c')

  -- where a type is written in both or in neither
  initialised : {c c' : Cursor} {y y' : Option named.Written} (e : Expression) → InStep c c' → RenumberedAnnotation q y y' → ((i : Site) → ExpKept false i e c c')
      → E (of_expression false (numbering.initialiser_site y) e c).0 (of_expression false (numbering.initialiser_site y') e c').0 → Kept Same (of_expression false (numbering.initialiser_site y) e c) (of_expression false (numbering.initialiser_site y') e c')
  initialised e st ren.RenumberedAnnotation.no_type k h = k Site.Scrutinee h
  initialised e st (ren.RenumberedAnnotation.a_type t) k h = k Site.Initialises h

  -- the left side is a variable or not
  assigning : (s : Span) (t : Site) (p e : Expression) (P : Place) (Q Q' : Rest) → Run (ExpKept false Site.Place p) → ((i : Site) → Run (ExpKept false i e))
      → ExpKept false t (plain.assign s p e) (cursor_of P Q) (cursor_of P Q')
  assigning s t (plain.var z y) e P Q Q' k i h =
      let st = next_entry (next_node z Site.Place (next_node s t (in_step {P = P} {Q = Q} {Q' = Q'}))) in
      assigned_kept _ _ _ _ _ _ refl refl st (λ k. same_use _ _ k st) (λ i. of_expression false i e) (λ j k. along (ExpKept false j e) st (i j) k) h
  assigning s t p e P Q Q' k i h = let g = assign_parts h in let y = along (ExpKept false Site.Place p) (next_node s t (in_step {P = P} {Q = Q} {Q' = Q'})) k g.0 in let z = along (ExpKept false Site.Expects e) y.steps (i Site.Expects) g.1 in
      record { like = ren.RenumberedExp.assign {s = s} y.like z.like; steps = z.steps }

  mutual
    pub exp_kept : (m : Bool) (t : Site) (e : Expression) → Run (ExpKept m t e)
    exp_kept m t (plain.int s v k) P Q Q' h = record { like = ren.RenumberedExp.int {s = s}; steps = next_node s t (in_step {P = P} {Q = Q} {Q' = Q'}) }
    exp_kept m t (plain.bool s b) P Q Q' h = record { like = ren.RenumberedExp.bool {s = s}; steps = next_node s t (in_step {P = P} {Q = Q} {Q' = Q'}) }
    exp_kept m t (plain.tuple s es) P Q Q' h = let y = along (AllKept Site.Value es) (next_node s t (in_step {P = P} {Q = Q} {Q' = Q'})) (all_kept Site.Value es) (tuple_part h) in record { like = ren.RenumberedExp.tuple {s = s} y.like; steps = y.steps }
    exp_kept m t (plain.var s y) P Q Q' h = let st = next_entry (next_node s t (in_step {P = P} {Q = Q} {Q' = Q'})) in record { like = var_at _ _ _ (same_use _ _ (numbers_same _ _ (var_part h)) st); steps = st }
    exp_kept m t (plain.field s e x) P Q Q' h = let y = along (ExpKept false Site.Place e) (next_node s t (in_step {P = P} {Q = Q} {Q' = Q'})) (exp_kept false Site.Place e) (field_part h) in record { like = ren.RenumberedExp.field {s = s} y.like; steps = y.steps }
    exp_kept m t (plain.part s e i) P Q Q' h = let y = along (ExpKept false Site.Place e) (next_node s t (in_step {P = P} {Q = Q} {Q' = Q'})) (exp_kept false Site.Place e) (part_part h) in record { like = ren.RenumberedExp.part {s = s} y.like; steps = y.steps }
    exp_kept m t (plain.deref s e) P Q Q' h = let y = along (ExpKept false Site.Place e) (next_node s t (in_step {P = P} {Q = Q} {Q' = Q'})) (exp_kept false Site.Place e) (deref_part h) in record { like = ren.RenumberedExp.deref {s = s} y.like; steps = y.steps }
    exp_kept m t (plain.negate s e) P Q Q' h = let y = along (ExpKept true Site.Value e) (next_node s t (in_step {P = P} {Q = Q} {Q' = Q'})) (exp_kept true Site.Value e) (negate_part h) in record { like = ren.RenumberedExp.negate {s = s} y.like; steps = y.steps }
    exp_kept m t (plain.invert s e) P Q Q' h = let y = along (ExpKept false Site.Value e) (next_node s t (in_step {P = P} {Q = Q} {Q' = Q'})) (exp_kept false Site.Value e) (invert_part h) in record { like = ren.RenumberedExp.invert {s = s} y.like; steps = y.steps }
    exp_kept m t (plain.borrow s w e) P Q Q' h = let y = along (ExpKept false Site.Place e) (next_node s t (in_step {P = P} {Q = Q} {Q' = Q'})) (exp_kept false Site.Place e) (borrow_part h) in record { like = ren.RenumberedExp.borrow {s = s} y.like; steps = y.steps }
    exp_kept m t (plain.binary s o a b) P Q Q' h = let g = binary_parts h in let y = along (ExpKept false Site.Value a) (next_node s t (in_step {P = P} {Q = Q} {Q' = Q'})) (exp_kept false Site.Value a) g.0 in let z = along (ExpKept false Site.Value b) y.steps (exp_kept false Site.Value b) g.1 in record { like = ren.RenumberedExp.binary {s = s} y.like z.like; steps = z.steps }
    exp_kept m t (plain.assign s p e) P Q Q' h = assigning s t p e P Q Q' (exp_kept false Site.Place p) (λ i. exp_kept false i e) h
    exp_kept m t (plain.update s o a b) P Q Q' h = let g = update_parts h in let y = along (ExpKept false Site.Place a) (next_node s t (in_step {P = P} {Q = Q} {Q' = Q'})) (exp_kept false Site.Place a) g.0 in let z = along (ExpKept false Site.Value b) y.steps (exp_kept false Site.Value b) g.1 in record { like = ren.RenumberedExp.update {s = s} y.like z.like; steps = z.steps }
    exp_kept m t (plain.call s f es) P Q Q' h = let st = next_entry (next_node s t (in_step {P = P} {Q = Q} {Q' = Q'})) in called_kept (numbering.a_node s t (cursor_of P Q)).0 (an_entry (numbering.a_node s t (cursor_of P Q)).1).0 (an_entry (numbering.a_node s t (cursor_of P Q')).1).0 (λ i. numbering.of_expressions i es) (λ i k. along (AllKept i es) st (all_kept i es) k) h
    exp_kept m t (plain.next_input s) P Q Q' h = record { like = ren.RenumberedExp.next_input {s = s}; steps = next_entry (next_node s t (in_step {P = P} {Q = Q} {Q' = Q'})) }
    exp_kept m t (plain.variant s a v es) P Q Q' h = let g = variant_parts h in let y = along (ArgumentsKept es) (next_entry (next_node s t (in_step {P = P} {Q = Q} {Q' = Q'}))) (arguments_kept es) g.2 in record { like = variant_at _ _ _ _ _ g.0 g.1 y.like; steps = y.steps }
    exp_kept m t (plain.make s x fs) P Q Q' h = let g = make_parts h in let y = along (FieldsKept fs) (next_entry (next_node s t (in_step {P = P} {Q = Q} {Q' = Q'}))) (fields_kept fs) g.1 in record { like = make_at _ _ _ g.0 y.like; steps = y.steps }
    exp_kept m t (plain.print s e) P Q Q' h = let y = along (ExpKept false Site.Value e) (next_node s t (in_step {P = P} {Q = Q} {Q' = Q'})) (exp_kept false Site.Value e) (print_part h) in record { like = ren.RenumberedExp.print {s = s} y.like; steps = y.steps }
    exp_kept m t (plain.block s b) P Q Q' h = let y = along (BodyKept (numbering.passed_on t) b) (next_node s t (in_step {P = P} {Q = Q} {Q' = Q'})) (body_kept (numbering.passed_on t) b) (block_part h) in record { like = ren.RenumberedExp.block {s = s} y.like; steps = y.steps }
    exp_kept m t (plain.if s x b o) P Q Q' h = let g = if_parts h in
        let y = along (ExpKept false Site.Value x) (next_node s t (in_step {P = P} {Q = Q} {Q' = Q'})) (exp_kept false Site.Value x) g.0 in let z = along (BodyKept (numbering.branch_site t o) b) y.steps (body_kept (numbering.branch_site t o) b) g.1 in let w = along (OptionalKept (numbering.passed_on t) o) z.steps (optional_kept (numbering.passed_on t) o) g.2 in
        record { like = ren.RenumberedExp.if {s = s} y.like z.like w.like; steps = w.steps }
    exp_kept m t (plain.if_let s p x b o) P Q Q' h = let g = if_let_parts h in
        let st = next_node s t (in_step {P = P} {Q = Q} {Q' = Q'}) in let v = pattern_kept items p st g.0 in
        let y = along (ExpKept false Site.Scrutinee x) v.steps (exp_kept false Site.Scrutinee x) g.1 in let z = along (BodyKept (numbering.branch_site t o) b) (next_between (declared_same st) (declared_same v.steps) y.steps) (body_kept (numbering.branch_site t o) b) g.2 in let w = along (OptionalKept (numbering.passed_on t) o) z.steps (optional_kept (numbering.passed_on t) o) g.3 in
        record { like = ren.RenumberedExp.if_let {s = s} v.like y.like z.like w.like; steps = w.steps }
    exp_kept m t (plain.match s e l) P Q Q' h = let g = match_parts h in let y = along (ExpKept false Site.Scrutinee e) (next_node s t (in_step {P = P} {Q = Q} {Q' = Q'})) (exp_kept false Site.Scrutinee e) g.0 in let z = along (ArmsKept (numbering.passed_on t) l) y.steps (arms_kept (numbering.passed_on t) l) g.1 in record { like = ren.RenumberedExp.match {s = s} y.like z.like; steps = z.steps }
    exp_kept m t (plain.loop s l b) P Q Q' h = let g = loop_parts h in let y = along (BodyKept Site.Value b) (next_loop (next_node s t (in_step {P = P} {Q = Q} {Q' = Q'}))) (body_kept Site.Value b) g.1 in
        record { like = loop_at _ _ _ _ _ refl (ap (λ (ls : List Bool). get_or ls (length P.loops) false) (loops_same y.steps)) y.like; steps = y.steps }
    exp_kept m t (plain.while s l x b) P Q Q' h = let g = while_parts h in let y = along (ExpKept false Site.Value x) (next_loop (next_node s t (in_step {P = P} {Q = Q} {Q' = Q'}))) (exp_kept false Site.Value x) g.0 in let z = along (BodyKept Site.Value b) y.steps (body_kept Site.Value b) g.1 in
        record { like = while_at _ _ _ refl y.like z.like; steps = z.steps }
    exp_kept m t (plain.while_let s l p x b) P Q Q' h = let g = while_let_parts h in
        let st = next_loop (next_node s t (in_step {P = P} {Q = Q} {Q' = Q'})) in let v = pattern_kept items p st g.0 in
        let y = along (ExpKept false Site.Scrutinee x) v.steps (exp_kept false Site.Scrutinee x) g.1 in let z = along (BodyKept Site.Value b) (next_between (declared_same st) (declared_same v.steps) y.steps) (body_kept Site.Value b) g.2 in
        record { like = while_let_at _ _ _ refl v.like y.like z.like; steps = z.steps }
    exp_kept m t (plain.break s l) P Q Q' h = let e = numbers_same _ _ (break_part h) in record { like = break_at _ _ _ e; steps = next_led e (next_entry (next_node s t (in_step {P = P} {Q = Q} {Q' = Q'}))) }
    exp_kept m t (plain.continue s l) P Q Q' h = record { like = continue_at _ _ _ (numbers_same _ _ (continue_part h)); steps = next_entry (next_node s t (in_step {P = P} {Q = Q} {Q' = Q'})) }
    exp_kept m t (plain.return s o) P Q Q' h = let y = along (OptionalKept Site.Expects o) (next_node s t (in_step {P = P} {Q = Q} {Q' = Q'})) (optional_kept Site.Expects o) (return_part h) in record { like = ren.RenumberedExp.return {s = s} tt y.like; steps = y.steps }

    all_kept : (t : Site) (es : Expressions) → Run (AllKept t es)
    all_kept t plain.no_expression P Q Q' h = record { like = ren.RenumberedExps.no_exp; steps = (in_step {P = P} {Q = Q} {Q' = Q'}) }
    all_kept t (plain.expression_and e es) P Q Q' (alike.like_more_exps h hs) = let y = along (ExpKept false t e) (in_step {P = P} {Q = Q} {Q' = Q'}) (exp_kept false t e) h in let z = along (AllKept t es) y.steps (all_kept t es) hs in record { like = ren.RenumberedExps.exp_and y.like z.like; steps = z.steps }

    optional_kept : (t : Site) (o : OptionalExpression) → Run (OptionalKept t o)
    optional_kept t plain.absent P Q Q' h = record { like = ren.RenumberedElse.absent; steps = (in_step {P = P} {Q = Q} {Q' = Q'}) }
    optional_kept t (plain.present e) P Q Q' (alike.like_present h) = let y = along (ExpKept false t e) (in_step {P = P} {Q = Q} {Q' = Q'}) (exp_kept false t e) h in record { like = ren.RenumberedElse.present y.like; steps = y.steps }

    arguments_kept : (o : OptionalExpressions) → Run (ArgumentsKept o)
    arguments_kept plain.no_list P Q Q' h = record { like = ren.RenumberedExps.no_exp; steps = (in_step {P = P} {Q = Q} {Q' = Q'}) }
    arguments_kept (plain.a_list es) P Q Q' h = along (AllKept Site.Expects es) (in_step {P = P} {Q = Q} {Q' = Q'}) (all_kept Site.Expects es) h

    fields_kept : (fs : FieldExpressions) → Run (FieldsKept fs)
    fields_kept plain.no_field P Q Q' h = record { like = ren.RenumberedFields.no_field; steps = (in_step {P = P} {Q = Q} {Q' = Q'}) }
    fields_kept (plain.field_and x e fs) P Q Q' h = let g = field_parts h in let y = along (ExpKept false Site.Expects e) (in_step {P = P} {Q = Q} {Q' = Q'}) (exp_kept false Site.Expects e) g.0 in let z = along (FieldsKept fs) y.steps (fields_kept fs) g.1 in record { like = ren.RenumberedFields.field_and y.like z.like; steps = z.steps }

    arms_kept : (t : Site) (l : Arms) → Run (ArmsKept t l)
    arms_kept t plain.no_arm P Q Q' h = record { like = ren.RenumberedArms.no_arm; steps = (in_step {P = P} {Q = Q} {Q' = Q'}) }
    arms_kept t (plain.arm_and p e l) P Q Q' (alike.like_more_arms o h hs) =
        let v = pattern_kept items p (in_step {P = P} {Q = Q} {Q' = Q'}) o in let y = along (ExpKept false t e) (next_between (declared_same (in_step {P = P} {Q = Q} {Q' = Q'})) (declared_same v.steps) v.steps) (exp_kept false t e) h in let z = along (ArmsKept t l) y.steps (arms_kept t l) hs in
        record { like = ren.RenumberedArms.arm_and v.like y.like z.like; steps = z.steps }

    pub body_kept : (t : Site) (b : Body) → Run (BodyKept t b)
    body_kept t (plain.body s ss o) P Q Q' h = let g = body_parts h in let y = along (StatementsKept ss) (next_node s t (in_step {P = P} {Q = Q} {Q' = Q'})) (statements_kept ss) g.0 in let z = along (OptionalKept t o) y.steps (optional_kept t o) g.1 in record { like = ren.RenumberedBody.body {s = s} y.like z.like; steps = z.steps }

    statements_kept : (ss : Statements) → Run (StatementsKept ss)
    statements_kept plain.no_statement P Q Q' h = record { like = ren.RenumberedStatements.no_statement; steps = (in_step {P = P} {Q = Q} {Q' = Q'}) }
    statements_kept (plain.statement_and a ss) P Q Q' (alike.like_more_statements h hs) = let y = along (StatementKept a) (in_step {P = P} {Q = Q} {Q' = Q'}) (statement_kept a) h in let z = along (StatementsKept ss) y.steps (statements_kept ss) hs in record { like = ren.RenumberedStatements.statement_and y.like z.like; steps = z.steps }

    statement_kept : (a : Statement) → Run (StatementKept a)
    statement_kept (plain.let_statement s p y plain.absent) P Q Q' (alike.like_declares e o k) =
        let st = next_annotation p y (next_node s Site.Value (in_step {P = P} {Q = Q} {Q' = Q'})) in let v = pattern_kept items p st o in let w = annotation_kept items y v.steps k in
        record { like = ren.RenumberedStatement.declares {s = s} v.like w.like; steps = next_waits _ _ _ _ (untyped_same w.like) v.node v.whole (next_between (declared_same st) (declared_same v.steps) w.steps) }
    statement_kept (plain.let_statement s p y (plain.present x)) P Q Q' (alike.like_lets e o k h) =
        let st = next_annotation p y (next_node s Site.Value (in_step {P = P} {Q = Q} {Q' = Q'})) in let v = pattern_kept items p st o in let w = annotation_kept items y v.steps k in
        let z = initialised x w.steps w.like (λ i. along (ExpKept false i x) w.steps (exp_kept false i x)) h in
        record { like = ren.RenumberedStatement.lets {s = s} v.like w.like z.like; steps = next_waits _ _ _ _ (and_same (untyped_same w.like) (never_same z.like)) v.node v.whole (next_between (declared_same st) (declared_same v.steps) z.steps) }
    statement_kept (plain.expression_statement s e b) P Q Q' h = let y = along (ExpKept false Site.Value e) (next_node s Site.Value (in_step {P = P} {Q = Q} {Q' = Q'})) (exp_kept false Site.Value e) (evaluated_part h) in record { like = ren.RenumberedStatement.evaluates {s = s} y.like; steps = y.steps }

  pub body_along : {c c' : Cursor} (t : Site) (b : Body) → InStep c c' → LikeBody alike.no_holes R (numbering.of_body t b c).0 (numbering.of_body t b c').0 → Kept (RenumberedBody q same no_holes) (numbering.of_body t b c) (numbering.of_body t b c')
  body_along t b st h = along (BodyKept t b) st (body_kept t b) h
