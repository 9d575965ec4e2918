-- Expressions, statements and blocks that are numbered beside what becomes of them, where the special places are.
use Rattle.std.proofs.Common.{◌≡◌, ℕ, ◌+◌, Bool, true, false, ◌&&◌, not, List, ◌∷◌, ◌++◌, length, get_or, Option, Some, None, refl, sym, ap, ◌∙◌, subst}
use Rattle.rx_core.specs.declared.types.Span.{Span}
use Rattle.rx_core.specs.declared.types.Kind.{Kind}
use Rattle.rx_tree.specs.declared.tree.Ident.{Ident}
use Rattle.rx_tree.specs.Plain as plain
use Rattle.rx_tree.specs.Plain.{TypeTree, PatternTree, Expression, Expressions, OptionalExpression, OptionalExpressions, FieldExpressions, Arms, Body, Statement, Statements}
use Rattle.rx_resolve_names.specs.Meant as meant
use Rattle.rx_resolve_names.specs.Meant.{Around, a_test}
use Rattle.rx_typed.specs.declared.nodes.Node.{Node}
use Rattle.rx_typed.specs.declared.nodes.Site.{Site}
use Rattle.rx_typed.specs.Named as named
use Rattle.rx_typed.specs.Named.{Written, Exp, Exps, Else, Fields, is_strict, never}
use Rattle.rx_typed.specs.Naming as numbering
use Rattle.rx_typed.specs.Naming.{Cursor, Numbering, a_node, an_entry, first, second, of_expression, of_expressions, of_optional, of_arguments, of_fields, of_arms, of_body, of_statement, of_statements}
use Rattle.rx_hoist_extraction.specs.Names.{Names, bound, bound_by, behind_all}
use Rattle.rx_hoist_extraction.specs.Changed.{Changes, changed, changed_all, changed_optional, changed_arguments, changed_fields, changed_arms, changed_body, changed_statement, changed_statements}
use Rattle.rx_engine_names.specs.Renaming.{Renaming}
use Rattle.rx_engine_names.specs.LikeNamed as alike
use Rattle.rx_engine_names.specs.LikeNamed.{LikeAnnotation, LikeExp, LikeExps, LikeElse, LikeFields, LikeArms, LikeBody, LikeStatement, LikeStatements}
use Rattle.rx_engine_names.specs.Within.{Claims, Within, AllWithin, OptionalWithin, ArgumentsWithin, FieldsWithin, ArmsWithin, BodyWithin, StatementWithin, StatementsWithin}
use Rattle.rx_engine_typing.specs.Renumbered as ren
use Rattle.rx_engine_typing.specs.Renumbered.{RenumberedPattern, RenumberedExp, RenumberedExps, RenumberedElse, RenumberedFields, RenumberedArms, RenumberedBody, RenumberedStatement, RenumberedStatements}
use Rattle.rx_engine_changed.specs.Beside.{Instead, Piece, paired, IsPiece, Numbers, IsOneToOne}
use Rattle.rx_engine_changed.specs.Stages.{Mutability, InStep}
use Rattle.rx_engine_changed.specs.Comes.{arguments_at, assigned_at, a_body, a_statement, an_expression, an_optional, goes_in, some_arguments, some_arms, some_expressions, some_fields, some_statements, Comes, Placed}
use Rattle.rx_engine_changed.proofs.Lists.{still_piece}
use Rattle.rx_engine_changed.proofs.Steps.{alike_known, alike_loop, alike_waiting, left_alike, next_node, next_entry, annotation_number, next_annotation}
use Rattle.rx_engine_changed.proofs.Parts.{OnlySpecial, tuple_part, field_part, part_part, deref_part, negate_part, invert_part, borrow_part, binary_parts, assign_parts, update_parts, call_parts, hidden_part, not_hidden, not_called, variant_parts, make_parts, field_parts, print_part, block_part, if_parts, if_let_parts, match_parts, loop_parts, while_parts, while_let_parts, evaluated_part}
use Rattle.rx_engine_changed.proofs.Counts.{count, count_all, count_optional, count_arguments, count_fields, count_arms, count_body, count_statement, count_statements}
use Rattle.rx_engine_changed.proofs.Kept.{Kept, SameExp, SameExps, SameElse, SameFields, SameArms, SameBody, SameStatement, SameStatements, SameAnnotation, same_or, same_and, WholeLike, no_whole, a_whole, gives, becomes, both, both_plainly, behind_node, behind_entry, behind_step, in_front_of, at_node, a_leaf, a_leaf_with_entry}
use Rattle.rx_engine_changed.proofs.Patterns.{AnnotationLike, optional_type_kept, pattern_kept}

-- the left side of an assignment is no variable
abbrev pub NoVariable : Expression → Type 0
NoVariable e = (x : ℕ) (c : Cursor) → numbering.waits_in e x c ≡ None

waiting_number : (b : Bool) (p : named.Pattern) (c : Cursor) → c.number ≡ (numbering.waits_if b p c).1.number
waiting_number false p c = refl
waiting_number true p c = by (named.whole_binding p)
  where
    by : (o : Option ℕ) → c.number ≡ (numbering.waits_at (named.pattern_node p) o c).1.number
    by None = refl
    by (Some x) = refl

module _ (R : Renaming) (W : Mutability) (apart : IsOneToOne R) (even : (n m : ℕ) (b : Bool) → W n m b b) (P : List Piece → Instead → Type 0) (such : Body → Bool) (A A' : Placed) where
  next : {made : List Piece} (s : Span) (t : Site) (c c' : Cursor) → InStep R W made c c' → InStep R W (paired c.number c'.number ∷ made) (a_node s t c).1 (a_node s t c').1
  next s t c c' st = next_node R W apart even s s t t c c' st

  next_waits : {made : List Piece} (b b' : Bool) (p p' : named.Pattern) (c c' : Cursor) → b' ≡ b → WholeLike R (named.whole_binding p) (named.whole_binding p') → IsPiece (paired (named.pattern_node p).number (named.pattern_node p').number) made → InStep R W made c c'
      → InStep R W made (numbering.waits_if b p c).1 (numbering.waits_if b' p' c').1
  next_waits {made} b b' p p' c c' e w i st = subst (λ (z : Bool). InStep R W made (numbering.waits_if b p c).1 (numbering.waits_if z p' c').1) (sym e) (by b)
    where
      whole : {o o' : Option ℕ} → WholeLike R o o' → InStep R W made (numbering.waits_at (named.pattern_node p) o c).1 (numbering.waits_at (named.pattern_node p') o' c').1
      whole no_whole = st
      whole (a_whole {x = x} {x' = x'} r) = alike_waiting R W apart even st x x' (named.pattern_node p).number (named.pattern_node p').number (named.pattern_node p).span (named.pattern_node p').span r i

      by : (b : Bool) → InStep R W made (numbering.waits_if b p c).1 (numbering.waits_if b p' c').1
      by false = st
      by true = whole w

  module _ (H : alike.Holes) (only : OnlySpecial H) (untyped : (R : Renaming) (s : Span) (t t' : Option Written) → H.annotation R s t t' → ⊥) (holes : Numbers → ren.Holes) where
    abbrev pub ExpLike : Numbers → Exp → Exp → Type 0
    ExpLike q e e' = RenumberedExp q.by q.loops (holes q) e e'

    abbrev pub ExpsLike : Numbers → Exps → Exps → Type 0
    ExpsLike q e e' = RenumberedExps q.by q.loops (holes q) e e'

    abbrev pub ElseLike : Numbers → Else → Else → Type 0
    ElseLike q e e' = RenumberedElse q.by q.loops (holes q) e e'

    abbrev pub FieldsLike : Numbers → Fields → Fields → Type 0
    FieldsLike q e e' = RenumberedFields q.by q.loops (holes q) e e'

    abbrev pub ArmsLike : Numbers → named.Arms → named.Arms → Type 0
    ArmsLike q e e' = RenumberedArms q.by q.loops (holes q) e e'

    abbrev pub BodyLike : Numbers → named.Body → named.Body → Type 0
    BodyLike q e e' = RenumberedBody q.by q.loops (holes q) e e'

    abbrev pub StatementLike : Numbers → named.Statement → named.Statement → Type 0
    StatementLike q e e' = RenumberedStatement q.by q.loops (holes q) e e'

    abbrev pub StatementsLike : Numbers → named.Statements → named.Statements → Type 0
    StatementsLike q e e' = RenumberedStatements q.by q.loops (holes q) e e'

    -- ---- what is claimed of each kind of part, from wherever both have come to in step

    abbrev pub ExpKept : Bool → Site → Expression → Expression → Type 0
    ExpKept m t e e' = (made : List Piece) (c c' : Cursor) → Comes A (an_expression m t e) c → Comes A' (an_expression m t e') c' → InStep R W made c c' → LikeExp H R (of_expression m t e c).0 (of_expression m t e' c').0 → Kept R W P (count such e) made SameExp ExpLike c c' (of_expression m t e c) (of_expression m t e' c')

    abbrev pub AllKept : Site → Expressions → Expressions → Type 0
    AllKept t e e' = (made : List Piece) (c c' : Cursor) → Comes A (some_expressions t e) c → Comes A' (some_expressions t e') c' → InStep R W made c c' → LikeExps H R (of_expressions t e c).0 (of_expressions t e' c').0 → Kept R W P (count_all such e) made SameExps ExpsLike c c' (of_expressions t e c) (of_expressions t e' c')

    abbrev pub OptionalKept : Site → OptionalExpression → OptionalExpression → Type 0
    OptionalKept t e e' = (made : List Piece) (c c' : Cursor) → Comes A (an_optional t e) c → Comes A' (an_optional t e') c' → InStep R W made c c' → LikeElse H R (of_optional t e c).0 (of_optional t e' c').0 → Kept R W P (count_optional such e) made SameElse ElseLike c c' (of_optional t e c) (of_optional t e' c')

    abbrev pub ArgumentsKept : OptionalExpressions → OptionalExpressions → Type 0
    ArgumentsKept e e' = (made : List Piece) (c c' : Cursor) → Comes A (some_arguments e) c → Comes A' (some_arguments e') c' → InStep R W made c c' → LikeExps H R (of_arguments e c).0 (of_arguments e' c').0 → Kept R W P (count_arguments such e) made SameExps ExpsLike c c' (of_arguments e c) (of_arguments e' c')

    abbrev pub FieldsKept : FieldExpressions → FieldExpressions → Type 0
    FieldsKept e e' = (made : List Piece) (c c' : Cursor) → Comes A (some_fields e) c → Comes A' (some_fields e') c' → InStep R W made c c' → LikeFields H R (of_fields e c).0 (of_fields e' c').0 → Kept R W P (count_fields such e) made SameFields FieldsLike c c' (of_fields e c) (of_fields e' c')

    abbrev pub ArmsKept : Site → Arms → Arms → Type 0
    ArmsKept t e e' = (made : List Piece) (c c' : Cursor) → Comes A (some_arms t e) c → Comes A' (some_arms t e') c' → InStep R W made c c' → LikeArms H R (of_arms t e c).0 (of_arms t e' c').0 → Kept R W P (count_arms such e) made SameArms ArmsLike c c' (of_arms t e c) (of_arms t e' c')

    abbrev pub BodyKept : Site → Body → Body → Type 0
    BodyKept t e e' = (made : List Piece) (c c' : Cursor) → Comes A (a_body t e) c → Comes A' (a_body t e') c' → InStep R W made c c' → LikeBody H R (of_body t e c).0 (of_body t e' c').0 → Kept R W P (count_body such e) made SameBody BodyLike c c' (of_body t e c) (of_body t e' c')

    abbrev pub StatementKept : Statement → Statement → Type 0
    StatementKept e e' = (made : List Piece) (c c' : Cursor) → Comes A (a_statement e) c → Comes A' (a_statement e') c' → InStep R W made c c' → LikeStatement H R (of_statement e c).0 (of_statement e' c').0 → Kept R W P (count_statement such e) made SameStatement StatementLike c c' (of_statement e c) (of_statement e' c')

    abbrev pub StatementsKept : Statements → Statements → Type 0
    StatementsKept e e' = (made : List Piece) (c c' : Cursor) → Comes A (some_statements e) c → Comes A' (some_statements e') c' → InStep R W made c c' → LikeStatements H R (of_statements e c).0 (of_statements e' c').0 → Kept R W P (count_statements such e) made SameStatements StatementsLike c c' (of_statements e c) (of_statements e' c')

    -- ---- one form by others

    call_at : (q : Numbers) (n : Node) (i i' k : ℕ) (s : Span) (t : Site) {es es' : Exps} → q.by.items i ≡ i' → q.by.nodes n.number ≡ k → n.site ≡ t → ExpsLike q es es' → ExpLike q (named.call n i es) (named.call (record { number = k; span = s; site = t }) i' es')
    call_at q n i i' k s t {es} {es'} e d g h =
        subst (λ j. ExpLike q (named.call n i es) (named.call (record { number = k; span = s; site = t }) j es')) e
        (subst (λ j. ExpLike q (named.call n i es) (named.call (record { number = k; span = s; site = j }) (q.by.items i) es')) g
        (subst (λ j. ExpLike q (named.call n i es) (named.call (record { number = j; span = s; site = n.site }) (q.by.items i) es')) d (ren.RenumberedExp.call {n = n} {s = s} h)))

    variant_at : (q : Numbers) (n : Node) (i i' v v' k : ℕ) (s : Span) (t : Site) {es es' : Exps} → q.by.items i ≡ i' → v' ≡ v → q.by.nodes n.number ≡ k → n.site ≡ t → ExpsLike q es es' → ExpLike q (named.variant n i v es) (named.variant (record { number = k; span = s; site = t }) i' v' es')
    variant_at q n i i' v v' k s t {es} {es'} e f d g h =
        subst (λ j. ExpLike q (named.variant n i v es) (named.variant (record { number = k; span = s; site = t }) j v' es')) e
        (subst (λ j. ExpLike q (named.variant n i v es) (named.variant (record { number = k; span = s; site = t }) (q.by.items i) j es')) (sym f)
        (subst (λ j. ExpLike q (named.variant n i v es) (named.variant (record { number = k; span = s; site = j }) (q.by.items i) v es')) g
        (subst (λ j. ExpLike q (named.variant n i v es) (named.variant (record { number = j; span = s; site = n.site }) (q.by.items i) v es')) d (ren.RenumberedExp.variant {n = n} {s = s} h))))

    make_at : (q : Numbers) (n : Node) (i i' k : ℕ) (s : Span) (t : Site) {fs fs' : Fields} → q.by.items i ≡ i' → q.by.nodes n.number ≡ k → n.site ≡ t → FieldsLike q fs fs' → ExpLike q (named.make n i fs) (named.make (record { number = k; span = s; site = t }) i' fs')
    make_at q n i i' k s t {fs} {fs'} e d g h =
        subst (λ j. ExpLike q (named.make n i fs) (named.make (record { number = k; span = s; site = t }) j fs')) e
        (subst (λ j. ExpLike q (named.make n i fs) (named.make (record { number = k; span = s; site = j }) (q.by.items i) fs')) g
        (subst (λ j. ExpLike q (named.make n i fs) (named.make (record { number = j; span = s; site = n.site }) (q.by.items i) fs')) d (ren.RenumberedExp.make {n = n} {s = s} h)))

    loop_at : (q : Numbers) (n : Node) (l l' : ℕ) (k k' : Bool) (j : ℕ) (s : Span) (t : Site) {b b' : named.Body} → q.loops l ≡ l' → k' ≡ k → q.by.nodes n.number ≡ j → n.site ≡ t → BodyLike q b b' → ExpLike q (named.loop n l k b) (named.loop (record { number = j; span = s; site = t }) l' k' b')
    loop_at q n l l' k k' j s t {b} {b'} e f d g h =
        subst (λ i. ExpLike q (named.loop n l k b) (named.loop (record { number = j; span = s; site = t }) i k' b')) e
        (subst (λ i. ExpLike q (named.loop n l k b) (named.loop (record { number = j; span = s; site = t }) (q.loops l) i b')) (sym f)
        (subst (λ i. ExpLike q (named.loop n l k b) (named.loop (record { number = j; span = s; site = i }) (q.loops l) k b')) g
        (subst (λ i. ExpLike q (named.loop n l k b) (named.loop (record { number = i; span = s; site = n.site }) (q.loops l) k b')) d (ren.RenumberedExp.loop {n = n} {s = s} h))))

    while_at : (q : Numbers) (n : Node) (l l' j : ℕ) (s : Span) (t : Site) {x x' : Exp} {b b' : named.Body} → q.loops l ≡ l' → q.by.nodes n.number ≡ j → n.site ≡ t → ExpLike q x x' → BodyLike q b b' → ExpLike q (named.while n l x b) (named.while (record { number = j; span = s; site = t }) l' x' b')
    while_at q n l l' j s t {x} {x'} {b} {b'} e d g h k =
        subst (λ i. ExpLike q (named.while n l x b) (named.while (record { number = j; span = s; site = t }) i x' b')) e
        (subst (λ i. ExpLike q (named.while n l x b) (named.while (record { number = j; span = s; site = i }) (q.loops l) x' b')) g
        (subst (λ i. ExpLike q (named.while n l x b) (named.while (record { number = i; span = s; site = n.site }) (q.loops l) x' b')) d (ren.RenumberedExp.while {n = n} {s = s} h k)))

    while_let_at : (q : Numbers) (n : Node) (l l' j : ℕ) (s : Span) (t : Site) {p p' : named.Pattern} {x x' : Exp} {b b' : named.Body} → q.loops l ≡ l' → q.by.nodes n.number ≡ j → n.site ≡ t → RenumberedPattern q.by p p' → ExpLike q x x' → BodyLike q b b'
        → ExpLike q (named.while_let n l p x b) (named.while_let (record { number = j; span = s; site = t }) l' p' x' b')
    while_let_at q n l l' j s t {p} {p'} {x} {x'} {b} {b'} e d g o h k =
        subst (λ i. ExpLike q (named.while_let n l p x b) (named.while_let (record { number = j; span = s; site = t }) i p' x' b')) e
        (subst (λ i. ExpLike q (named.while_let n l p x b) (named.while_let (record { number = j; span = s; site = i }) (q.loops l) p' x' b')) g
        (subst (λ i. ExpLike q (named.while_let n l p x b) (named.while_let (record { number = i; span = s; site = n.site }) (q.loops l) p' x' b')) d (ren.RenumberedExp.while_let {n = n} {s = s} o h k)))

    -- ---- a callee, which may be hidden

    -- what is so where the node corresponds
    abbrev IfNode : ℕ → ℕ → Numbers → Exp → Exp → Type 0
    IfNode k k' q e e' = q.by.nodes k ≡ k' → ExpLike q e e'

    -- operands at a site
    abbrev Operands : ℕ → List Piece → Cursor → Cursor → (Site → Numbering Exps) → (Site → Numbering Exps) → Site → Type 0
    Operands k made c c' f f' i = LikeExps H R (f i c).0 (f' i c').0 → Kept R W P k made SameExps ExpsLike c c' (f i c) (f' i c')

    called_kept : {k : ℕ} {made : List Piece} (s : Span) (t : Site) (b b' c c' : Cursor) (a a' : List ℕ × Bool) (f f' : Site → Numbering Exps) → (a'.1 ≡ a.1 → Operands k made c c' f f' (arguments_at a.1))
        → LikeExp H R (numbering.called (a_node s t b).0 a f c).0 (numbering.called (a_node s t b').0 a' f' c').0 → Kept R W P k made SameExp (IfNode b.number b'.number) c c' (numbering.called (a_node s t b).0 a f c) (numbering.called (a_node s t b').0 a' f' c')
    called_kept s t b b' c c' (xs, true) (xs', true) f f' k h =
        becomes (λ es. named.hidden_call (a_node s t b).0 es) (λ es. named.hidden_call (a_node s t b').0 es) (k refl (hidden_part only h)) (λ z. (refl, z))
        (λ q a a' g w e. at_node q (λ n. ExpLike q (named.hidden_call (a_node s t b).0 a) (named.hidden_call n a')) b.number b'.number s s t e (ren.RenumberedExp.hidden_call w))
    called_kept s t b b' c c' (xs, false) (xs', false) f f' k h =
        let g = call_parts only h in
        becomes (λ es. named.call (a_node s t b).0 (first xs) es) (λ es. named.call (a_node s t b').0 (first xs') es) (k refl g.1) (λ z. (refl, z))
        (λ q a a' i w e. call_at q (a_node s t b).0 _ _ b'.number s t (i.items (first xs) ∙ g.0) e refl w)
    called_kept s t b b' c c' (xs, true) (xs', false) f f' k h = absurd (not_called only h)
    called_kept s t b b' c c' (xs, false) (xs', true) f f' k h = absurd (not_hidden only h)

    -- ---- an assignment to what is no variable

    assign_kept : (s : Span) (m : Bool) (t : Site) (p p' e e' : Expression) → NoVariable p → NoVariable p' → ExpKept false Site.Place p p' → ExpKept false Site.Expects e e' → ExpKept m t (plain.assign s p e) (plain.assign s p' e')
    assign_kept s m t p p' e e' v v' kp ke made c c' come come' st h =
        subst (Goal (numbering.waits_in p (named.root Q).number E)) (sym (v' (named.root Q').number E')) (subst (λ (w : Option (ℕ × ℕ)). Goal w None) (sym (v (named.root Q).number E)) none_waits) h
      where
        N : Node
        N = (a_node s t c).0

        N' : Node
        N' = (a_node s t c').0

        Q : Exp
        Q = (of_expression false Site.Place p (a_node s t c).1).0

        Q' : Exp
        Q' = (of_expression false Site.Place p' (a_node s t c').1).0

        E : Cursor
        E = (of_expression false Site.Place p (a_node s t c).1).1

        E' : Cursor
        E' = (of_expression false Site.Place p' (a_node s t c').1).1

        Goal : Option (ℕ × ℕ) → Option (ℕ × ℕ) → Type 0
        Goal w w' = LikeExp H R (numbering.assigned N Q w (λ i. of_expression false i e) E).0 (numbering.assigned N' Q' w' (λ i. of_expression false i e') E').0
            → Kept R W P (count such p + count such e) made SameExp ExpLike c c' (numbering.assigned N Q w (λ i. of_expression false i e) E) (numbering.assigned N' Q' w' (λ i. of_expression false i e') E')

        none_waits : Goal None None
        none_waits h =
            let g = assign_parts only h in let y = kp _ (a_node s t c).1 (a_node s t c').1 (goes_in come 0 refl) (goes_in come' 0 refl) (next s t c c' st) g.0 in let z = ke _ E E' (subst (λ (o : Option (ℕ × ℕ)). Comes A (an_expression false (assigned_at o) e) E) (v (named.root Q).number E) (goes_in come 1 refl)) (subst (λ (o : Option (ℕ × ℕ)). Comes A' (an_expression false (assigned_at o) e') E') (v' (named.root Q').number E') (goes_in come' 1 refl)) y.step g.1 in
            becomes (λ x. named.assign N x.0 x.1) (λ x. named.assign N' x.0 x.1) (behind_node s s t t c c' (both y z)) (λ x. (refl, same_or x.0.1 x.1.1))
            (λ q a a' f w. at_node q (λ n. ExpLike q (named.assign N a.0 a.1) (named.assign n a'.0 a'.1)) c.number c'.number s s t w.0 (ren.RenumberedExp.assign w.1.0 w.1.1))

    -- ---- the special places

    module _ (C : Changes) (N : Claims) where
      pub record Places : Type 0 where
        pub variable : (own : Names) (s : Span) (x : List ℕ) → N.variable own x → (m : Bool) (t : Site) → ExpKept m t (plain.var s x) (C.at_variable own s x)
        pub broken : (own : Names) (ls : List Around) (s : Span) (l : Option Ident) → N.broken own ls l → (m : Bool) (t : Site) → ExpKept m t (plain.break s l) (C.at_break ls s l)
        pub continued : (own : Names) (ls : List Around) (s : Span) (l : Option Ident) → N.continued own ls l → (m : Bool) (t : Site) → ExpKept m t (plain.continue s l) (C.at_continue ls s l)
        pub returned : (s : Span) (o o' : OptionalExpression) → N.returned → (m : Bool) (t : Site) → OptionalKept Site.Expects o o' → ExpKept m t (plain.return s o) (C.at_return s o')
        -- a variable is assigned
        pub assigned : (own : Names) (s z : Span) (x : List ℕ) (e e' : Expression) → N.variable own x → (m : Bool) (t : Site) → ((i : Site) → ExpKept false i e e') → ExpKept m t (plain.assign s (plain.var z x) e) (plain.assign s (C.at_variable own z x) e')
        pub no_break : (ls : List Around) (s : Span) (l : Option Ident) → NoVariable (C.at_break ls s l)
        pub no_continue : (ls : List Around) (s : Span) (l : Option Ident) → NoVariable (C.at_continue ls s l)
        pub no_return : (s : Span) (o : OptionalExpression) → NoVariable (C.at_return s o)
        pub kinds : (s : Span) (k : Option Kind) → C.at_int s k ≡ k
        pub types : (p : PatternTree) (y : Option TypeTree) → C.at_let p y ≡ y
        -- a block, of which the parts are done
        pub blocks : (own : Names) (ls : List Around) (s : Span) (t : Site) (ss ss' : Statements) (o o' : OptionalExpression) → N.block own ls (plain.body s ss o) → StatementsKept ss ss' → OptionalKept t o o' → BodyKept t (plain.body s ss o) (C.at_block (plain.body s ss o) (plain.body s ss' o'))

      module _ (places : Places) where
        data LeftSide (own : Names) (ls : List Around) : Expression → Type 0 where
          a_variable : {s : Span} {x : List ℕ} → LeftSide own ls (plain.var s x)
          no_variable : {e : Expression} → NoVariable e → NoVariable (changed C own ls e) → LeftSide own ls e

        left_side : (own : Names) (ls : List Around) (e : Expression) → LeftSide own ls e
        left_side own ls (plain.var s x) = a_variable
        left_side own ls (plain.break s l) = no_variable (λ x c. refl) (places.no_break ls s l)
        left_side own ls (plain.continue s l) = no_variable (λ x c. refl) (places.no_continue ls s l)
        left_side own ls (plain.return s o) = no_variable (λ x c. refl) (places.no_return s (changed_optional C own ls o))
        left_side own ls _ = no_variable (λ x c. refl) (λ x c. refl)

        assigning : (own : Names) (ls : List Around) (s : Span) (m : Bool) (t : Site) (p e : Expression) → Within N own ls p → ExpKept false Site.Place p (changed C own ls p) → ((i : Site) → ExpKept false i e (changed C own ls e)) → ExpKept m t (plain.assign s p e) (plain.assign s (changed C own ls p) (changed C own ls e))
        assigning own ls s m t p e holds kp ke = by p (left_side own ls p) holds kp
          where
            by : (p : Expression) → LeftSide own ls p → Within N own ls p → ExpKept false Site.Place p (changed C own ls p) → ExpKept m t (plain.assign s p e) (plain.assign s (changed C own ls p) (changed C own ls e))
            by (plain.var z x) a_variable h k = places.assigned own s z x e (changed C own ls e) h m t ke
            by p (no_variable v v') h k = assign_kept s m t p (changed C own ls p) e (changed C own ls e) v v' k (ke Site.Expects)

        -- whether a type is written tells the place of an initialiser
        same_site : (t t' : Option Written) → SameAnnotation t t' → numbering.initialiser_site t' ≡ numbering.initialiser_site t
        same_site None None e = refl
        same_site (Some t) (Some t') e = refl
        same_site None (Some t') e = absurd (cc)
        same_site (Some t) None e = absurd (cc)

        annotation_kept : {made : List Piece} {s : Span} (y : Option TypeTree) (c c' : Cursor) → InStep R W made c c' → LikeAnnotation H R s (numbering.of_optional_type y c).0 (numbering.of_optional_type y c').0
            → Kept R W P 0 made SameAnnotation (AnnotationLike R W apart even P) c c' (numbering.of_optional_type y c) (numbering.of_optional_type y c')
        annotation_kept y c c' st (alike.like_typed h) = optional_type_kept R W apart even P y c c' st h
        annotation_kept y c c' st (alike.like_other_type h) = absurd (untyped _ _ _ _ h)

        -- a `let`
        declared : (s : Span) (p : PatternTree) (y : Option TypeTree) → StatementKept (plain.let_statement s p y plain.absent) (plain.let_statement s p y plain.absent)
        declared s p y made c c' come come' st (alike.like_declares e o k) =
            let d = (a_node s Site.Value c).1 in let d' = (a_node s Site.Value c').1 in
            let f = (numbering.annotates p y d).1 in let f' = (numbering.annotates p y d').1 in
            let a = pattern_kept R W apart even P p f f' (next_annotation R W p y d d' (next s Site.Value c c' st)) o in
            let g = numbering.of_pattern p f in let g' = numbering.of_pattern p f' in
            let w = annotation_kept y g.1 g'.1 a.kept.step k in
            let u = numbering.of_optional_type y g.1 in let u' = numbering.of_optional_type y g'.1 in
            let v = (numbering.known_between f.declared g.1.declared u.1).1 in let v' = (numbering.known_between f'.declared g'.1.declared u'.1).1 in
            let x = in_front_of w v v' refl refl (alike_known R W apart even w.step a.ranges) in
            let z = in_front_of x (numbering.waits_if (numbering.has_no_type u.0) g.0 v).1 (numbering.waits_if (numbering.has_no_type u'.0) g'.0 v').1 (waiting_number (numbering.has_no_type u.0) g.0 v) (waiting_number (numbering.has_no_type u'.0) g'.0 v')
            (next_waits (numbering.has_no_type u.0) (numbering.has_no_type u'.0) g.0 g'.0 v v' w.same a.whole (still_piece w.grows a.node) x.step) in
            becomes (λ x. named.declares (a_node s Site.Value c).0 x.0 x.1) (λ x. named.declares (a_node s Site.Value c').0 x.0 x.1) (behind_node s s Site.Value Site.Value c c' (behind_step d d' f f' (annotation_number p y d) (annotation_number p y d') (both a.kept z))) (λ x. refl)
            (λ q a a' f w. at_node q (λ n. StatementLike q (named.declares (a_node s Site.Value c).0 a.0 a.1) (named.declares n a'.0 a'.1)) c.number c'.number s s Site.Value w.0 (ren.RenumberedStatement.declares w.1.0 w.1.1))

        initialised : (s : Span) (p : PatternTree) (y : Option TypeTree) (e e' : Expression) → ((i : Site) → ExpKept false i e e') → StatementKept (plain.let_statement s p y (plain.present e)) (plain.let_statement s p y (plain.present e'))
        initialised s p y e e' ke made c c' come come' st (alike.like_lets r o k h) =
            let d = (a_node s Site.Value c).1 in let d' = (a_node s Site.Value c').1 in
            let f = (numbering.annotates p y d).1 in let f' = (numbering.annotates p y d').1 in
            let a = pattern_kept R W apart even P p f f' (next_annotation R W p y d d' (next s Site.Value c c' st)) o in
            let g = numbering.of_pattern p f in let g' = numbering.of_pattern p f' in
            let w = annotation_kept y g.1 g'.1 a.kept.step k in
            let u = numbering.of_optional_type y g.1 in let u' = numbering.of_optional_type y g'.1 in
            let i = numbering.initialiser_site u.0 in let i' = numbering.initialiser_site u'.0 in
            let X : LikeExp H R (of_expression false i e u.1).0 (of_expression false i' e' u'.1).0 → Kept R W P (count such e) w.now SameExp ExpLike u.1 u'.1 (of_expression false i e u.1) (of_expression false i' e' u'.1)
            = subst (λ (j : Site). LikeExp H R (of_expression false i e u.1).0 (of_expression false j e' u'.1).0 → Kept R W P (count such e) w.now SameExp ExpLike u.1 u'.1 (of_expression false i e u.1) (of_expression false j e' u'.1)) (sym (same_site u.0 u'.0 w.same)) (ke i w.now u.1 u'.1 (goes_in come 0 refl) (subst (λ (j : Site). Comes A' (an_expression false j e') u'.1) (same_site u.0 u'.0 w.same) (goes_in come' 0 refl)) w.step) in
            let x = X h in
            let l = of_expression false i e u.1 in let l' = of_expression false i' e' u'.1 in
            let v = (numbering.known_between f.declared g.1.declared l.1).1 in let v' = (numbering.known_between f'.declared g'.1.declared l'.1).1 in
            let z = in_front_of x v v' refl refl (alike_known R W apart even x.step a.ranges) in
            let b = numbering.has_no_type u.0 && never l.0 in let b' = numbering.has_no_type u'.0 && never l'.0 in
            let y1 = in_front_of z (numbering.waits_if b g.0 v).1 (numbering.waits_if b' g'.0 v').1 (waiting_number b g.0 v) (waiting_number b' g'.0 v')
            (next_waits b b' g.0 g'.0 v v' (same_and w.same x.same.0) a.whole (still_piece x.grows (still_piece w.grows a.node)) z.step) in
            becomes (λ x. named.lets (a_node s Site.Value c).0 x.0 x.1.0 x.1.1) (λ x. named.lets (a_node s Site.Value c').0 x.0 x.1.0 x.1.1) (behind_node s s Site.Value Site.Value c c' (behind_step d d' f f' (annotation_number p y d) (annotation_number p y d') (both_plainly a.kept (both_plainly w y1)))) (λ x. x.1.1.1)
            (λ q a a' f w. at_node q (λ n. StatementLike q (named.lets (a_node s Site.Value c).0 a.0 a.1.0 a.1.1) (named.lets n a'.0 a'.1.0 a'.1.1)) c.number c'.number s s Site.Value w.0 (ren.RenumberedStatement.lets w.1.0 w.1.1.0 w.1.1.1))

        mutual
          pub exp_kept : (own : Names) (ls : List Around) (m : Bool) (t : Site) (e : Expression) → Within N own ls e → ExpKept m t e (changed C own ls e)
          exp_kept own ls m t (plain.int s v k) holds made c c' come come' st h =
              subst (λ (l : Option Kind). Kept R W P 0 made SameExp ExpLike c c' (of_expression m t (plain.int s v k) c) (of_expression m t (plain.int s v l) c')) (sym (places.kinds s k))
              (a_leaf s s t t c c' (named.int (a_node s t c).0 m v k) (named.int (a_node s t c').0 m v k) (next s t c c' st) (refl, refl) (λ q f w. at_node q (λ n. ExpLike q (named.int (a_node s t c).0 m v k) (named.int n m v k)) c.number c'.number s s t w ren.RenumberedExp.int))
          exp_kept own ls m t (plain.bool s b) holds made c c' come come' st h = a_leaf s s t t c c' (named.bool (a_node s t c).0 b) (named.bool (a_node s t c').0 b) (next s t c c' st) (refl, refl) (λ q f w. at_node q (λ n. ExpLike q (named.bool (a_node s t c).0 b) (named.bool n b)) c.number c'.number s s t w ren.RenumberedExp.bool)
          exp_kept own ls m t (plain.var s x) holds made c c' come come' st h = places.variable own s x holds m t made c c' come come' st h
          exp_kept own ls m t (plain.break s l) holds made c c' come come' st h = places.broken own ls s l holds m t made c c' come come' st h
          exp_kept own ls m t (plain.continue s l) holds made c c' come come' st h = places.continued own ls s l holds m t made c c' come come' st h
          exp_kept own ls m t (plain.return s o) holds made c c' come come' st h = places.returned s o (changed_optional C own ls o) holds.0 m t (optional_kept own ls Site.Expects o holds.1) made c c' come come' st h
          exp_kept own ls m t (plain.assign s p e) holds made c c' come come' st h = assigning own ls s m t p e holds.0 (exp_kept own ls false Site.Place p holds.0) (λ i. exp_kept own ls false i e holds.1) made c c' come come' st h
          exp_kept own ls m t (plain.tuple s es) holds made c c' come come' st h =
              becomes (λ x. named.tuple (a_node s t c).0 x) (λ x. named.tuple (a_node s t c').0 x) (behind_node s s t t c c' (all_kept own ls Site.Value es holds _ (a_node s t c).1 (a_node s t c').1 (goes_in come 0 refl) (goes_in come' 0 refl) (next s t c c' st) (tuple_part only h))) (λ z. (refl, z))
              (λ q a a' f w. at_node q (λ n. ExpLike q (named.tuple (a_node s t c).0 a) (named.tuple n a')) c.number c'.number s s t w.0 (ren.RenumberedExp.tuple w.1))
          exp_kept own ls m t (plain.field s e x) holds made c c' come come' st h =
              becomes (λ z. named.field (a_node s t c).0 z x.name) (λ z. named.field (a_node s t c').0 z x.name) (behind_node s s t t c c' (exp_kept own ls false Site.Place e holds _ (a_node s t c).1 (a_node s t c').1 (goes_in come 0 refl) (goes_in come' 0 refl) (next s t c c' st) (field_part only h))) (λ z. (refl, z.1))
              (λ q a a' f w. at_node q (λ n. ExpLike q (named.field (a_node s t c).0 a x.name) (named.field n a' x.name)) c.number c'.number s s t w.0 (ren.RenumberedExp.field w.1))
          exp_kept own ls m t (plain.part s e i) holds made c c' come come' st h =
              becomes (λ x. named.part (a_node s t c).0 x i) (λ x. named.part (a_node s t c').0 x i) (behind_node s s t t c c' (exp_kept own ls false Site.Place e holds _ (a_node s t c).1 (a_node s t c').1 (goes_in come 0 refl) (goes_in come' 0 refl) (next s t c c' st) (part_part only h))) (λ z. (refl, z.1))
              (λ q a a' f w. at_node q (λ n. ExpLike q (named.part (a_node s t c).0 a i) (named.part n a' i)) c.number c'.number s s t w.0 (ren.RenumberedExp.part w.1))
          exp_kept own ls m t (plain.deref s e) holds made c c' come come' st h =
              becomes (λ x. named.deref (a_node s t c).0 x) (λ x. named.deref (a_node s t c').0 x) (behind_node s s t t c c' (exp_kept own ls false Site.Place e holds _ (a_node s t c).1 (a_node s t c').1 (goes_in come 0 refl) (goes_in come' 0 refl) (next s t c c' st) (deref_part only h))) (λ z. (refl, z.1))
              (λ q a a' f w. at_node q (λ n. ExpLike q (named.deref (a_node s t c).0 a) (named.deref n a')) c.number c'.number s s t w.0 (ren.RenumberedExp.deref w.1))
          exp_kept own ls m t (plain.negate s e) holds made c c' come come' st h =
              becomes (λ x. named.negate (a_node s t c).0 x) (λ x. named.negate (a_node s t c').0 x) (behind_node s s t t c c' (exp_kept own ls true Site.Value e holds _ (a_node s t c).1 (a_node s t c').1 (goes_in come 0 refl) (goes_in come' 0 refl) (next s t c c' st) (negate_part only h))) (λ z. (refl, z.1))
              (λ q a a' f w. at_node q (λ n. ExpLike q (named.negate (a_node s t c).0 a) (named.negate n a')) c.number c'.number s s t w.0 (ren.RenumberedExp.negate w.1))
          exp_kept own ls m t (plain.invert s e) holds made c c' come come' st h =
              becomes (λ x. named.invert (a_node s t c).0 x) (λ x. named.invert (a_node s t c').0 x) (behind_node s s t t c c' (exp_kept own ls false Site.Value e holds _ (a_node s t c).1 (a_node s t c').1 (goes_in come 0 refl) (goes_in come' 0 refl) (next s t c c' st) (invert_part only h))) (λ z. (refl, z.1))
              (λ q a a' f w. at_node q (λ n. ExpLike q (named.invert (a_node s t c).0 a) (named.invert n a')) c.number c'.number s s t w.0 (ren.RenumberedExp.invert w.1))
          exp_kept own ls m t (plain.borrow s b e) holds made c c' come come' st h =
              becomes (λ x. named.borrow (a_node s t c).0 b x) (λ x. named.borrow (a_node s t c').0 b x) (behind_node s s t t c c' (exp_kept own ls false Site.Place e holds _ (a_node s t c).1 (a_node s t c').1 (goes_in come 0 refl) (goes_in come' 0 refl) (next s t c c' st) (borrow_part only h))) (λ z. (refl, z.1))
              (λ q a a' f w. at_node q (λ n. ExpLike q (named.borrow (a_node s t c).0 b a) (named.borrow n b a')) c.number c'.number s s t w.0 (ren.RenumberedExp.borrow w.1))
          exp_kept own ls m t (plain.print s e) holds made c c' come come' st h =
              becomes (λ x. named.print (a_node s t c).0 x) (λ x. named.print (a_node s t c').0 x) (behind_node s s t t c c' (exp_kept own ls false Site.Value e holds _ (a_node s t c).1 (a_node s t c').1 (goes_in come 0 refl) (goes_in come' 0 refl) (next s t c c' st) (print_part only h))) (λ z. (refl, z.1))
              (λ q a a' f w. at_node q (λ n. ExpLike q (named.print (a_node s t c).0 a) (named.print n a')) c.number c'.number s s t w.0 (ren.RenumberedExp.print w.1))
          exp_kept own ls m t (plain.block s b) holds made c c' come come' st h =
              becomes (λ x. named.block (a_node s t c).0 x) (λ x. named.block (a_node s t c').0 x) (behind_node s s t t c c' (body_kept own ls (numbering.passed_on t) b holds _ (a_node s t c).1 (a_node s t c').1 (goes_in come 0 refl) (goes_in come' 0 refl) (next s t c c' st) (block_part only h))) (λ z. z)
              (λ q a a' f w. at_node q (λ n. ExpLike q (named.block (a_node s t c).0 a) (named.block n a')) c.number c'.number s s t w.0 (ren.RenumberedExp.block w.1))
          exp_kept own ls m t (plain.binary s o a b) holds made c c' come come' st h =
              let g = binary_parts only h in let y = exp_kept own ls false Site.Value a holds.0 _ (a_node s t c).1 (a_node s t c').1 (goes_in come 0 refl) (goes_in come' 0 refl) (next s t c c' st) g.0 in let z = exp_kept own ls false Site.Value b holds.1 _ (of_expression false Site.Value a (a_node s t c).1).1 (of_expression false Site.Value (changed C own ls a) (a_node s t c').1).1 (goes_in come 1 refl) (goes_in come' 1 refl) y.step g.1 in
              becomes (λ x. named.binary (a_node s t c).0 o x.0 x.1) (λ x. named.binary (a_node s t c').0 o x.0 x.1) (behind_node s s t t c c' (both y z)) (λ x. (refl, same_or x.0.1 (ap (λ (d : Bool). is_strict o && d) x.1.1)))
              (λ q a a' f w. at_node q (λ n. ExpLike q (named.binary (a_node s t c).0 o a.0 a.1) (named.binary n o a'.0 a'.1)) c.number c'.number s s t w.0 (ren.RenumberedExp.binary w.1.0 w.1.1))
          exp_kept own ls m t (plain.update s o a b) holds made c c' come come' st h =
              let g = update_parts only h in let y = exp_kept own ls false Site.Place a holds.0 _ (a_node s t c).1 (a_node s t c').1 (goes_in come 0 refl) (goes_in come' 0 refl) (next s t c c' st) g.0 in let z = exp_kept own ls false Site.Value b holds.1 _ (of_expression false Site.Place a (a_node s t c).1).1 (of_expression false Site.Place (changed C own ls a) (a_node s t c').1).1 (goes_in come 1 refl) (goes_in come' 1 refl) y.step g.1 in
              becomes (λ x. named.update (a_node s t c).0 o x.0 x.1) (λ x. named.update (a_node s t c').0 o x.0 x.1) (behind_node s s t t c c' (both y z)) (λ x. (refl, same_or x.0.1 x.1.1))
              (λ q a a' f w. at_node q (λ n. ExpLike q (named.update (a_node s t c).0 o a.0 a.1) (named.update n o a'.0 a'.1)) c.number c'.number s s t w.0 (ren.RenumberedExp.update w.1.0 w.1.1))
          exp_kept own ls m t (plain.match s e l) holds made c c' come come' st h =
              let g = match_parts only h in let y = exp_kept own ls false Site.Scrutinee e holds.0 _ (a_node s t c).1 (a_node s t c').1 (goes_in come 0 refl) (goes_in come' 0 refl) (next s t c c' st) g.0 in let z = arms_kept own ls (numbering.passed_on t) l holds.1 _ (of_expression false Site.Scrutinee e (a_node s t c).1).1 (of_expression false Site.Scrutinee (changed C own ls e) (a_node s t c').1).1 (goes_in come 1 refl) (goes_in come' 1 refl) y.step g.1 in
              becomes (λ x. named.match (a_node s t c).0 x.0 x.1) (λ x. named.match (a_node s t c').0 x.0 x.1) (behind_node s s t t c c' (both y z)) (λ x. (x.1.0, same_or x.0.1 x.1.1))
              (λ q a a' f w. at_node q (λ n. ExpLike q (named.match (a_node s t c).0 a.0 a.1) (named.match n a'.0 a'.1)) c.number c'.number s s t w.0 (ren.RenumberedExp.match w.1.0 w.1.1))
          exp_kept own ls m t (plain.call s f es) holds made c c' come come' st h =
              let d = (a_node s t c).1 in let d' = (a_node s t c').1 in
              becomes (λ x. x) (λ x. x) (behind_node s s t t c c' (behind_entry d d' (called_kept s t c c' (an_entry d).1 (an_entry d').1 (an_entry d).0 (an_entry d').0 (λ i. of_expressions i es) (λ i. of_expressions i (changed_all C own ls es))
              (λ same k. all_kept own ls (arguments_at (an_entry d).0.1) es holds.1 _ (an_entry d).1 (an_entry d').1 (goes_in come 0 refl)
              (subst (λ (b : Bool). Comes A' (some_expressions (arguments_at b) (changed_all C own ls es)) (an_entry d').1) same (goes_in come' 0 refl)) (next_entry R W d d' (next s t c c' st)) k) h))) (λ z. z) (λ q a a' f w. w.1 w.0)
          exp_kept own ls m t (plain.next_input s) holds made c c' come come' st h =
              a_leaf_with_entry s s t t c c' (named.next_input (a_node s t c).0) (named.next_input (a_node s t c').0) (next_entry R W (a_node s t c).1 (a_node s t c').1 (next s t c c' st)) (refl, refl) (λ q f w. at_node q (λ n. ExpLike q (named.next_input (a_node s t c).0) (named.next_input n)) c.number c'.number s s t w ren.RenumberedExp.next_input)
          exp_kept own ls m t (plain.variant s a v es) holds made c c' come come' st h =
              let g = variant_parts only h in let d = (a_node s t c).1 in let d' = (a_node s t c').1 in
              let x = arguments_kept own ls es holds _ (an_entry d).1 (an_entry d').1 (goes_in come 0 refl) (goes_in come' 0 refl) (next_entry R W d d' (next s t c c' st)) g.2 in
              becomes (λ z. named.variant (a_node s t c).0 (first (an_entry d).0.0) (second (an_entry d).0.0) z) (λ z. named.variant (a_node s t c').0 (first (an_entry d').0.0) (second (an_entry d').0.0) z) (behind_node s s t t c c' (behind_entry d d' x)) (λ z. (refl, z))
              (λ q a a' f w. variant_at q (a_node s t c).0 _ _ _ _ c'.number s t (f.items (first (an_entry d).0.0) ∙ g.0) g.1 w.0 refl w.1)
          exp_kept own ls m t (plain.make s y fs) holds made c c' come come' st h =
              let g = make_parts only h in let d = (a_node s t c).1 in let d' = (a_node s t c').1 in
              let x = fields_kept own ls fs holds _ (an_entry d).1 (an_entry d').1 (goes_in come 0 refl) (goes_in come' 0 refl) (next_entry R W d d' (next s t c c' st)) g.1 in
              becomes (λ z. named.make (a_node s t c).0 (first (an_entry d).0.0) z) (λ z. named.make (a_node s t c').0 (first (an_entry d').0.0) z) (behind_node s s t t c c' (behind_entry d d' x)) (λ z. (refl, z))
              (λ q a a' f w. make_at q (a_node s t c).0 _ _ c'.number s t (f.items (first (an_entry d).0.0) ∙ g.0) w.0 refl w.1)
          exp_kept own ls m t (plain.if s e b plain.absent) holds made c c' come come' st h =
              let g = if_parts only h in
              let d = of_expression false Site.Value e (a_node s t c).1 in let d' = of_expression false Site.Value (changed C own ls e) (a_node s t c').1 in
              let y = exp_kept own ls false Site.Value e holds.0 _ (a_node s t c).1 (a_node s t c').1 (goes_in come 0 refl) (goes_in come' 0 refl) (next s t c c' st) g.0 in
              let z = body_kept own ls Site.Value b holds.1 _ d.1 d'.1 (goes_in come 1 refl) (goes_in come' 1 refl) y.step g.1 in
              let v = optional_kept own ls (numbering.passed_on t) plain.absent holds.2 _ (of_body Site.Value b d.1).1 (of_body Site.Value (changed_body C own ls b) d'.1).1 (goes_in come 2 refl) (goes_in come' 2 refl) z.step g.2 in
              becomes (λ x. named.if (a_node s t c).0 x.0 x.1.0 x.1.1) (λ x. named.if (a_node s t c').0 x.0 x.1.0 x.1.1) (behind_node s s t t c c' (both y (both z v))) (λ x. (same_and x.1.0.0 x.1.1.0, same_or x.0.1 (same_and x.1.0.1 x.1.1.1)))
              (λ q a a' f w. at_node q (λ n. ExpLike q (named.if (a_node s t c).0 a.0 a.1.0 a.1.1) (named.if n a'.0 a'.1.0 a'.1.1)) c.number c'.number s s t w.0 (ren.RenumberedExp.if w.1.0 w.1.1.0 w.1.1.1))
          exp_kept own ls m t (plain.if_let s p e b plain.absent) holds made c c' come come' st h =
              let g = if_let_parts only h in
              let d = numbering.of_pattern p (a_node s t c).1 in let d' = numbering.of_pattern p (a_node s t c').1 in
              let a = pattern_kept R W apart even P p (a_node s t c).1 (a_node s t c').1 (next s t c c' st) g.0 in
              let e1 = of_expression false Site.Scrutinee e d.1 in let e2 = of_expression false Site.Scrutinee (changed C own ls e) d'.1 in
              let y = exp_kept own ls false Site.Scrutinee e holds.0 _ d.1 d'.1 (goes_in come 0 refl) (goes_in come' 0 refl) a.kept.step g.1 in
              let k = (numbering.known_between (a_node s t c).1.declared d.1.declared e1.1).1 in let k' = (numbering.known_between (a_node s t c').1.declared d'.1.declared e2.1).1 in
              let u = in_front_of y k k' refl refl (alike_known R W apart even y.step a.ranges) in
              let z = body_kept (bound p ++ own) ls Site.Value b holds.1 _ k k' (goes_in come 1 refl) (goes_in come' 1 refl) u.step g.2 in
              let v = optional_kept own ls (numbering.passed_on t) plain.absent holds.2 _ (of_body Site.Value b k).1 (of_body Site.Value (changed_body C (bound p ++ own) ls b) k').1 (goes_in come 2 refl) (goes_in come' 2 refl) z.step g.3 in
              becomes (λ x. named.if_let (a_node s t c).0 x.0 x.1.0 x.1.1.0 x.1.1.1) (λ x. named.if_let (a_node s t c').0 x.0 x.1.0 x.1.1.0 x.1.1.1) (behind_node s s t t c c' (both_plainly a.kept (both u (both z v)))) (λ x. (same_and x.1.1.0.0 x.1.1.1.0, same_or x.1.0.1 (same_and x.1.1.0.1 x.1.1.1.1)))
              (λ q a a' f w. at_node q (λ n. ExpLike q (named.if_let (a_node s t c).0 a.0 a.1.0 a.1.1.0 a.1.1.1) (named.if_let n a'.0 a'.1.0 a'.1.1.0 a'.1.1.1)) c.number c'.number s s t w.0 (ren.RenumberedExp.if_let w.1.0 w.1.1.0 w.1.1.1.0 w.1.1.1.1))
          exp_kept own ls m t (plain.if s e b (plain.present x)) holds made c c' come come' st h =
              let g = if_parts only h in
              let d = of_expression false Site.Value e (a_node s t c).1 in let d' = of_expression false Site.Value (changed C own ls e) (a_node s t c').1 in
              let y = exp_kept own ls false Site.Value e holds.0 _ (a_node s t c).1 (a_node s t c').1 (goes_in come 0 refl) (goes_in come' 0 refl) (next s t c c' st) g.0 in
              let z = body_kept own ls (numbering.passed_on t) b holds.1 _ d.1 d'.1 (goes_in come 1 refl) (goes_in come' 1 refl) y.step g.1 in
              let v = optional_kept own ls (numbering.passed_on t) (plain.present x) holds.2 _ (of_body (numbering.passed_on t) b d.1).1 (of_body (numbering.passed_on t) (changed_body C own ls b) d'.1).1 (goes_in come 2 refl) (goes_in come' 2 refl) z.step g.2 in
              becomes (λ x. named.if (a_node s t c).0 x.0 x.1.0 x.1.1) (λ x. named.if (a_node s t c').0 x.0 x.1.0 x.1.1) (behind_node s s t t c c' (both y (both z v))) (λ x. (same_and x.1.0.0 x.1.1.0, same_or x.0.1 (same_and x.1.0.1 x.1.1.1)))
              (λ q a a' f w. at_node q (λ n. ExpLike q (named.if (a_node s t c).0 a.0 a.1.0 a.1.1) (named.if n a'.0 a'.1.0 a'.1.1)) c.number c'.number s s t w.0 (ren.RenumberedExp.if w.1.0 w.1.1.0 w.1.1.1))
          exp_kept own ls m t (plain.if_let s p e b (plain.present x)) holds made c c' come come' st h =
              let g = if_let_parts only h in
              let d = numbering.of_pattern p (a_node s t c).1 in let d' = numbering.of_pattern p (a_node s t c').1 in
              let a = pattern_kept R W apart even P p (a_node s t c).1 (a_node s t c').1 (next s t c c' st) g.0 in
              let e1 = of_expression false Site.Scrutinee e d.1 in let e2 = of_expression false Site.Scrutinee (changed C own ls e) d'.1 in
              let y = exp_kept own ls false Site.Scrutinee e holds.0 _ d.1 d'.1 (goes_in come 0 refl) (goes_in come' 0 refl) a.kept.step g.1 in
              let k = (numbering.known_between (a_node s t c).1.declared d.1.declared e1.1).1 in let k' = (numbering.known_between (a_node s t c').1.declared d'.1.declared e2.1).1 in
              let u = in_front_of y k k' refl refl (alike_known R W apart even y.step a.ranges) in
              let z = body_kept (bound p ++ own) ls (numbering.passed_on t) b holds.1 _ k k' (goes_in come 1 refl) (goes_in come' 1 refl) u.step g.2 in
              let v = optional_kept own ls (numbering.passed_on t) (plain.present x) holds.2 _ (of_body (numbering.passed_on t) b k).1 (of_body (numbering.passed_on t) (changed_body C (bound p ++ own) ls b) k').1 (goes_in come 2 refl) (goes_in come' 2 refl) z.step g.3 in
              becomes (λ x. named.if_let (a_node s t c).0 x.0 x.1.0 x.1.1.0 x.1.1.1) (λ x. named.if_let (a_node s t c').0 x.0 x.1.0 x.1.1.0 x.1.1.1) (behind_node s s t t c c' (both_plainly a.kept (both u (both z v)))) (λ x. (same_and x.1.1.0.0 x.1.1.1.0, same_or x.1.0.1 (same_and x.1.1.0.1 x.1.1.1.1)))
              (λ q a a' f w. at_node q (λ n. ExpLike q (named.if_let (a_node s t c).0 a.0 a.1.0 a.1.1.0 a.1.1.1) (named.if_let n a'.0 a'.1.0 a'.1.1.0 a'.1.1.1)) c.number c'.number s s t w.0 (ren.RenumberedExp.if_let w.1.0 w.1.1.0 w.1.1.1.0 w.1.1.1.1))
          exp_kept own ls m t (plain.loop s l b) holds made c c' come come' st h =
              let g = loop_parts only h in let d = (numbering.a_loop (a_node s t c).1).1 in let d' = (numbering.a_loop (a_node s t c').1).1 in
              let y = body_kept own (meant.a_loop l 0 ∷ ls) Site.Value b holds _ d d' (goes_in come 0 refl) (goes_in come' 0 refl) (alike_loop R W apart even (next s t c c' st) g.0) g.1 in
              let k = get_or (of_body Site.Value b d).1.loops (length (a_node s t c).1.loops) false in let k' = get_or (of_body Site.Value (changed_body C own (meant.a_loop l 0 ∷ ls) b) d').1.loops (length (a_node s t c').1.loops) false in
              let e : k' ≡ k = left_alike R W apart even y.step (length (a_node s t c).1.loops) (length (a_node s t c').1.loops) g.0 in
              becomes (λ x. named.loop (a_node s t c).0 (length (a_node s t c).1.loops) k x) (λ x. named.loop (a_node s t c').0 (length (a_node s t c').1.loops) k' x) (behind_node s s t t c c' (behind_step (a_node s t c).1 (a_node s t c').1 d d' refl refl y)) (λ x. (ap not e, ap not e))
              (λ q a a' f w. loop_at q (a_node s t c).0 _ _ _ _ c'.number s t (f.loops _ _ g.0) e w.0 refl w.1)
          exp_kept own ls m t (plain.while s l e b) holds made c c' come come' st h =
              let g = while_parts only h in let d = (numbering.a_loop (a_node s t c).1).1 in let d' = (numbering.a_loop (a_node s t c').1).1 in
              let y = exp_kept own (a_test ∷ meant.a_loop l 0 ∷ ls) false Site.Value e holds.0 _ d d' (goes_in come 0 refl) (goes_in come' 0 refl) (alike_loop R W apart even (next s t c c' st) g.0) g.1 in
              let z = body_kept own (meant.a_loop l 0 ∷ ls) Site.Value b holds.1 _ (of_expression false Site.Value e d).1 (of_expression false Site.Value (changed C own (a_test ∷ meant.a_loop l 0 ∷ ls) e) d').1 (goes_in come 1 refl) (goes_in come' 1 refl) y.step g.2 in
              becomes (λ x. named.while (a_node s t c).0 (length (a_node s t c).1.loops) x.0 x.1) (λ x. named.while (a_node s t c').0 (length (a_node s t c').1.loops) x.0 x.1) (behind_node s s t t c c' (behind_step (a_node s t c).1 (a_node s t c').1 d d' refl refl (both y z))) (λ x. (refl, x.0.1))
              (λ q a a' f w. while_at q (a_node s t c).0 _ _ c'.number s t (f.loops _ _ g.0) w.0 refl w.1.0 w.1.1)
          exp_kept own ls m t (plain.while_let s l p e b) holds made c c' come come' st h =
              let g = while_let_parts only h in let d = (numbering.a_loop (a_node s t c).1).1 in let d' = (numbering.a_loop (a_node s t c').1).1 in
              let a = pattern_kept R W apart even P p d d' (alike_loop R W apart even (next s t c c' st) g.0) g.1 in
              let f = numbering.of_pattern p d in let f' = numbering.of_pattern p d' in
              let e1 = of_expression false Site.Scrutinee e f.1 in let e2 = of_expression false Site.Scrutinee (changed C own (a_test ∷ meant.a_loop l 0 ∷ ls) e) f'.1 in
              let y = exp_kept own (a_test ∷ meant.a_loop l 0 ∷ ls) false Site.Scrutinee e holds.0 _ f.1 f'.1 (goes_in come 0 refl) (goes_in come' 0 refl) a.kept.step g.2 in
              let k = (numbering.known_between d.declared f.1.declared e1.1).1 in let k' = (numbering.known_between d'.declared f'.1.declared e2.1).1 in
              let u = in_front_of y k k' refl refl (alike_known R W apart even y.step a.ranges) in
              let z = body_kept (bound p ++ own) (meant.a_loop l 0 ∷ ls) Site.Value b holds.1 _ k k' (goes_in come 1 refl) (goes_in come' 1 refl) u.step g.3 in
              becomes (λ x. named.while_let (a_node s t c).0 (length (a_node s t c).1.loops) x.0 x.1.0 x.1.1) (λ x. named.while_let (a_node s t c').0 (length (a_node s t c').1.loops) x.0 x.1.0 x.1.1) (behind_node s s t t c c' (behind_step (a_node s t c).1 (a_node s t c').1 d d' refl refl (both_plainly a.kept (both u z)))) (λ x. (refl, x.1.0.1))
              (λ q a a' f w. while_let_at q (a_node s t c).0 _ _ c'.number s t (f.loops _ _ g.0) w.0 refl w.1.0 w.1.1.0 w.1.1.1)

          all_kept : (own : Names) (ls : List Around) (t : Site) (es : Expressions) → AllWithin N own ls es → AllKept t es (changed_all C own ls es)
          all_kept own ls t plain.no_expression holds made c c' come come' st h = gives c c' named.no_exp named.no_exp st refl (λ q f w. ren.RenumberedExps.no_exp)
          all_kept own ls t (plain.expression_and e es) holds made c c' come come' st (alike.like_more_exps h hs) =
              let y = exp_kept own ls false t e holds.0 _ c c' (goes_in come 0 refl) (goes_in come' 0 refl) st h in let z = all_kept own ls t es holds.1 _ (of_expression false t e c).1 (of_expression false t (changed C own ls e) c').1 (goes_in come 1 refl) (goes_in come' 1 refl) y.step hs in
              becomes (λ x. named.exp_and x.0 x.1) (λ x. named.exp_and x.0 x.1) (both y z) (λ x. same_or x.0.1 x.1) (λ q a a' f w. ren.RenumberedExps.exp_and w.0 w.1)

          pub optional_kept : (own : Names) (ls : List Around) (t : Site) (o : OptionalExpression) → OptionalWithin N own ls o → OptionalKept t o (changed_optional C own ls o)
          optional_kept own ls t plain.absent holds made c c' come come' st h = gives c c' named.absent named.absent st (refl, refl, λ d. refl) (λ q f w. ren.RenumberedElse.absent)
          optional_kept own ls t (plain.present e) holds made c c' come come' st (alike.like_present h) = becomes (λ x. named.present x) (λ x. named.present x) (exp_kept own ls false t e holds _ c c' (goes_in come 0 refl) (goes_in come' 0 refl) st h) (λ x. (x.0, x.1, λ d. x.0)) (λ q a a' f w. ren.RenumberedElse.present w)

          arguments_kept : (own : Names) (ls : List Around) (o : OptionalExpressions) → ArgumentsWithin N own ls o → ArgumentsKept o (changed_arguments C own ls o)
          arguments_kept own ls plain.no_list holds made c c' come come' st h = gives c c' named.no_exp named.no_exp st refl (λ q f w. ren.RenumberedExps.no_exp)
          arguments_kept own ls (plain.a_list es) holds made c c' come come' st h = all_kept own ls Site.Expects es holds _ c c' (goes_in come 0 refl) (goes_in come' 0 refl) st h

          fields_kept : (own : Names) (ls : List Around) (fs : FieldExpressions) → FieldsWithin N own ls fs → FieldsKept fs (changed_fields C own ls fs)
          fields_kept own ls plain.no_field holds made c c' come come' st h = gives c c' named.no_field named.no_field st refl (λ q f w. ren.RenumberedFields.no_field)
          fields_kept own ls (plain.field_and y e fs) holds made c c' come come' st h =
              let g = field_parts only h in let x = exp_kept own ls false Site.Expects e holds.0 _ c c' (goes_in come 0 refl) (goes_in come' 0 refl) st g.0 in let z = fields_kept own ls fs holds.1 _ (of_expression false Site.Expects e c).1 (of_expression false Site.Expects (changed C own ls e) c').1 (goes_in come 1 refl) (goes_in come' 1 refl) x.step g.1 in
              becomes (λ x. named.field_and y.name x.0 x.1) (λ x. named.field_and y.name x.0 x.1) (both x z) (λ x. same_or x.0.1 x.1) (λ q a a' f w. ren.RenumberedFields.field_and w.0 w.1)

          arms_kept : (own : Names) (ls : List Around) (t : Site) (l : Arms) → ArmsWithin N own ls l → ArmsKept t l (changed_arms C own ls l)
          arms_kept own ls t plain.no_arm holds made c c' come come' st h = gives c c' named.no_arm named.no_arm st (refl, refl) (λ q f w. ren.RenumberedArms.no_arm)
          arms_kept own ls t (plain.arm_and p e l) holds made c c' come come' st (alike.like_more_arms o h hs) =
              let d = numbering.of_pattern p c in let d' = numbering.of_pattern p c' in
              let a = pattern_kept R W apart even P p c c' st o in
              let k = (numbering.known_between c.declared d.1.declared d.1).1 in let k' = (numbering.known_between c'.declared d'.1.declared d'.1).1 in
              let u = in_front_of a.kept k k' refl refl (alike_known R W apart even a.kept.step a.ranges) in
              let y = exp_kept (bound p ++ own) ls false t e holds.0 _ k k' (goes_in come 0 refl) (goes_in come' 0 refl) u.step h in
              let z = arms_kept own ls t l holds.1 _ (of_expression false t e k).1 (of_expression false t (changed C (bound p ++ own) ls e) k').1 (goes_in come 1 refl) (goes_in come' 1 refl) y.step hs in
              becomes (λ x. named.arm_and x.0 x.1.0 x.1.1) (λ x. named.arm_and x.0 x.1.0 x.1.1) (both_plainly u (both y z)) (λ x. (same_and x.1.0.0 x.1.1.0, same_and x.1.0.1 x.1.1.1)) (λ q a a' f w. ren.RenumberedArms.arm_and w.0 w.1.0 w.1.1)

          pub body_kept : (own : Names) (ls : List Around) (t : Site) (b : Body) → BodyWithin N own ls b → BodyKept t b (changed_body C own ls b)
          body_kept own ls t (plain.body s ss o) holds made c c' come come' st h = places.blocks own ls s t ss (changed_statements C own ls ss) o (changed_optional C (behind_all own ss) ls o) holds.0 (statements_kept own ls ss holds.1) (optional_kept (behind_all own ss) ls t o holds.2) made c c' come come' st h

          pub statements_kept : (own : Names) (ls : List Around) (ss : Statements) → StatementsWithin N own ls ss → StatementsKept ss (changed_statements C own ls ss)
          statements_kept own ls plain.no_statement holds made c c' come come' st h = gives c c' named.no_statement named.no_statement st refl (λ q f w. ren.RenumberedStatements.no_statement)
          statements_kept own ls (plain.statement_and a ss) holds made c c' come come' st (alike.like_more_statements h hs) =
              let y = statement_kept own ls a holds.0 _ c c' (goes_in come 0 refl) (goes_in come' 0 refl) st h in let z = statements_kept (bound_by a ++ own) ls ss holds.1 _ (of_statement a c).1 (of_statement (changed_statement C own ls a) c').1 (goes_in come 1 refl) (goes_in come' 1 refl) y.step hs in
              becomes (λ x. named.statement_and x.0 x.1) (λ x. named.statement_and x.0 x.1) (both y z) (λ x. same_or x.0 x.1) (λ q a a' f w. ren.RenumberedStatements.statement_and w.0 w.1)

          statement_kept : (own : Names) (ls : List Around) (a : Statement) → StatementWithin N own ls a → StatementKept a (changed_statement C own ls a)
          statement_kept own ls (plain.expression_statement s e b) holds made c c' come come' st h =
              becomes (λ x. named.evaluates (a_node s Site.Value c).0 x b) (λ x. named.evaluates (a_node s Site.Value c').0 x b) (behind_node s s Site.Value Site.Value c c' (exp_kept own ls false Site.Value e holds _ (a_node s Site.Value c).1 (a_node s Site.Value c').1 (goes_in come 0 refl) (goes_in come' 0 refl) (next s Site.Value c c' st) (evaluated_part only h))) (λ x. x.1)
              (λ q a a' f w. at_node q (λ n. StatementLike q (named.evaluates (a_node s Site.Value c).0 a b) (named.evaluates n a' b)) c.number c'.number s s Site.Value w.0 (ren.RenumberedStatement.evaluates w.1))
          statement_kept own ls (plain.let_statement s p y plain.absent) holds made c c' come come' st h =
              subst (λ (y' : Option TypeTree). StatementKept (plain.let_statement s p y plain.absent) (plain.let_statement s p y' plain.absent)) (sym (places.types p y)) (declared s p y) made c c' come come' st h
          statement_kept own ls (plain.let_statement s p y (plain.present e)) holds made c c' come come' st h =
              subst (λ (y' : Option TypeTree). StatementKept (plain.let_statement s p y (plain.present e)) (plain.let_statement s p y' (plain.present (changed C own ls e)))) (sym (places.types p y)) (initialised s p y e (changed C own ls e) (λ i. exp_kept own ls false i e holds.1)) made c c' come come' st h
