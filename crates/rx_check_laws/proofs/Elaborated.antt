-- Trees with the same numbers have the same typed tree, since it tells no places in the text.
use Rattle.std.proofs.Common.{◌≡◌, ℕ, suc, Bool, true, false, not, ◌&&◌, List, [], ◌∷◌, ◌++◌, Option, Some, None, refl, sym, ap, subst, ◌∙◌}
use Rattle.rx_core.specs.declared.types.Span.{Span}
use Rattle.rx_core.specs.declared.types.Step.TheVariants as step
use Rattle.rx_tree.specs.declared.tree.BinaryOp.{BinaryOp}
use Rattle.rx_typed.specs.declared.nodes.Node.{Node}
use Rattle.rx_typed.specs.Named as named
use Rattle.rx_typed.specs.Named.{body_never, body_node, else_never, all_never, is_place, node_of}
use Rattle.rx_typed.specs.Tree as tree
use Rattle.rx_typed.specs.Types.{named as shape_named, peeled}
use Rattle.rx_typed.specs.Tree.{own, under, Arms, Body, Exp, Mark, Operands, Pattern, Place, Scrutinee, Subpatterns}
use Rattle.rx_typed.specs.Elaborated as make
use Rattle.rx_typed.specs.Elaborated.{coercion_at, Assigned, Coercion, Met, plain, reborrow, share}
use Rattle.rx_engine_blocks.specs.Renumbering.{node_at}
use Rattle.rx_engine_blocks.specs.DemandsLike.{Is, NoSpecial}
use Rattle.rx_engine_blocks.specs.DemandsLike.Is.{itself}
use Rattle.rx_engine_typing.proofs.Holes.{no_fits}
use Rattle.rx_engine_typing.proofs.Looks.{like_all_never, like_body_never, like_body_node, like_else_never, like_node, like_place}
use Rattle.rx_engine_typing.specs.Renumbered as like
use Rattle.rx_engine_typing.specs.Renumbered.{no_holes, NodeAt}
use Rattle.rx_engine_typing.specs.Renumbered.NodeAt.{renumbered}
use Rattle.rx_check_laws.specs.ApartFromSpans.{unchanged, SameNumbers}
use Rattle.rx_check_laws.proofs.Cursors.{ap2}
use Rattle.rx_check_laws.proofs.Numbered.{ABody, AnElse, AllArms, AllExps, AllFields, AllPatterns, APattern, AnExp, AStatement, AllStatements, AType, FieldsAlike}

equal : {A : Type 0} {a b : A} → Is a b → a ≡ b
equal itself = refl

number_there : {n n' : Node} → NodeAt unchanged n n' → n.number ≡ n'.number
number_there renumbered = refl

number_at : {e e' : named.Exp} → AnExp e e' → (node_of e).number ≡ (node_of e').number
number_at h = number_there (like_node unchanged (λ l. l) no_holes NoSpecial (no_fits unchanged (λ l. l)) h)

node_so : {e e' : named.Exp} → AnExp e e' → NodeAt unchanged (node_of e) (node_of e')
node_so h = like_node unchanged (λ l. l) no_holes NoSpecial (no_fits unchanged (λ l. l)) h

place_so : {e e' : named.Exp} → AnExp e e' → is_place e ≡ is_place e'
place_so h = equal (like_place unchanged (λ l. l) no_holes NoSpecial (no_fits unchanged (λ l. l)) h)

body_so : {b b' : named.Body} → ABody b b' → body_never b ≡ body_never b'
body_so h = equal (like_body_never unchanged (λ l. l) no_holes NoSpecial (no_fits unchanged (λ l. l)) h)

else_so : {o o' : named.Else} → AnElse o o' → else_never o ≡ else_never o'
else_so h = equal (like_else_never unchanged (λ l. l) no_holes NoSpecial (no_fits unchanged (λ l. l)) h)

arms_so : {l l' : named.Arms} → AllArms l l' → all_never l ≡ all_never l'
arms_so h = equal (like_all_never unchanged (λ l. l) no_holes NoSpecial (no_fits unchanged (λ l. l)) h)

module _ (T : Assigned) where
  -- ---- places and marks

  pub place_same : {e e' : named.Exp} → AnExp e e' → make.place T e ≡ make.place T e'
  place_same (like.RenumberedExp.hole h) = elim h [ ]
  place_same (like.RenumberedExp.other_var h) = elim h [ ]
  place_same (like.RenumberedExp.assigns h k) = elim h [ ]
  place_same like.RenumberedExp.int = refl
  place_same like.RenumberedExp.bool = refl
  place_same (like.RenumberedExp.tuple h) = refl
  place_same like.RenumberedExp.var = refl
  place_same (like.RenumberedExp.field {x = x} h) = ap2 (λ (k : ℕ) (p : Place). under p (make.dereferences (T.typ k) ++ step.Field (make.field_in T.items (peeled (T.typ k)) x) ∷ [])) (number_at h) (place_same h)
  place_same (like.RenumberedExp.part {i = i} h) = ap2 (λ (k : ℕ) (p : Place). under p (make.dereferences (T.typ k) ++ step.Field i ∷ [])) (number_at h) (place_same h)
  place_same (like.RenumberedExp.deref h) = ap2 (λ (k : ℕ) (p : Place). under p (make.dereference (T.typ k))) (number_at h) (place_same h)
  place_same (like.RenumberedExp.negate h) = refl
  place_same (like.RenumberedExp.invert h) = refl
  place_same (like.RenumberedExp.borrow h) = refl
  place_same (like.RenumberedExp.binary h k) = refl
  place_same (like.RenumberedExp.assign h k) = refl
  place_same (like.RenumberedExp.gives h) = refl
  place_same (like.RenumberedExp.update h k) = refl
  place_same (like.RenumberedExp.call h) = refl
  place_same (like.RenumberedExp.hidden_call h) = refl
  place_same like.RenumberedExp.next_input = refl
  place_same (like.RenumberedExp.variant h) = refl
  place_same (like.RenumberedExp.make h) = refl
  place_same (like.RenumberedExp.print h) = refl
  place_same (like.RenumberedExp.block h) = refl
  place_same (like.RenumberedExp.if h k l) = refl
  place_same (like.RenumberedExp.if_let q h k l) = refl
  place_same (like.RenumberedExp.match h l) = refl
  place_same (like.RenumberedExp.loop h) = refl
  place_same (like.RenumberedExp.while h k) = refl
  place_same (like.RenumberedExp.while_let q h k) = refl
  place_same like.RenumberedExp.break = refl
  place_same like.RenumberedExp.continue = refl
  place_same (like.RenumberedExp.return k h) = refl

  read_same : (c : Coercion) (n n' : Node) (p : Place) → NodeAt unchanged n n' → make.read_as T n c p ≡ make.read_as T n' c p
  read_same plain n _ p renumbered = refl
  read_same reborrow n _ p renumbered = refl
  read_same share n _ p renumbered = refl

  coercion_same : (n n' : Node) → NodeAt unchanged n n' → coercion_at T n ≡ coercion_at T n'
  coercion_same n _ renumbered = refl

  placed_same : (n n' : Node) (p p' : Place) → NodeAt unchanged n n' → p ≡ p' → make.place_value T n p ≡ make.place_value T n' p'
  placed_same n n' p p' h e = read_same (coercion_at T n) n n' p h ∙ ap2 (λ (c : Coercion) (q : Place). make.read_as T n' c q) (coercion_same n n' h) e

  passed_same : (c : Coercion) (n n' : Node) (e : Exp) → NodeAt unchanged n n' → make.passed_as T n c e ≡ make.passed_as T n' c e
  passed_same plain n _ e renumbered = refl
  passed_same reborrow n _ e renumbered = refl
  passed_same share n _ e renumbered = refl

  value_same_at : (n n' : Node) (e e' : Exp) → NodeAt unchanged n n' → e ≡ e' → make.value_of T n e ≡ make.value_of T n' e'
  value_same_at n n' e e' h q = passed_same (coercion_at T n) n n' e h ∙ ap2 (λ (c : Coercion) (f : Exp). make.passed_as T n' c f) (coercion_same n n' h) q

  matched_at : (b : Bool) (c : Coercion) {e e' : named.Exp} (v v' : Exp) → AnExp e e' → v ≡ v' → make.matched_as T b c e v ≡ make.matched_as T b c e' v'
  matched_at true plain v v' h q = ap2 (λ (n : ℕ) (p : Place). tree.at_place (make.marked n (Some (T.typ n))) p) (number_at h) (place_same h)
  matched_at true reborrow v v' h q = ap tree.of_value q
  matched_at true share v v' h q = ap tree.of_value q
  matched_at false c v v' h q = ap tree.of_value q

  matched_same : {e e' : named.Exp} (v v' : Exp) → AnExp e e' → v ≡ v' → make.matched T e v ≡ make.matched T e' v'
  matched_same {e = e} {e' = e'} v v' h q = matched_at (is_place e) (coercion_at T (node_of e)) v v' h q ∙ ap2 (λ (b : Bool) (c : Coercion). make.matched_as T b c e' v') (place_so h) (coercion_same (node_of e) (node_of e') (node_so h))

  operated_same : (o : BinaryOp) (n : Node) (s : Span) (a a' b b' : Exp) → a ≡ a' → b ≡ b' → make.operated T n o a b ≡ make.operated T (node_at unchanged n s) o a' b'
  operated_same BinaryOp.Add n s a a' b b' h k = cc (h, k)
  operated_same BinaryOp.Sub n s a a' b b' h k = cc (h, k)
  operated_same BinaryOp.Mul n s a a' b b' h k = cc (h, k)
  operated_same BinaryOp.Div n s a a' b b' h k = cc (h, k)
  operated_same BinaryOp.Rem n s a a' b b' h k = cc (h, k)
  operated_same BinaryOp.Eq n s a a' b b' h k = cc (h, k)
  operated_same BinaryOp.Ne n s a a' b b' h k = cc (h, k)
  operated_same BinaryOp.Lt n s a a' b b' h k = cc (h, k)
  operated_same BinaryOp.Le n s a a' b b' h k = cc (h, k)
  operated_same BinaryOp.Gt n s a a' b b' h k = cc (h, k)
  operated_same BinaryOp.Ge n s a a' b b' h k = cc (h, k)
  operated_same BinaryOp.And n s a a' b b' h k = cc (h, k)
  operated_same BinaryOp.Or n s a a' b b' h k = cc (h, k)

  tuple_same : (n : Node) (s : Span) (es es' : Operands) → es ≡ es' → make.tuple_of T n es ≡ make.tuple_of T (node_at unchanged n s) es'
  tuple_same n s es es' h = so es ∙ ap (make.tuple_of T (node_at unchanged n s)) h
    where
      so : (fs : Operands) → make.tuple_of T n fs ≡ make.tuple_of T (node_at unchanged n s) fs
      so tree.no_operand = refl
      so (tree.operand_and i e fs) = refl

  -- ---- patterns

  mutual
    pattern_same : (r : Met) {p p' : named.Pattern} → APattern p p' → make.pattern T r p ≡ make.pattern T r p'
    pattern_same r like.RenumberedPattern.wild = refl
    pattern_same r like.RenumberedPattern.bind = refl
    pattern_same r like.RenumberedPattern.whole_number = refl
    pattern_same r like.RenumberedPattern.truth = refl
    pattern_same r (like.RenumberedPattern.tuple_pattern {n = n} h) = ap (λ (ps : Subpatterns). make.behind_all (T.typ n.number) (tree.parts ps)) (subpatterns_same (make.met (T.typ n.number) r) 0 h)
    pattern_same r (like.RenumberedPattern.variant_pattern {n = n} {i = i} {v = v} h) = ap (λ (ps : Subpatterns). make.behind_all (T.typ n.number) (tree.variant n.number i (make.has_several T.items i) v ps)) (subpatterns_same (make.met (T.typ n.number) r) 0 h)
    pattern_same r (like.RenumberedPattern.struct_pattern {n = n} {i = i} h) = ap (λ (ps : Subpatterns). make.behind_all (T.typ n.number) (tree.parts ps)) (field_patterns_same (make.met (T.typ n.number) r) i h)

    subpatterns_same : (r : Met) (k : ℕ) {ps ps' : named.Patterns} → AllPatterns ps ps' → make.subpatterns T r k ps ≡ make.subpatterns T r k ps'
    subpatterns_same r k like.RenumberedPatterns.no_pattern = refl
    subpatterns_same r k (like.RenumberedPatterns.pattern_and h g) = ap2 (λ (p : Pattern) (ps : Subpatterns). tree.part_and k p ps) (pattern_same r h) (subpatterns_same r (suc k) g)

    field_patterns_same : (r : Met) (i : ℕ) {fs fs' : named.FieldPatterns} → FieldsAlike fs fs' → make.field_patterns T r i fs ≡ make.field_patterns T r i fs'
    field_patterns_same r i like.RenumberedFieldPatterns.no_field_pattern = refl
    field_patterns_same r i (like.RenumberedFieldPatterns.field_pattern_and {x = x} h g) = ap2 (λ (p : Pattern) (ps : Subpatterns). tree.part_and (make.field_in T.items (shape_named i) x) p ps) (pattern_same r h) (field_patterns_same r i g)

  mutual
    variables_same : {p p' : named.Pattern} → APattern p p' → make.variables p ≡ make.variables p'
    variables_same like.RenumberedPattern.wild = refl
    variables_same like.RenumberedPattern.bind = refl
    variables_same like.RenumberedPattern.whole_number = refl
    variables_same like.RenumberedPattern.truth = refl
    variables_same (like.RenumberedPattern.tuple_pattern h) = all_variables_same h
    variables_same (like.RenumberedPattern.variant_pattern h) = all_variables_same h
    variables_same (like.RenumberedPattern.struct_pattern h) = field_variables_same h

    all_variables_same : {ps ps' : named.Patterns} → AllPatterns ps ps' → make.variables_in ps ≡ make.variables_in ps'
    all_variables_same like.RenumberedPatterns.no_pattern = refl
    all_variables_same (like.RenumberedPatterns.pattern_and h g) = ap2 (λ (xs ys : List ℕ). xs ++ ys) (variables_same h) (all_variables_same g)

    field_variables_same : {fs fs' : named.FieldPatterns} → FieldsAlike fs fs' → make.variables_in_fields fs ≡ make.variables_in_fields fs'
    field_variables_same like.RenumberedFieldPatterns.no_field_pattern = refl
    field_variables_same (like.RenumberedFieldPatterns.field_pattern_and h g) = ap2 (λ (xs ys : List ℕ). xs ++ ys) (variables_same h) (field_variables_same g)

  -- ---- expressions

  mark_there : {b b' : named.Body} → ABody b b' → make.mark_if T (body_node b) (body_never b) ≡ make.mark_if T (body_node b') (body_never b')
  mark_there h = ap2 (λ (k : ℕ) (v : Bool). make.marked k (make.type_unless v (T.typ k))) (number_there (like_body_node unchanged (λ l. l) no_holes NoSpecial (no_fits unchanged (λ l. l)) h)) (body_so h)

  mutual
    pub value_same : {e e' : named.Exp} → AnExp e e' → make.value T e ≡ make.value T e'
    value_same (like.RenumberedExp.hole h) = elim h [ ]
    value_same like.RenumberedExp.int = refl
    value_same like.RenumberedExp.bool = refl
    value_same (like.RenumberedExp.tuple {n = n} {s = s} h) = tuple_same n s _ _ (operands_same 0 h)
    value_same (like.RenumberedExp.var {n = n} {s = s}) = placed_same n (node_at unchanged n s) _ _ (renumbered {n = n} {s = s}) refl
    value_same (like.RenumberedExp.other_var h) = elim h [ ]
    value_same (like.RenumberedExp.field {n = n} {s = s} {x = x} h) = placed_same n (node_at unchanged n s) _ _ (renumbered {n = n} {s = s}) (place_same (like.RenumberedExp.field {n = n} {s = s} {x = x} h))
    value_same (like.RenumberedExp.part {n = n} {s = s} {i = i} h) = placed_same n (node_at unchanged n s) _ _ (renumbered {n = n} {s = s}) (place_same (like.RenumberedExp.part {n = n} {s = s} {i = i} h))
    value_same (like.RenumberedExp.deref {n = n} {s = s} h) = placed_same n (node_at unchanged n s) _ _ (renumbered {n = n} {s = s}) (place_same (like.RenumberedExp.deref {n = n} {s = s} h))
    value_same (like.RenumberedExp.negate {n = n} h) = ap (λ (e : Exp). tree.build (make.mark T n) tree.negation (make.one_operand e)) (value_same h)
    value_same (like.RenumberedExp.invert {n = n} h) = ap (λ (e : Exp). tree.build (make.mark T n) tree.inversion (make.one_operand e)) (value_same h)
    value_same (like.RenumberedExp.borrow {n = n} {s = s} {m = m} h) = value_same_at n (node_at unchanged n s) _ _ (renumbered {n = n} {s = s}) (ap (tree.borrow (make.mark T n) m) (place_same h))
    value_same (like.RenumberedExp.binary {n = n} {s = s} {o = o} h k) = operated_same o n s _ _ _ _ (value_same h) (value_same k)
    value_same (like.RenumberedExp.assign {n = n} h k) = ap2 (λ (p : Place) (e : Exp). tree.assign (make.mark T n) p e) (place_same h) (value_same k)
    value_same (like.RenumberedExp.gives {n = n} {x = x} h) = ap (tree.assign (make.mark T n) (own x.number)) (value_same h)
    value_same (like.RenumberedExp.assigns h k) = elim h [ ]
    value_same (like.RenumberedExp.update {n = n} {o = o} h k) = ap2 (λ (p : Place) (e : Exp). tree.update (make.mark T n) (make.operator o) p e) (place_same h) (value_same k)
    value_same (like.RenumberedExp.call {n = n} {s = s} {g = g} h) = value_same_at n (node_at unchanged n s) _ _ (renumbered {n = n} {s = s}) (ap (tree.call (make.mark T n) g) (operands_same 0 h))
    value_same (like.RenumberedExp.hidden_call h) = refl
    value_same like.RenumberedExp.next_input = refl
    value_same (like.RenumberedExp.variant {n = n} {i = i} {v = v} h) = ap (tree.build (make.mark T n) (tree.variant_of i v)) (operands_same 0 h)
    value_same (like.RenumberedExp.make {n = n} {i = i} h) = ap (tree.build (make.mark T n) (tree.struct i)) (fields_same i h)
    value_same (like.RenumberedExp.print {n = n} h) = ap (tree.print (make.mark T n)) (value_same h)
    value_same (like.RenumberedExp.block h) = whole_body_same h
    value_same (like.RenumberedExp.if {n = n} {s = s} h k l) = let a = value_same h in let b = whole_body_same k in let c = otherwise_same n s l in let d = body_so k in let e = else_so l in cc (a, b, c, d, e)
    value_same (like.RenumberedExp.if_let {n = n} {s = s} q h k l) = let a = matched_same _ _ h (value_same h) in let b = whole_body_same k in let c = otherwise_same n s l in let d = body_so k in let e = else_so l in let f = pattern_same None q in cc (a, b, c, d, e, f)
    value_same (like.RenumberedExp.match {n = n} h l) = let a = matched_same _ _ h (value_same h) in let b = each_arm_same l in let c = arms_so l in cc (a, b, c)
    value_same (like.RenumberedExp.loop {n = n} {l = l} {k = k} h) = ap (tree.loop (make.mark_if T n (not k)) l) (whole_body_same h)
    value_same (like.RenumberedExp.while {n = n} h k) = let a = value_same h in let b = whole_body_same k in let c = mark_there k in cc (a, b, c)
    value_same (like.RenumberedExp.while_let {n = n} q h k) = let a = matched_same _ _ h (value_same h) in let b = whole_body_same k in let c = mark_there k in let d = pattern_same None q in cc (a, b, c, d)
    value_same like.RenumberedExp.break = refl
    value_same like.RenumberedExp.continue = refl
    value_same (like.RenumberedExp.return {n = n} {s = s} k h) = ap (tree.give (make.no_mark n)) (returned_same n s h)

    operands_same : (k : ℕ) {es es' : named.Exps} → AllExps es es' → make.operands T k es ≡ make.operands T k es'
    operands_same k like.RenumberedExps.no_exp = refl
    operands_same k (like.RenumberedExps.exp_and h g) = ap2 (λ (e : Exp) (es : Operands). tree.operand_and k e es) (value_same h) (operands_same (suc k) g)

    fields_same : (i : ℕ) {fs fs' : named.Fields} → AllFields fs fs' → make.fields T i fs ≡ make.fields T i fs'
    fields_same i like.RenumberedFields.no_field = refl
    fields_same i (like.RenumberedFields.field_and {x = x} h g) = ap2 (λ (e : Exp) (es : Operands). tree.operand_and (make.field_in T.items (shape_named i) x) e es) (value_same h) (fields_same i g)

    otherwise_same : (n : Node) (s : Span) {o o' : named.Else} → AnElse o o' → make.otherwise T n o ≡ make.otherwise T (node_at unchanged n s) o'
    otherwise_same n s like.RenumberedElse.absent = refl
    otherwise_same n s (like.RenumberedElse.present h) = value_same h

    returned_same : (n : Node) (s : Span) {o o' : named.Else} → AnElse o o' → make.returned T n o ≡ make.returned T (node_at unchanged n s) o'
    returned_same n s like.RenumberedElse.absent = refl
    returned_same n s (like.RenumberedElse.present h) = value_same h

    tail_same : (n : Node) (s : Span) {o o' : named.Else} → AnElse o o' → make.tail T n o ≡ make.tail T (node_at unchanged n s) o'
    tail_same n s like.RenumberedElse.absent = refl
    tail_same n s (like.RenumberedElse.present h) = value_same h

    each_arm_same : {l l' : named.Arms} → AllArms l l' → make.arms T l ≡ make.arms T l'
    each_arm_same like.RenumberedArms.no_arm = refl
    each_arm_same (like.RenumberedArms.arm_and p h g) = let a = pattern_same None p in let b = value_same h in let c = each_arm_same g in cc (a, b, c)

    whole_body_same : {b b' : named.Body} → ABody b b' → make.body T b ≡ make.body T b'
    whole_body_same (like.RenumberedBody.other_block h) = elim h [ ]
    whole_body_same (like.RenumberedBody.body {n = n} {s = s} h g) = ap2 (λ (v : Bool) (r : Body). tree.block (make.mark_if T n v) r) (body_so (like.RenumberedBody.body {n = n} {s = s} h g)) (nested_same h (tail_same n s g))

    nested_same : {ss ss' : named.Statements} {l l' : Exp} → AllStatements ss ss' → l ≡ l' → make.nested T ss l ≡ make.nested T ss' l'
    nested_same like.RenumberedStatements.no_statement e = ap tree.ends e
    nested_same (like.RenumberedStatements.statement_and h g) e = one_same h (nested_same g e)

    one_same : {a a' : named.Statement} {r r' : Body} → AStatement a a' → r ≡ r' → make.statement T a r ≡ make.statement T a' r'
    one_same (like.RenumberedStatement.declares {n = n} p t) e = ap2 (λ (xs : List ℕ) (b : Body). tree.declares n.number xs b) (variables_same p) e
    one_same (like.RenumberedStatement.lets {n = n} p t h) e = let a = pattern_same None p in let b = matched_same _ _ h (value_same h) in cc (a, b, e)
    one_same (like.RenumberedStatement.evaluates h) e = ap2 tree.runs (value_same h) e

  -- ---- functions

  function_body_same : {b b' : named.Body} → ABody b b' → make.function_body T b ≡ make.function_body T b'
  function_body_same (like.RenumberedBody.other_block h) = elim h [ ]
  function_body_same (like.RenumberedBody.body {n = n} {s = s} h g) = ap2 (λ (v : Bool) (r : Body). tree.block (make.mark_if T n v) r) (body_so (like.RenumberedBody.body {n = n} {s = s} h g))
      (nested_same h (ap (tree.give (make.no_mark n)) (tail_same n s g)))

  written_same : {t t' : named.Written} → AType t t' → (named.written_node t).number ≡ (named.written_node t').number
  written_same like.RenumberedType.a_kind = refl
  written_same like.RenumberedType.a_bool = refl
  written_same (like.RenumberedType.a_tuple h) = refl
  written_same (like.RenumberedType.a_reference h) = refl
  written_same like.RenumberedType.an_item = refl

  parameters_same : {xs xs' : List named.Parameter} → like.RenumberedParameters unchanged xs xs' → make.parameters xs ≡ make.parameters xs'
  parameters_same like.RenumberedParameters.no_parameter = refl
  parameters_same (like.RenumberedParameters.parameter_and {x = x} h g) = ap2 (λ (n : ℕ) (ps : List tree.Parameter). record { node = n; variable = x } ∷ ps) (written_same h) (parameters_same g)

  pub elaborated_same : (f g : named.Function) → SameNumbers f g → make.elaborated T f ≡ make.elaborated T g
  elaborated_same f g h = ap2 (λ (ps : List tree.Parameter) (b : Exp). record { params = ps; body = b }) (parameters_same h.params) (function_body_same h.body)
