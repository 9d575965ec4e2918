-- Each part of a text is numbered from the spot where it begins to the one where it ends.
use Rattle.std.proofs.Common.{◌≡◌, ℕ, Bool, true, false, ◌&&◌, List, [], ◌∷◌, Option, Some, None, refl, sym, ap, ◌∙◌, subst}
use Rattle.rx_core.specs.declared.types.Span.{Span}
use Rattle.rx_tree.specs.declared.tree.Ident.{Ident}
use Rattle.rx_tree.specs.Plain as plain
use Rattle.rx_tree.specs.Plain.{TypeTree, TypeTrees, PatternTree, PatternTrees, FieldPatterns, Expression, Expressions, OptionalExpression, OptionalExpressions, FieldExpressions, Statement, Statements}
use Rattle.rx_resolve_names.specs.declared.resolved.NodeNames.{NodeNames}
use Rattle.rx_typed.specs.declared.nodes.Site.{Site}
use Rattle.rx_typed.specs.declared.nodes.Stage.{Stage}
use Rattle.rx_typed.specs.declared.nodes.Node.{Node}
use Rattle.rx_typed.specs.Named as named
use Rattle.rx_typed.specs.Named.{never, node_of, pattern_node, root, whole_binding, Exp, Exps, Pattern}
use Rattle.rx_typed.specs.Naming as naming
use Rattle.rx_typed.specs.Naming.{Cursor, a_node, an_entry, taken, passed_on, of_type, of_types, of_pattern, of_patterns, of_field_patterns, use_of, waiting}
use Rattle.rx_engine_changed.specs.Spots.{after, branch_at, declared_at, known_from, spot, waits_for_at, waits_where, with_variable, GivenThere, NumberedArms, NumberedBody, NumberedElse, NumberedExp, NumberedExps, NumberedFields, NumberedFieldPatterns, NumberedOptionalType, NumberedPattern, NumberedPatterns, NumberedStatement, NumberedStatements, NumberedType, NumberedTypes, Spot, WaitsNot}

-- an entry of names is no node
taken_spot : (ns : List NodeNames) (c : Cursor) → spot (taken ns c).1 ≡ spot c
taken_spot [] c = refl
taken_spot (n ∷ ns) c = refl

entry_spot : (c : Cursor) → spot (an_entry c).1 ≡ spot c
entry_spot c = taken_spot c.names c

lifetime_spot : (l : Option Ident) (c : Cursor) → spot (naming.lifetime_entry l c).1 ≡ spot c
lifetime_spot None c = refl
lifetime_spot (Some l) c = entry_spot c

-- ---- types and patterns

mutual
  type_numbered : (y : TypeTree) (c : Cursor) → NumberedType (spot c) (of_type y c).0 (spot (of_type y c).1)
  type_numbered (plain.kind_type s k) c = ((refl, refl), refl)
  type_numbered (plain.bool_type s) c = ((refl, refl), refl)
  type_numbered (plain.tuple_type s ts) c = ((refl, refl), types_numbered ts (a_node s Site.Value c).1)
  type_numbered (plain.ref_type s l m y) c =
      let k = (naming.lifetime_entry l (a_node s Site.Value c).1).1 in
      ((refl, refl), subst (λ (p : Spot). NumberedType p (of_type y k).0 (spot (of_type y k).1)) (lifetime_spot l (a_node s Site.Value c).1) (type_numbered y k))
  type_numbered (plain.named_type s x ls) c = ((refl, refl), entry_spot (a_node s Site.Value c).1)

  types_numbered : (ys : TypeTrees) (c : Cursor) → NumberedTypes (spot c) (of_types ys c).0 (spot (of_types ys c).1)
  types_numbered plain.no_type c = refl
  types_numbered (plain.type_and y ys) c = (spot (of_type y c).1, type_numbered y c, types_numbered ys (of_type y c).1)

optional_type_numbered : (y : Option TypeTree) (c : Cursor) → NumberedOptionalType (spot c) (naming.of_optional_type y c).0 (spot (naming.of_optional_type y c).1)
optional_type_numbered None c = refl
optional_type_numbered (Some y) c = type_numbered y c

mutual
  pattern_numbered : (p : PatternTree) (c : Cursor) → NumberedPattern (spot c) (of_pattern p c).0 (spot (of_pattern p c).1)
  pattern_numbered (plain.wild s) c = ((refl, refl), refl)
  pattern_numbered (plain.bind s x m) c =
      let e = entry_spot (a_node s Site.Value c).1 in ((refl, refl), ap (λ (p : Spot). p.declared) e, ap (with_variable m) e)
  pattern_numbered (plain.int_pattern s g v k) c = ((refl, refl), refl)
  pattern_numbered (plain.bool_pattern s b) c = ((refl, refl), refl)
  pattern_numbered (plain.tuple_pattern s ps) c = ((refl, refl), patterns_numbered ps (a_node s Site.Value c).1)
  pattern_numbered (plain.variant_pattern s a v ps) c =
      let k = (an_entry (a_node s Site.Value c).1).1 in
      ((refl, refl), subst (λ (p : Spot). NumberedPatterns p (of_patterns ps k).0 (spot (of_patterns ps k).1)) (entry_spot (a_node s Site.Value c).1) (patterns_numbered ps k))
  pattern_numbered (plain.make_pattern s x fs) c =
      let k = (an_entry (a_node s Site.Value c).1).1 in
      ((refl, refl), subst (λ (p : Spot). NumberedFieldPatterns p (of_field_patterns fs k).0 (spot (of_field_patterns fs k).1)) (entry_spot (a_node s Site.Value c).1) (field_patterns_numbered fs k))

  patterns_numbered : (ps : PatternTrees) (c : Cursor) → NumberedPatterns (spot c) (of_patterns ps c).0 (spot (of_patterns ps c).1)
  patterns_numbered plain.no_pattern c = refl
  patterns_numbered (plain.pattern_and p ps) c = (spot (of_pattern p c).1, pattern_numbered p c, patterns_numbered ps (of_pattern p c).1)

  field_patterns_numbered : (fs : FieldPatterns) (c : Cursor) → NumberedFieldPatterns (spot c) (of_field_patterns fs c).0 (spot (of_field_patterns fs c).1)
  field_patterns_numbered plain.no_field_pattern c = refl
  field_patterns_numbered (plain.field_pattern_and x p fs) c = (spot (of_pattern p c).1, pattern_numbered p c, field_patterns_numbered fs (of_pattern p c).1)

waits_at_spot : (n : Node) (o : Option ℕ) (c : Cursor) → spot (naming.waits_at n o c).1 ≡ waits_for_at n o (spot c)
waits_at_spot n None c = refl
waits_at_spot n (Some x) c = refl

waits_spot : (b : Bool) (p : Pattern) (c : Cursor) → spot (naming.waits_if b p c).1 ≡ waits_where b p (spot c)
waits_spot false p c = refl
waits_spot true p c = waits_at_spot (pattern_node p) (whole_binding p) c

annotates_spot : (p : PatternTree) (y : Option TypeTree) (c : Cursor) → spot (naming.annotates p y c).1 ≡ spot c
annotates_spot p None c = refl
annotates_spot p (Some y) c = refl

-- ---- expressions

abbrev ExpNumbered : Expression → Type 0
ExpNumbered e = (m : Bool) (t : Site) (c : Cursor) → NumberedExp (spot c) t (naming.of_expression m t e c).0 (spot (naming.of_expression m t e c).1)

branch_same : (t u : Site) (o : OptionalExpression) (c : Cursor) → naming.branch_site t o ≡ branch_at t (naming.of_optional u o c).0
branch_same t u plain.absent c = refl
branch_same t u (plain.present e) c = refl

called_numbered : (s : Span) (t : Site) (es : Expressions) (c : Cursor) → ((t : Site) (c : Cursor) → NumberedExps (spot c) t (naming.of_expressions t es c).0 (spot (naming.of_expressions t es c).1))
    → (k : List ℕ × Bool) → (c1 : Cursor) → spot c1 ≡ after (spot c)
    → NumberedExp (spot c) t (naming.called (a_node s t c).0 k (λ u. naming.of_expressions u es) c1).0 (spot (naming.called (a_node s t c).0 k (λ u. naming.of_expressions u es) c1).1)
called_numbered s t es c each (ns, true) c1 e = ((refl, refl), subst (λ (p : Spot). NumberedExps p Site.Value (naming.of_expressions Site.Value es c1).0 (spot (naming.of_expressions Site.Value es c1).1)) e (each Site.Value c1))
called_numbered s t es c each (ns, false) c1 e = ((refl, refl), subst (λ (p : Spot). NumberedExps p Site.Expects (naming.of_expressions Site.Expects es c1).0 (spot (naming.of_expressions Site.Expects es c1).1)) e (each Site.Expects c1))

-- a place that is a variable, or no variable that waits
data PlaceCases (p : Expression) (c : Cursor) (x : Exp) (end : Cursor) (o : Option (ℕ × ℕ)) : Type 0 where
  a_variable : (n : Node) (v : ℕ) → x ≡ named.var n (use_of v (naming.declaration end v)) → n.number ≡ c.number → n.site ≡ Site.Place → spot end ≡ after (spot c) → o ≡ waiting v (naming.declaration end v).stage → PlaceCases p c x end o
  no_variable : o ≡ None → WaitsNot x (spot end) → PlaceCases p c x end o

waits_not_called : (n : Node) (k : List ℕ × Bool) (f : Site → naming.Numbering Exps) (c : Cursor) (q : Spot) → WaitsNot (naming.called n k f c).0 q
waits_not_called n (ns, true) f c q = tt
waits_not_called n (ns, false) f c q = tt

waits_not_assigned : (n : Node) (p : Exp) (o : Option (ℕ × ℕ)) (f : Site → naming.Numbering Exp) (c : Cursor) (q : Spot) → WaitsNot (naming.assigned n p o f c).0 q
waits_not_assigned n p None f c q = tt
waits_not_assigned n p (Some w) f c q = tt

place_cases : (p : Expression) (c : Cursor)
    → PlaceCases p c (naming.of_expression false Site.Place p c).0 (naming.of_expression false Site.Place p c).1 (naming.waits_in p (root (naming.of_expression false Site.Place p c).0).number (naming.of_expression false Site.Place p c).1)
place_cases (plain.var s x) c =
    let k = an_entry (a_node s Site.Place c).1 in a_variable (a_node s Site.Place c).0 (naming.first k.0.0) refl refl refl (entry_spot (a_node s Site.Place c).1) refl
place_cases (plain.int s v k) c = no_variable refl tt
place_cases (plain.bool s b) c = no_variable refl tt
place_cases (plain.tuple s es) c = no_variable refl tt
place_cases (plain.field s e x) c = no_variable refl tt
place_cases (plain.part s e i) c = no_variable refl tt
place_cases (plain.deref s e) c = no_variable refl tt
place_cases (plain.negate s e) c = no_variable refl tt
place_cases (plain.invert s e) c = no_variable refl tt
place_cases (plain.borrow s k e) c = no_variable refl tt
place_cases (plain.binary s o x y) c = no_variable refl tt
place_cases (plain.assign s p e) c =
    let n = a_node s Site.Place c in let X = naming.of_expression false Site.Place p n.1 in
    no_variable refl (waits_not_assigned n.0 X.0 (naming.waits_in p (root X.0).number X.1) (λ u. naming.of_expression false u e) X.1 (spot (naming.of_expression false Site.Place (plain.assign s p e) c).1))
place_cases (plain.update s o p e) c = no_variable refl tt
place_cases (plain.call s g es) c =
    let n = a_node s Site.Place c in let k = an_entry n.1 in
    no_variable refl (waits_not_called n.0 k.0 (λ u. naming.of_expressions u es) k.1 (spot (naming.of_expression false Site.Place (plain.call s g es) c).1))
place_cases (plain.next_input s) c = no_variable refl tt
place_cases (plain.variant s x v es) c = no_variable refl tt
place_cases (plain.make s x fs) c = no_variable refl tt
place_cases (plain.print s e) c = no_variable refl tt
place_cases (plain.block s b) c = no_variable refl tt
place_cases (plain.if s x b o) c = no_variable refl tt
place_cases (plain.if_let s p e b o) c = no_variable refl tt
place_cases (plain.match s e l) c = no_variable refl tt
place_cases (plain.loop s l b) c = no_variable refl tt
place_cases (plain.while s l x b) c = no_variable refl tt
place_cases (plain.while_let s l p e b) c = no_variable refl tt
place_cases (plain.break s l) c = no_variable refl tt
place_cases (plain.continue s l) c = no_variable refl tt
place_cases (plain.return s o) c = no_variable refl tt

waits_itself : (x : ℕ) (s : Stage) (w : ℕ × ℕ) → waiting x s ≡ Some w → w.0 ≡ x
waits_itself x (Stage.Waits p s) w e = sym (pair_first (x, p) w e)
  where
    one_pair : (a b : ℕ × ℕ) → ◌≡◌ {A = Option (ℕ × ℕ)} (Some a) (Some b) → a ≡ b
    one_pair a b e = cc

    pair_first : (a b : ℕ × ℕ) → ◌≡◌ {A = Option (ℕ × ℕ)} (Some a) (Some b) → a.0 ≡ b.0
    pair_first a b e = ap (λ (z : ℕ × ℕ). z.0) (one_pair a b e)
waits_itself x Stage.Known w e = absurd (cc)
waits_itself x Stage.Given w e = absurd (cc)

none_waits : (o : Option (ℕ × ℕ)) (w : ℕ × ℕ) → o ≡ None → o ≡ Some w → ⊥
none_waits o w e f = cc

given_numbered : (x : ℕ) (o : Option (ℕ × ℕ)) (c : Cursor) → GivenThere o x (naming.given_here x o c).0 (spot c) (spot (naming.given_here x o c).1)
given_numbered x None c = (refl, refl)
given_numbered x (Some w) c = (refl, refl)

-- the value of an assignment, behind its place
assigned_numbered : (s : Span) (t : Site) (p e : Expression) (c : Cursor) → ExpNumbered p → ExpNumbered e → (x : Exp) (end : Cursor) → NumberedExp (after (spot c)) Site.Place x (spot end)
    → (o : Option (ℕ × ℕ)) → PlaceCases p (a_node s t c).1 x end o
    → NumberedExp (spot c) t (naming.assigned (a_node s t c).0 x o (λ u. naming.of_expression false u e) end).0 (spot (naming.assigned (a_node s t c).0 x o (λ u. naming.of_expression false u e) end).1)
assigned_numbered s t p e c a b x end h None (a_variable n v i j k l f) = ((refl, refl), spot end, h, subst (λ (z : Exp). WaitsNot z (spot end)) (sym i) (sym f), b false Site.Expects end)
assigned_numbered s t p e c a b x end h None (no_variable f w) = ((refl, refl), spot end, h, w, b false Site.Expects end)
assigned_numbered s t p e c a b x end h (Some w) (no_variable f z) = absurd (none_waits (Some w) w f refl)
assigned_numbered s t p e c a b x end h (Some w) (a_variable n v i j k l f) =
    let E = naming.of_expression false Site.Reborrows e end in
    let d = waits_itself v (naming.declaration end v).stage w (sym f) in (
      (refl, refl),
      (ap (λ (z : Exp). (node_of z).number) i ∙ j, ap (λ (z : Exp). (node_of z).site) i ∙ k),
      (w, ap (λ (p : Spot). waiting w.0 (declared_at p w.0).stage) (sym l) ∙ subst (λ (z : ℕ). waiting z (naming.declaration end z).stage ≡ Some w) (sym d) (sym f)),
      spot E.1,
      subst (λ (p : Spot). NumberedExp p Site.Reborrows E.0 (spot E.1)) l (b false Site.Reborrows end),
      refl,
      given_numbered w.0 (waiting w.0 (naming.declaration E.1 w.0).stage) E.1,
    )

mutual
  exp_numbered : (e : Expression) → ExpNumbered e
  exp_numbered (plain.int s v k) m t c = ((refl, refl), refl)
  exp_numbered (plain.bool s b) m t c = ((refl, refl), refl)
  exp_numbered (plain.tuple s es) m t c = ((refl, refl), exps_numbered es Site.Value (a_node s t c).1)
  exp_numbered (plain.var s x) m t c =
      let k = an_entry (a_node s t c).1 in let e = entry_spot (a_node s t c).1 in
      ((refl, refl), ap (λ (p : Spot). use_of (naming.first k.0.0) (declared_at p (naming.first k.0.0))) e, e)
  exp_numbered (plain.field s e x) m t c = ((refl, refl), exp_numbered e false Site.Place (a_node s t c).1)
  exp_numbered (plain.part s e i) m t c = ((refl, refl), exp_numbered e false Site.Place (a_node s t c).1)
  exp_numbered (plain.deref s e) m t c = ((refl, refl), exp_numbered e false Site.Place (a_node s t c).1)
  exp_numbered (plain.negate s e) m t c = ((refl, refl), exp_numbered e true Site.Value (a_node s t c).1)
  exp_numbered (plain.invert s e) m t c = ((refl, refl), exp_numbered e false Site.Value (a_node s t c).1)
  exp_numbered (plain.borrow s k e) m t c = ((refl, refl), exp_numbered e false Site.Place (a_node s t c).1)
  exp_numbered (plain.binary s o x y) m t c =
      let X = naming.of_expression false Site.Value x (a_node s t c).1 in ((refl, refl), spot X.1, exp_numbered x false Site.Value (a_node s t c).1, exp_numbered y false Site.Value X.1)
  exp_numbered (plain.assign s p e) m t c =
      let X = naming.of_expression false Site.Place p (a_node s t c).1 in
      assigned_numbered s t p e c (λ m t c. exp_numbered p m t c) (λ m t c. exp_numbered e m t c) X.0 X.1 (exp_numbered p false Site.Place (a_node s t c).1) _ (place_cases p (a_node s t c).1)
  exp_numbered (plain.update s o p e) m t c =
      let X = naming.of_expression false Site.Place p (a_node s t c).1 in ((refl, refl), spot X.1, exp_numbered p false Site.Place (a_node s t c).1, exp_numbered e false Site.Value X.1)
  exp_numbered (plain.call s g es) m t c = called_numbered s t es c (λ t c. exps_numbered es t c) (an_entry (a_node s t c).1).0 (an_entry (a_node s t c).1).1 (entry_spot (a_node s t c).1)
  exp_numbered (plain.next_input s) m t c = ((refl, refl), entry_spot (a_node s t c).1)
  exp_numbered (plain.variant s x v es) m t c =
      let k = (an_entry (a_node s t c).1).1 in
      ((refl, refl), subst (λ (p : Spot). NumberedExps p Site.Expects (naming.of_arguments es k).0 (spot (naming.of_arguments es k).1)) (entry_spot (a_node s t c).1) (arguments_numbered es k))
  exp_numbered (plain.make s x fs) m t c =
      let k = (an_entry (a_node s t c).1).1 in
      ((refl, refl), subst (λ (p : Spot). NumberedFields p (naming.of_fields fs k).0 (spot (naming.of_fields fs k).1)) (entry_spot (a_node s t c).1) (fields_numbered fs k))
  exp_numbered (plain.print s e) m t c = ((refl, refl), exp_numbered e false Site.Value (a_node s t c).1)
  exp_numbered (plain.block s b) m t c = ((refl, refl), body_numbered b (passed_on t) (a_node s t c).1)
  exp_numbered (plain.if s x b o) m t c =
      let X = naming.of_expression false Site.Value x (a_node s t c).1 in
      let B = naming.of_body (naming.branch_site t o) b X.1 in (
        (refl, refl),
        spot X.1,
        exp_numbered x false Site.Value (a_node s t c).1,
        spot B.1,
        subst (λ (u : Site). NumberedBody (spot X.1) u B.0 (spot B.1)) (branch_same t (passed_on t) o B.1) (body_numbered b (naming.branch_site t o) X.1),
        optional_numbered o (passed_on t) B.1,
      )
  exp_numbered (plain.if_let s p e b o) m t c =
      let P = of_pattern p (a_node s t c).1 in
      let X = naming.of_expression false Site.Scrutinee e P.1 in
      let k = (naming.known_between (a_node s t c).1.declared P.1.declared X.1).1 in
      let B = naming.of_body (naming.branch_site t o) b k in (
        (refl, refl),
        spot P.1,
        pattern_numbered p (a_node s t c).1,
        spot X.1,
        exp_numbered e false Site.Scrutinee P.1,
        spot B.1,
        subst (λ (u : Site). NumberedBody (spot k) u B.0 (spot B.1)) (branch_same t (passed_on t) o B.1) (body_numbered b (naming.branch_site t o) k),
        optional_numbered o (passed_on t) B.1,
      )
  exp_numbered (plain.match s e l) m t c =
      let X = naming.of_expression false Site.Scrutinee e (a_node s t c).1 in ((refl, refl), spot X.1, exp_numbered e false Site.Scrutinee (a_node s t c).1, arms_numbered l (passed_on t) X.1)
  exp_numbered (plain.loop s l b) m t c = ((refl, refl), body_numbered b Site.Value (naming.a_loop (a_node s t c).1).1)
  exp_numbered (plain.while s l x b) m t c =
      let c1 = (naming.a_loop (a_node s t c).1).1 in
      let X = naming.of_expression false Site.Value x c1 in ((refl, refl), spot X.1, exp_numbered x false Site.Value c1, body_numbered b Site.Value X.1)
  exp_numbered (plain.while_let s l p e b) m t c =
      let c1 = (naming.a_loop (a_node s t c).1).1 in
      let P = of_pattern p c1 in
      let X = naming.of_expression false Site.Scrutinee e P.1 in
      let k = (naming.known_between c1.declared P.1.declared X.1).1 in
      ((refl, refl), spot P.1, pattern_numbered p c1, spot X.1, exp_numbered e false Site.Scrutinee P.1, body_numbered b Site.Value k)
  exp_numbered (plain.break s l) m t c = ((refl, refl), entry_spot (a_node s t c).1)
  exp_numbered (plain.continue s l) m t c = ((refl, refl), entry_spot (a_node s t c).1)
  exp_numbered (plain.return s o) m t c = ((refl, refl), optional_numbered o Site.Expects (a_node s t c).1)

  exps_numbered : (es : Expressions) (t : Site) (c : Cursor) → NumberedExps (spot c) t (naming.of_expressions t es c).0 (spot (naming.of_expressions t es c).1)
  exps_numbered plain.no_expression t c = refl
  exps_numbered (plain.expression_and e es) t c =
      let X = naming.of_expression false t e c in (spot X.1, exp_numbered e false t c, exps_numbered es t X.1)

  pub optional_numbered : (o : OptionalExpression) (t : Site) (c : Cursor) → NumberedElse (spot c) t (naming.of_optional t o c).0 (spot (naming.of_optional t o c).1)
  optional_numbered plain.absent t c = refl
  optional_numbered (plain.present e) t c = exp_numbered e false t c

  arguments_numbered : (es : OptionalExpressions) (c : Cursor) → NumberedExps (spot c) Site.Expects (naming.of_arguments es c).0 (spot (naming.of_arguments es c).1)
  arguments_numbered plain.no_list c = refl
  arguments_numbered (plain.a_list es) c = exps_numbered es Site.Expects c

  fields_numbered : (fs : FieldExpressions) (c : Cursor) → NumberedFields (spot c) (naming.of_fields fs c).0 (spot (naming.of_fields fs c).1)
  fields_numbered plain.no_field c = refl
  fields_numbered (plain.field_and x e fs) c =
      let X = naming.of_expression false Site.Expects e c in (spot X.1, exp_numbered e false Site.Expects c, fields_numbered fs X.1)

  arms_numbered : (l : plain.Arms) (t : Site) (c : Cursor) → NumberedArms (spot c) t (naming.of_arms t l c).0 (spot (naming.of_arms t l c).1)
  arms_numbered plain.no_arm t c = refl
  arms_numbered (plain.arm_and p e l) t c =
      let P = of_pattern p c in
      let k = (naming.known_between c.declared P.1.declared P.1).1 in
      let X = naming.of_expression false t e k in
      (spot P.1, pattern_numbered p c, spot X.1, exp_numbered e false t k, arms_numbered l t X.1)

  body_numbered : (b : plain.Body) (t : Site) (c : Cursor) → NumberedBody (spot c) t (naming.of_body t b c).0 (spot (naming.of_body t b c).1)
  body_numbered (plain.body s ss o) t c =
      let S = naming.of_statements ss (a_node s t c).1 in ((refl, refl), spot S.1, statements_numbered ss (a_node s t c).1, optional_numbered o t S.1)

  pub statements_numbered : (ss : Statements) (c : Cursor) → NumberedStatements (spot c) (naming.of_statements ss c).0 (spot (naming.of_statements ss c).1)
  statements_numbered plain.no_statement c = refl
  statements_numbered (plain.statement_and x ss) c =
      let X = naming.of_statement x c in (spot X.1, statement_numbered x c, statements_numbered ss X.1)

  statement_numbered : (x : Statement) (c : Cursor) → NumberedStatement (spot c) (naming.of_statement x c).0 (spot (naming.of_statement x c).1)
  statement_numbered (plain.let_statement s p y plain.absent) c =
      let n = a_node s Site.Value c in
      let n1 = (naming.annotates p y n.1).1 in
      let i = annotates_spot p y n.1 in
      let P = of_pattern p n1 in
      let Y = naming.of_optional_type y P.1 in
      let k = (naming.known_between n1.declared P.1.declared Y.1).1 in (
        (refl, refl),
        spot P.1,
        subst (λ (q : Spot). NumberedPattern q P.0 (spot P.1)) i (pattern_numbered p n1),
        spot Y.1,
        optional_type_numbered y P.1,
        waits_spot (naming.has_no_type Y.0) P.0 k ∙ ap (λ (q : Spot). waits_where (naming.has_no_type Y.0) P.0 (known_from q.declared P.1.declared (spot Y.1))) i,
      )
  statement_numbered (plain.let_statement s p y (plain.present e)) c =
      let n = a_node s Site.Value c in
      let n1 = (naming.annotates p y n.1).1 in
      let i = annotates_spot p y n.1 in
      let P = of_pattern p n1 in
      let Y = naming.of_optional_type y P.1 in
      let X = naming.of_expression false (naming.initialiser_site Y.0) e Y.1 in
      let k = (naming.known_between n1.declared P.1.declared X.1).1 in (
        (refl, refl),
        spot P.1,
        subst (λ (q : Spot). NumberedPattern q P.0 (spot P.1)) i (pattern_numbered p n1),
        spot Y.1,
        optional_type_numbered y P.1,
        spot X.1,
        exp_numbered e false (naming.initialiser_site Y.0) Y.1,
        waits_spot (naming.has_no_type Y.0 && never X.0) P.0 k ∙ ap (λ (q : Spot). waits_where (naming.has_no_type Y.0 && never X.0) P.0 (known_from q.declared P.1.declared (spot X.1))) i,
      )
  statement_numbered (plain.expression_statement s e b) c = ((refl, refl), exp_numbered e false Site.Value (a_node s Site.Value c).1)
