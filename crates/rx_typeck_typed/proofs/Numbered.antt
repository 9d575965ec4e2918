-- All nodes that a walk numbers are those of its tree.
use Rattle.std.proofs.Common.{◌≡◌, ℕ, suc, ◌≤◌, ◌<◌, Bool, true, false, not, ◌&&◌, List, [], ◌∷◌, ◌++◌, length, get_or, Option, Some, None, refl, sym, ap, ◌∙◌, ◌⊎◌, inl, inr, ⊎_elim, arith}
use Rattle.rx_core.specs.declared.types.Span.{Span}
use Rattle.rx_tree.specs.declared.tree.Ident.{Ident}
use Rattle.rx_tree.specs.Plain as plain
use Rattle.rx_tree.specs.Plain.{TypeTree, TypeTrees, PatternTree, PatternTrees, FieldPatterns, Expression, Expressions, OptionalExpression, OptionalExpressions, FieldExpressions, Statement, Statements, Parameter, Function}
use Rattle.rx_resolve_names.specs.declared.resolved.NodeNames.{NodeNames}
use Rattle.rx_typed.specs.declared.nodes.Site.{Site}
use Rattle.rx_typed.specs.declared.nodes.Stage.{Stage}
use Rattle.rx_typed.specs.Named.{Pattern, node_of, root, body_never, else_never, all_never, tail_never, some_diverges, whole_binding, pattern_node}
use Rattle.rx_typed.specs.Naming as naming
use Rattle.rx_typed.specs.Naming.{Cursor, a_node, an_entry, taken, passed_on, of_type, of_types, of_pattern, of_patterns, of_field_patterns, function_named, function_spans}
use Rattle.rx_typeck_solver.specs.Valid.{IsIn}
use Rattle.rx_typeck_typed.specs.Nodes.{one, type_nodes, types_nodes, optional_nodes, pattern_nodes, patterns_nodes, field_patterns_nodes, exp_nodes, exps_nodes, else_nodes, fields_nodes, arms_nodes, body_nodes, statement_nodes, statements_nodes, parameters_nodes, nodes as all_nodes}
use Rattle.rx_typeck_typed.proofs.Telling.{in_left, in_right}
use Rattle.rx_typeck_typed.proofs.Stages.{less_or}

-- the nodes that were numbered are among these, which have a type, or those, which have none
record Covers (c c' : Cursor) (ns ms : List ℕ) : Type 0 where
  grows : c.number ≤ c'.number
  spans : c.number ≡ length c.spans → c'.number ≡ length c'.spans
  all : (n : ℕ) → c.number ≤ n → n < c'.number → IsIn n ns ⊎ IsIn n ms

covers_then : {c c1 c2 : Cursor} {ns ms ns1 ms1 : List ℕ} → Covers c c1 ns ms → Covers c1 c2 ns1 ms1 → Covers c c2 (ns ++ ns1) (ms ++ ms1)
covers_then {c} {c1} {c2} {ns} {ms} {ns1} {ms1} a b = record {
  grows = let p = a.grows in let q = b.grows in omega (arith, p, q);
  spans = λ e. b.spans (a.spans e);
  all = λ n l u. ⊎_elim (λ h. ⊎_elim (λ i. inl (in_left n ns ns1 i)) (λ i. inr (in_left n ms ms1 i)) (a.all n l h)) (λ h. ⊎_elim (λ i. inl (in_right n ns ns1 i)) (λ i. inr (in_right n ms ms1 i)) (b.all n h u)) (less_or n c1.number);
}

ends_with : {c c1 c2 : Cursor} {ns ms : List ℕ} → Covers c c1 ns ms → Covers c1 c2 [] [] → Covers c c2 ns ms
ends_with {c} {c1} {c2} {ns} {ms} a b = record {
  grows = let p = a.grows in let q = b.grows in omega (arith, p, q);
  spans = λ e. b.spans (a.spans e);
  all = λ n l u. ⊎_elim (λ h. a.all n l h) (λ h. absurd (⊎_elim (λ i. i) (λ i. i) (b.all n h u))) (less_or n c1.number);
}

-- no node is numbered
nothing_covered : (c c' : Cursor) → c'.number ≡ c.number → c'.spans ≡ c.spans → Covers c c' [] []
nothing_covered c c' e s = record {
  grows = omega (arith, e);
  spans = λ h. e ∙ h ∙ ap (λ (l : List Span). length l) (sym s);
  all = λ n l u. absurd (omega (arith, l, u, e));
}

longer_by : (ss : List Span) (s : Span) → length (ss ++ s ∷ []) ≡ suc (length ss)
longer_by [] s = refl
longer_by (x ∷ ss) s = ap suc (longer_by ss s)

-- a node, by whether it has no type
node_covered : (v : Bool) (s : Span) (t : Site) (c : Cursor) → Covers c (a_node s t c).1 (one true v (a_node s t c).0) (one false v (a_node s t c).0)
node_covered v s t c = record { grows = omega arith; spans = λ h. ap suc h ∙ sym (longer_by c.spans s); all = λ n l u. at v n (omega (arith, l, u)) }
  where
    at : (v : Bool) (n : ℕ) → n ≡ c.number → IsIn n (one true v (a_node s t c).0) ⊎ IsIn n (one false v (a_node s t c).0)
    at true n e = inr (inl e)
    at false n e = inl (inl e)

taken_covered : (ns : List NodeNames) (c : Cursor) → Covers c (taken ns c).1 [] []
taken_covered [] c = nothing_covered c c refl refl
taken_covered (n ∷ ns) c = nothing_covered c (record c { names = ns }) refl refl

entry_covered : (c : Cursor) → Covers c (an_entry c).1 [] []
entry_covered c = taken_covered c.names c

-- ---- types and patterns

lifetime_covered : (l : Option Ident) (c : Cursor) → Covers c (naming.lifetime_entry l c).1 [] []
lifetime_covered None c = nothing_covered c c refl refl
lifetime_covered (Some l) c = entry_covered c

mutual
  type_covered : (y : TypeTree) (c : Cursor) → Covers c (of_type y c).1 (type_nodes (of_type y c).0) []
  type_covered (plain.kind_type s k) c = node_covered false s Site.Value c
  type_covered (plain.bool_type s) c = node_covered false s Site.Value c
  type_covered (plain.tuple_type s ts) c = covers_then (node_covered false s Site.Value c) (types_covered ts _)
  type_covered (plain.ref_type s l m y) c = covers_then (node_covered false s Site.Value c) (covers_then (lifetime_covered l _) (type_covered y _))
  type_covered (plain.named_type s x ls) c = covers_then (node_covered false s Site.Value c) (entry_covered _)

  types_covered : (ys : TypeTrees) (c : Cursor) → Covers c (of_types ys c).1 (types_nodes (of_types ys c).0) []
  types_covered plain.no_type c = nothing_covered c c refl refl
  types_covered (plain.type_and y ys) c = covers_then (type_covered y c) (types_covered ys _)

optional_type_covered : (y : Option TypeTree) (c : Cursor) → Covers c (naming.of_optional_type y c).1 (optional_nodes (naming.of_optional_type y c).0) []
optional_type_covered None c = nothing_covered c c refl refl
optional_type_covered (Some y) c = type_covered y c

mutual
  pattern_covered : (p : PatternTree) (c : Cursor) → Covers c (of_pattern p c).1 (pattern_nodes (of_pattern p c).0) []
  pattern_covered (plain.wild s) c = node_covered false s Site.Value c
  pattern_covered (plain.bind s x m) c = covers_then (node_covered false s Site.Value c) (covers_then (entry_covered _) (nothing_covered _ _ refl refl))
  pattern_covered (plain.int_pattern s g v k) c = node_covered false s Site.Value c
  pattern_covered (plain.bool_pattern s b) c = node_covered false s Site.Value c
  pattern_covered (plain.tuple_pattern s ps) c = covers_then (node_covered false s Site.Value c) (patterns_covered ps _)
  pattern_covered (plain.variant_pattern s a v ps) c = covers_then (node_covered false s Site.Value c) (covers_then (entry_covered _) (patterns_covered ps _))
  pattern_covered (plain.make_pattern s x fs) c = covers_then (node_covered false s Site.Value c) (covers_then (entry_covered _) (field_patterns_covered fs _))

  patterns_covered : (ps : PatternTrees) (c : Cursor) → Covers c (of_patterns ps c).1 (patterns_nodes (of_patterns ps c).0) []
  patterns_covered plain.no_pattern c = nothing_covered c c refl refl
  patterns_covered (plain.pattern_and p ps) c = covers_then (pattern_covered p c) (patterns_covered ps _)

  field_patterns_covered : (fs : FieldPatterns) (c : Cursor) → Covers c (of_field_patterns fs c).1 (field_patterns_nodes (of_field_patterns fs c).0) []
  field_patterns_covered plain.no_field_pattern c = nothing_covered c c refl refl
  field_patterns_covered (plain.field_pattern_and x p fs) c = covers_then (pattern_covered p c) (field_patterns_covered fs _)

waits_covered : (b : Bool) (p : Pattern) (c : Cursor) → Covers c (naming.waits_if b p c).1 [] []
waits_covered false p c = nothing_covered c c refl refl
waits_covered true p c = at (whole_binding p)
  where
    at : (o : Option ℕ) → Covers c (naming.waits_at (pattern_node p) o c).1 [] []
    at None = nothing_covered c c refl refl
    at (Some x) = nothing_covered c _ refl refl

-- ---- expressions

abbrev ExpCovers : Expression → Type 0
ExpCovers e = (m : Bool) (t : Site) (c : Cursor) → Covers c (naming.of_expression m t e c).1 (exp_nodes true (naming.of_expression m t e c).0) (exp_nodes false (naming.of_expression m t e c).0)

-- a place that is one node, or no variable that waits
abbrev OneNode : Expression → Cursor → Option (ℕ × ℕ) → Type 0
OneNode p c o = Covers c (naming.of_expression false Site.Place p c).1 (one true false (node_of (naming.of_expression false Site.Place p c).0)) (one false false (node_of (naming.of_expression false Site.Place p c).0)) ⊎ (o ≡ None)

one_node : (p : Expression) (c : Cursor) → OneNode p c (naming.waits_in p (root (naming.of_expression false Site.Place p c).0).number (naming.of_expression false Site.Place p c).1)
one_node (plain.var s x) c = inl (covers_then (node_covered false s Site.Place c) (entry_covered _))
one_node _ c = inr refl

-- an assignment behind its value
given_here_covered : (x : ℕ) (o : Option (ℕ × ℕ)) (c : Cursor) → Covers c (naming.given_here x o c).1 [] []
given_here_covered x None c = nothing_covered c c refl refl
given_here_covered x (Some w) c = nothing_covered c (naming.set_stage x Stage.Known c).1 refl refl

-- the value of an assignment, behind its place
assigned_covered : (s : Span) (t : Site) (p e : Expression) (c : Cursor) → ExpCovers p → ExpCovers e → (o : Option (ℕ × ℕ)) → OneNode p (a_node s t c).1 o
    → Covers c (naming.assigned (a_node s t c).0 (naming.of_expression false Site.Place p (a_node s t c).1).0 o (λ u. naming.of_expression false u e) (naming.of_expression false Site.Place p (a_node s t c).1).1).1
    (exp_nodes true (naming.assigned (a_node s t c).0 (naming.of_expression false Site.Place p (a_node s t c).1).0 o (λ u. naming.of_expression false u e) (naming.of_expression false Site.Place p (a_node s t c).1).1).0)
    (exp_nodes false (naming.assigned (a_node s t c).0 (naming.of_expression false Site.Place p (a_node s t c).1).0 o (λ u. naming.of_expression false u e) (naming.of_expression false Site.Place p (a_node s t c).1).1).0)
assigned_covered s t p e c a b None x = covers_then (node_covered false s t c) (covers_then (a false Site.Place (a_node s t c).1) (b false Site.Expects _))
assigned_covered s t p e c a b (Some w) (inr none) = absurd (cc)
assigned_covered s t p e c a b (Some w) (inl x) =
    let q = naming.of_expression false Site.Place p (a_node s t c).1 in
    let E = (naming.of_expression false Site.Reborrows e q.1).1 in
    covers_then (node_covered false s t c) (covers_then x (ends_with (b false Site.Reborrows q.1) (given_here_covered w.0 (naming.waiting w.0 (naming.declaration E w.0).stage) E)))

called_covered : (s : Span) (t : Site) (es : Expressions) (c : Cursor) → ((t : Site) (c : Cursor) → Covers c (naming.of_expressions t es c).1 (exps_nodes true (naming.of_expressions t es c).0) (exps_nodes false (naming.of_expressions t es c).0))
    → (k : List ℕ × Bool) → (c1 : Cursor) → Covers (a_node s t c).1 c1 [] []
    → Covers c (naming.called (a_node s t c).0 k (λ u. naming.of_expressions u es) c1).1 (exp_nodes true (naming.called (a_node s t c).0 k (λ u. naming.of_expressions u es) c1).0) (exp_nodes false (naming.called (a_node s t c).0 k (λ u. naming.of_expressions u es) c1).0)
called_covered s t es c each (ns, true) c1 i = covers_then (node_covered false s t c) (covers_then i (each Site.Value c1))
called_covered s t es c each (ns, false) c1 i = covers_then (node_covered false s t c) (covers_then i (each Site.Expects c1))

annotates_covered : (p : PatternTree) (y : Option TypeTree) (c : Cursor) → Covers c (naming.annotates p y c).1 [] []
annotates_covered p None c = nothing_covered c c refl refl
annotates_covered p (Some y) c = nothing_covered c (naming.annotates p (Some y) c).1 refl refl

known_covered : (i j : ℕ) (c : Cursor) → Covers c (naming.known_between i j c).1 [] []
known_covered i j c = nothing_covered c (naming.known_between i j c).1 refl refl

mutual
  exp_covered : (e : Expression) → ExpCovers e
  exp_covered (plain.int s v k) m t c = node_covered false s t c
  exp_covered (plain.bool s b) m t c = node_covered false s t c
  exp_covered (plain.tuple s es) m t c = covers_then (node_covered false s t c) (exps_covered es Site.Value _)
  exp_covered (plain.var s x) m t c = covers_then (node_covered false s t c) (entry_covered _)
  exp_covered (plain.field s e x) m t c = covers_then (node_covered false s t c) (exp_covered e false Site.Place _)
  exp_covered (plain.part s e i) m t c = covers_then (node_covered false s t c) (exp_covered e false Site.Place _)
  exp_covered (plain.deref s e) m t c = covers_then (node_covered false s t c) (exp_covered e false Site.Place _)
  exp_covered (plain.negate s e) m t c = covers_then (node_covered false s t c) (exp_covered e true Site.Value _)
  exp_covered (plain.invert s e) m t c = covers_then (node_covered false s t c) (exp_covered e false Site.Value _)
  exp_covered (plain.borrow s k e) m t c = covers_then (node_covered false s t c) (exp_covered e false Site.Place _)
  exp_covered (plain.binary s o x y) m t c = covers_then (node_covered false s t c) (covers_then (exp_covered x false Site.Value _) (exp_covered y false Site.Value _))
  exp_covered (plain.assign s p e) m t c = assigned_covered s t p e c (λ m t c. exp_covered p m t c) (λ m t c. exp_covered e m t c) _ (one_node p (a_node s t c).1)
  exp_covered (plain.update s o p e) m t c = covers_then (node_covered false s t c) (covers_then (exp_covered p false Site.Place _) (exp_covered e false Site.Value _))
  exp_covered (plain.call s g es) m t c = called_covered s t es c (λ t c. exps_covered es t c) (an_entry (a_node s t c).1).0 (an_entry (a_node s t c).1).1 (entry_covered _)
  exp_covered (plain.next_input s) m t c = covers_then (node_covered false s t c) (entry_covered _)
  exp_covered (plain.variant s x v es) m t c = covers_then (node_covered false s t c) (covers_then (entry_covered _) (arguments_covered es _))
  exp_covered (plain.make s x fs) m t c = covers_then (node_covered false s t c) (covers_then (entry_covered _) (fields_covered fs _))
  exp_covered (plain.print s e) m t c = covers_then (node_covered false s t c) (exp_covered e false Site.Value _)
  exp_covered (plain.block s b) m t c =
      let B = naming.of_body (passed_on t) b (a_node s t c).1 in
      covers_then (node_covered (body_never B.0) s t c) (body_covered b (passed_on t) _)
  exp_covered (plain.if s x b o) m t c =
      let X = naming.of_expression false Site.Value x (a_node s t c).1 in
      let B = naming.of_body (naming.branch_site t o) b X.1 in
      let O = naming.of_optional (passed_on t) o B.1 in
      covers_then (node_covered (body_never B.0 && else_never O.0) s t c) (covers_then (exp_covered x false Site.Value _) (covers_then (body_covered b (naming.branch_site t o) X.1) (optional_covered o (passed_on t) B.1)))
  exp_covered (plain.if_let s p e b o) m t c =
      let n = a_node s t c in
      let P = of_pattern p n.1 in
      let X = naming.of_expression false Site.Scrutinee e P.1 in
      let k = naming.known_between n.1.declared P.1.declared X.1 in
      let B = naming.of_body (naming.branch_site t o) b k.1 in
      let O = naming.of_optional (passed_on t) o B.1 in
      covers_then (node_covered (body_never B.0 && else_never O.0) s t c) (covers_then (pattern_covered p n.1) (covers_then (exp_covered e false Site.Scrutinee P.1)
      (covers_then (known_covered n.1.declared P.1.declared X.1) (covers_then (body_covered b (naming.branch_site t o) k.1) (optional_covered o (passed_on t) B.1)))))
  exp_covered (plain.match s e l) m t c =
      let X = naming.of_expression false Site.Scrutinee e (a_node s t c).1 in
      let L = naming.of_arms (passed_on t) l X.1 in
      covers_then (node_covered (all_never L.0) s t c) (covers_then (exp_covered e false Site.Scrutinee _) (arms_covered l (passed_on t) X.1))
  exp_covered (plain.loop s l b) m t c =
      let c1 = naming.a_loop (a_node s t c).1 in
      let B = naming.of_body Site.Value b c1.1 in
      covers_then (node_covered (not (get_or B.1.loops c1.0 false)) s t c) (covers_then (nothing_covered _ c1.1 refl refl) (body_covered b Site.Value c1.1))
  exp_covered (plain.while s l x b) m t c =
      let c1 = naming.a_loop (a_node s t c).1 in
      covers_then (node_covered false s t c) (covers_then (nothing_covered _ c1.1 refl refl) (covers_then (exp_covered x false Site.Value c1.1) (body_covered b Site.Value _)))
  exp_covered (plain.while_let s l p e b) m t c =
      let c1 = (naming.a_loop (a_node s t c).1).1 in
      let P = of_pattern p c1 in
      let X = naming.of_expression false Site.Scrutinee e P.1 in
      let k = naming.known_between c1.declared P.1.declared X.1 in
      covers_then (node_covered false s t c) (covers_then (nothing_covered _ c1 refl refl) (covers_then (pattern_covered p c1) (covers_then (exp_covered e false Site.Scrutinee P.1)
      (covers_then (known_covered c1.declared P.1.declared X.1) (body_covered b Site.Value k.1)))))
  exp_covered (plain.break s l) m t c =
      let k = an_entry (a_node s t c).1 in
      covers_then (node_covered true s t c) (covers_then (entry_covered _) (nothing_covered k.1 (naming.leads (naming.first k.0.0) k.1).1 refl refl))
  exp_covered (plain.continue s l) m t c = covers_then (node_covered true s t c) (entry_covered _)
  exp_covered (plain.return s o) m t c = covers_then (node_covered true s t c) (optional_covered o Site.Expects _)

  exps_covered : (es : Expressions) (t : Site) (c : Cursor) → Covers c (naming.of_expressions t es c).1 (exps_nodes true (naming.of_expressions t es c).0) (exps_nodes false (naming.of_expressions t es c).0)
  exps_covered plain.no_expression t c = nothing_covered c c refl refl
  exps_covered (plain.expression_and e es) t c = covers_then (exp_covered e false t c) (exps_covered es t _)

  optional_covered : (o : OptionalExpression) (t : Site) (c : Cursor) → Covers c (naming.of_optional t o c).1 (else_nodes true (naming.of_optional t o c).0) (else_nodes false (naming.of_optional t o c).0)
  optional_covered plain.absent t c = nothing_covered c c refl refl
  optional_covered (plain.present e) t c = exp_covered e false t c

  arguments_covered : (es : OptionalExpressions) (c : Cursor) → Covers c (naming.of_arguments es c).1 (exps_nodes true (naming.of_arguments es c).0) (exps_nodes false (naming.of_arguments es c).0)
  arguments_covered plain.no_list c = nothing_covered c c refl refl
  arguments_covered (plain.a_list es) c = exps_covered es Site.Expects c

  fields_covered : (fs : FieldExpressions) (c : Cursor) → Covers c (naming.of_fields fs c).1 (fields_nodes true (naming.of_fields fs c).0) (fields_nodes false (naming.of_fields fs c).0)
  fields_covered plain.no_field c = nothing_covered c c refl refl
  fields_covered (plain.field_and x e fs) c = covers_then (exp_covered e false Site.Expects c) (fields_covered fs _)

  arms_covered : (l : plain.Arms) (t : Site) (c : Cursor) → Covers c (naming.of_arms t l c).1 (arms_nodes true (naming.of_arms t l c).0) (arms_nodes false (naming.of_arms t l c).0)
  arms_covered plain.no_arm t c = nothing_covered c c refl refl
  arms_covered (plain.arm_and p e l) t c =
      let P = of_pattern p c in
      let k = naming.known_between c.declared P.1.declared P.1 in
      covers_then (pattern_covered p c) (covers_then (known_covered c.declared P.1.declared P.1) (covers_then (exp_covered e false t k.1) (arms_covered l t _)))

  body_covered : (b : plain.Body) (t : Site) (c : Cursor) → Covers c (naming.of_body t b c).1 (body_nodes true (naming.of_body t b c).0) (body_nodes false (naming.of_body t b c).0)
  body_covered (plain.body s ss o) t c =
      let S = naming.of_statements ss (a_node s t c).1 in
      let O = naming.of_optional t o S.1 in
      covers_then (node_covered (tail_never (some_diverges S.0) O.0) s t c) (covers_then (statements_covered ss _) (optional_covered o t S.1))

  statements_covered : (ss : Statements) (c : Cursor) → Covers c (naming.of_statements ss c).1 (statements_nodes true (naming.of_statements ss c).0) (statements_nodes false (naming.of_statements ss c).0)
  statements_covered plain.no_statement c = nothing_covered c c refl refl
  statements_covered (plain.statement_and x ss) c = covers_then (statement_covered x c) (statements_covered ss _)

  statement_covered : (x : Statement) (c : Cursor) → Covers c (naming.of_statement x c).1 (statement_nodes true (naming.of_statement x c).0) (statement_nodes false (naming.of_statement x c).0)
  statement_covered (plain.let_statement s p y plain.absent) c =
      let n = a_node s Site.Value c in
      let n1 = (naming.annotates p y n.1).1 in
      let P = of_pattern p n1 in
      let Y = naming.of_optional_type y P.1 in
      let k = naming.known_between n1.declared P.1.declared Y.1 in
      covers_then (node_covered true s Site.Value c) (covers_then (annotates_covered p y n.1) (covers_then (pattern_covered p n1)
      (ends_with (optional_type_covered y P.1) (covers_then (known_covered n1.declared P.1.declared Y.1) (waits_covered _ P.0 k.1)))))
  statement_covered (plain.let_statement s p y (plain.present e)) c =
      let n = a_node s Site.Value c in
      let n1 = (naming.annotates p y n.1).1 in
      let P = of_pattern p n1 in
      let Y = naming.of_optional_type y P.1 in
      let X = naming.of_expression false (naming.initialiser_site Y.0) e Y.1 in
      let k = naming.known_between n1.declared P.1.declared X.1 in
      covers_then (node_covered true s Site.Value c) (covers_then (annotates_covered p y n.1) (covers_then (pattern_covered p n1)
      (covers_then (optional_type_covered y P.1) (ends_with (exp_covered e false (naming.initialiser_site Y.0) Y.1) (covers_then (known_covered n1.declared P.1.declared X.1) (waits_covered _ P.0 k.1))))))
  statement_covered (plain.expression_statement s e b) c = covers_then (node_covered true s Site.Value c) (exp_covered e false Site.Value _)

-- ---- a function

parameters_covered : (xs : List Parameter) (c : Cursor) → Covers c (naming.of_parameters xs c).1 (parameters_nodes (naming.of_parameters xs c).0) []
parameters_covered [] c = nothing_covered c c refl refl
parameters_covered (x ∷ xs) c =
    let c1 = (naming.declare (record { mutable = x.mutable; stage = Stage.Known }) c).1 in
    covers_then (nothing_covered c c1 refl refl) (covers_then (type_covered x.typ c1) (parameters_covered xs _))

entry_if_covered : (b : Bool) (c : Cursor) → Covers c (naming.entry_if b c).1 [] []
entry_if_covered true c = entry_covered c
entry_if_covered false c = nothing_covered c c refl refl

pub all_numbered : (i : ℕ) (s : Span) (f : Function) (ns : List NodeNames) (n : ℕ) → n < length (function_spans s f ns) → IsIn n (all_nodes true (function_named i s f ns)) ⊎ IsIn n (all_nodes false (function_named i s f ns))
all_numbered i s f ns n h =
    let c0 = naming.begins ns in
    let c1 = a_node s Site.Value c0 in
    let c2 = (naming.entry_if (naming.has_entry f) c1.1).1 in
    let P = naming.of_parameters f.params c2 in
    let T = naming.of_optional_type f.result P.1 in
    let w = covers_then (node_covered true s Site.Value c0) (covers_then (entry_if_covered (naming.has_entry f) c1.1) (covers_then (parameters_covered f.params c2)
    (covers_then (optional_type_covered f.result P.1) (body_covered f.body Site.Expects T.1)))) in
    let e = w.spans refl in
    w.all n (omega arith) (omega (arith, h, e))
