-- Walks that number expressions, blocks and statements, and a function: by induction over the tree.
use Rattle.std.proofs.Common.{◌≡◌, ℕ, zero, ◌+◌, Bool, true, false, List, [], ◌∷◌, ◌++◌, length, map, Option, Some, None, refl, subst, ◌⊎◌, inl, inr, arith}
use Rattle.rx_core.specs.declared.types.Span.{Span}
use Rattle.rx_tree.specs.declared.tree.Ident.{Ident}
use Rattle.rx_tree.specs.Plain as plain
use Rattle.rx_tree.specs.Plain.{TypeTree, Expression, Expressions, OptionalExpression, OptionalExpressions, FieldExpressions, Statement, Statements, Parameter, Function}
use Rattle.rx_tree.specs.Positions.{NodeTree, an_item, a_block, a_statement, an_expression, expression_nodes, optional_nodes, argument_nodes, field_nodes, arm_nodes, statement_nodes, parameter_nodes, descend}
use Rattle.rx_tree.specs.Spans.{node_span}
use Rattle.rx_resolve_names.specs.declared.resolved.NodeNames.{NodeNames}
use Rattle.rx_typed.specs.declared.nodes.Declaration.{Declaration}
use Rattle.rx_typed.specs.declared.nodes.Site.{Site}
use Rattle.rx_typed.specs.declared.nodes.Stage.{Stage}
use Rattle.rx_typed.specs.declared.nodes.Use.{Use}
use Rattle.rx_typed.specs.Named as named
use Rattle.rx_typed.specs.Named.{Exp, node_of, root, never}
use Rattle.rx_typed.specs.Naming as naming
use Rattle.rx_typed.specs.Naming.{Cursor, a_node, an_entry, passed_on, of_pattern, function_named, function_spans}
use Rattle.rx_hoist_nodes.specs.Nodes.{within, in_front}
use Rattle.rx_hoist_numbers.specs.NumberedNodes as numbered
use Rattle.rx_hoist_numbers.specs.NumberedNodes.{NumberedNode, the_item, the_block, the_statement, the_expression}
use Rattle.rx_hoist_numbers.specs.Counting.{AreNode}
use Rattle.rx_hoist_numbers.proofs.Rows.{Stays, Counted, CountedAll, stays, stays_then, from, upto, no_child, child_and, one_child, node_with}
use Rattle.rx_hoist_numbers.proofs.Parts.{entry_stays, annotates_stays, known_stays, waits_stays, given_stays, entry_if_stays, declares_stays, loop_stays, leads_stays, type_counted, type_row, type_last, pattern_counted}

-- what is shown of an expression
abbrev ExpCounted : Expression → Type 0
ExpCounted e = (m : Bool) (t : Site) (c : Cursor) → Counted (an_expression e) (the_expression (naming.of_expression m t e c).0) c (naming.of_expression m t e c).1

-- ---- the variable of an assignment before which it waits for its type

-- a place that is one node, or no variable that waits
OneNode : Expression → Cursor → Option (ℕ × ℕ) → Type 0
OneNode p c o = ((u : Use) → Counted (an_expression p) (the_expression (named.var (node_of (naming.of_expression false Site.Place p c).0) u)) c (naming.of_expression false Site.Place p c).1) ⊎ (o ≡ None)

one_node : (p : Expression) (c : Cursor) → OneNode p c (naming.waits_in p (root (naming.of_expression false Site.Place p c).0).number (naming.of_expression false Site.Place p c).1)
unfolding OneNode
one_node (plain.var s x) c = inl (λ u. node_with {c1 = (a_node s Site.Place c).1} (refl, refl) refl refl (no_child (entry_stays (a_node s Site.Place c).1)))
one_node _ c = inr refl

assigned_counted : (s : Span) (t : Site) (p e : Expression) (c : Cursor) → ExpCounted p → ExpCounted e → (o : Option (ℕ × ℕ)) → OneNode p (a_node s t c).1 o
    → Counted (an_expression (plain.assign s p e))
    (the_expression (naming.assigned (a_node s t c).0 (naming.of_expression false Site.Place p (a_node s t c).1).0 o (λ u. naming.of_expression false u e) (naming.of_expression false Site.Place p (a_node s t c).1).1).0) c
    (naming.assigned (a_node s t c).0 (naming.of_expression false Site.Place p (a_node s t c).1).0 o (λ u. naming.of_expression false u e) (naming.of_expression false Site.Place p (a_node s t c).1).1).1
unfolding OneNode
assigned_counted s t p e c place each None x =
    let n = a_node s t c in
    let P = naming.of_expression false Site.Place p n.1 in
    node_with {c1 = n.1} (refl, refl) refl refl (child_and (place false Site.Place n.1) (one_child (each false Site.Expects P.1)))
assigned_counted s t p e c place each (Some w) (inr none) = absurd (cc)
assigned_counted s t p e c place each (Some w) (inl x) =
    let n = a_node s t c in
    let P = naming.of_expression false Site.Place p n.1 in
    let E = naming.of_expression false Site.Reborrows e P.1 in
    node_with {c1 = n.1} (refl, refl) refl refl (child_and (x (naming.use_of w.0 (naming.declaration E.1 w.0)))
    (upto (given_stays w.0 (naming.waiting w.0 (naming.declaration E.1 w.0).stage) E.1) (one_child (each false Site.Reborrows P.1))))

called_counted : (s : Span) (g : Ident) (t : Site) (es : Expressions) (c : Cursor)
    → ((t : Site) (c : Cursor) → CountedAll (expression_nodes es) (numbered.expression_nodes (naming.of_expressions t es c).0) c (naming.of_expressions t es c).1)
    → (k : List ℕ × Bool) (c1 : Cursor) → Stays (a_node s t c).1 c1
    → Counted (an_expression (plain.call s g es)) (the_expression (naming.called (a_node s t c).0 k (λ u. naming.of_expressions u es) c1).0) c (naming.called (a_node s t c).0 k (λ u. naming.of_expressions u es) c1).1
called_counted s g t es c each (ns, true) c1 e = node_with {c1 = (a_node s t c).1} (refl, refl) refl refl (from e (each Site.Value c1))
called_counted s g t es c each (ns, false) c1 e = node_with {c1 = (a_node s t c).1} (refl, refl) refl refl (from e (each Site.Expects c1))

-- ---- all forms

mutual
  exp_counted : (e : Expression) → ExpCounted e
  exp_counted (plain.int s v k) m t c = node_with {c1 = (a_node s t c).1} (refl, refl) refl refl (no_child (stays (a_node s t c).1))
  exp_counted (plain.bool s b) m t c = node_with {c1 = (a_node s t c).1} (refl, refl) refl refl (no_child (stays (a_node s t c).1))
  exp_counted (plain.tuple s es) m t c = node_with {c1 = (a_node s t c).1} (refl, refl) refl refl (exps_counted es Site.Value (a_node s t c).1)
  exp_counted (plain.var s x) m t c = node_with {c1 = (a_node s t c).1} (refl, refl) refl refl (no_child (entry_stays (a_node s t c).1))
  exp_counted (plain.field s e x) m t c = node_with {c1 = (a_node s t c).1} (refl, refl) refl refl (one_child (exp_counted e false Site.Place (a_node s t c).1))
  exp_counted (plain.part s e i) m t c = node_with {c1 = (a_node s t c).1} (refl, refl) refl refl (one_child (exp_counted e false Site.Place (a_node s t c).1))
  exp_counted (plain.deref s e) m t c = node_with {c1 = (a_node s t c).1} (refl, refl) refl refl (one_child (exp_counted e false Site.Place (a_node s t c).1))
  exp_counted (plain.negate s e) m t c = node_with {c1 = (a_node s t c).1} (refl, refl) refl refl (one_child (exp_counted e true Site.Value (a_node s t c).1))
  exp_counted (plain.invert s e) m t c = node_with {c1 = (a_node s t c).1} (refl, refl) refl refl (one_child (exp_counted e false Site.Value (a_node s t c).1))
  exp_counted (plain.borrow s w e) m t c = node_with {c1 = (a_node s t c).1} (refl, refl) refl refl (one_child (exp_counted e false Site.Place (a_node s t c).1))
  exp_counted (plain.binary s o x y) m t c =
      let n = a_node s t c in
      let X = naming.of_expression false Site.Value x n.1 in
      node_with {c1 = n.1} (refl, refl) refl refl (child_and (exp_counted x false Site.Value n.1) (one_child (exp_counted y false Site.Value X.1)))
  exp_counted (plain.assign s p e) m t c = assigned_counted s t p e c (λ m t c. exp_counted p m t c) (λ m t c. exp_counted e m t c) _ (one_node p (a_node s t c).1)
  exp_counted (plain.update s o p e) m t c =
      let n = a_node s t c in
      let P = naming.of_expression false Site.Place p n.1 in
      node_with {c1 = n.1} (refl, refl) refl refl (child_and (exp_counted p false Site.Place n.1) (one_child (exp_counted e false Site.Value P.1)))
  exp_counted (plain.call s g es) m t c =
      let c1 = (a_node s t c).1 in
      called_counted s g t es c (λ t c. exps_counted es t c) (an_entry c1).0 (an_entry c1).1 (entry_stays c1)
  exp_counted (plain.next_input s) m t c = node_with {c1 = (a_node s t c).1} (refl, refl) refl refl (no_child (entry_stays (a_node s t c).1))
  exp_counted (plain.variant s x v es) m t c =
      let c1 = (a_node s t c).1 in
      node_with {c1 = c1} (refl, refl) refl refl (from (entry_stays c1) (arguments_counted es (an_entry c1).1))
  exp_counted (plain.make s x fs) m t c =
      let c1 = (a_node s t c).1 in
      node_with {c1 = c1} (refl, refl) refl refl (from (entry_stays c1) (fields_counted fs (an_entry c1).1))
  exp_counted (plain.print s e) m t c = node_with {c1 = (a_node s t c).1} (refl, refl) refl refl (one_child (exp_counted e false Site.Value (a_node s t c).1))
  exp_counted (plain.block s b) m t c = node_with {c1 = (a_node s t c).1} (refl, refl) refl refl (one_child (body_counted b (passed_on t) (a_node s t c).1))
  exp_counted (plain.if s x b o) m t c =
      let n = a_node s t c in
      let X = naming.of_expression false Site.Value x n.1 in
      let B = naming.of_body (naming.branch_site t o) b X.1 in
      node_with {c1 = n.1} (refl, refl) refl refl (child_and (exp_counted x false Site.Value n.1)
      (child_and (body_counted b (naming.branch_site t o) X.1) (optional_counted o (passed_on t) B.1)))
  exp_counted (plain.if_let s p e b o) m t c =
      let n = a_node s t c in
      let P = of_pattern p n.1 in
      let E = naming.of_expression false Site.Scrutinee e P.1 in
      let k = naming.known_between n.1.declared P.1.declared E.1 in
      let B = naming.of_body (naming.branch_site t o) b k.1 in
      node_with {c1 = n.1} (refl, refl) refl refl (child_and (pattern_counted p n.1) (child_and (exp_counted e false Site.Scrutinee P.1)
      (from (known_stays n.1.declared P.1.declared E.1) (child_and (body_counted b (naming.branch_site t o) k.1) (optional_counted o (passed_on t) B.1)))))
  exp_counted (plain.match s e l) m t c =
      let n = a_node s t c in
      let E = naming.of_expression false Site.Scrutinee e n.1 in
      node_with {c1 = n.1} (refl, refl) refl refl (child_and (exp_counted e false Site.Scrutinee n.1) (arms_counted l (passed_on t) E.1))
  exp_counted (plain.loop s l b) m t c =
      let c1 = (a_node s t c).1 in
      node_with {c1 = c1} (refl, refl) refl refl (from (loop_stays c1) (one_child (body_counted b Site.Value (naming.a_loop c1).1)))
  exp_counted (plain.while s l x b) m t c =
      let c1 = (a_node s t c).1 in
      let c2 = (naming.a_loop c1).1 in
      let X = naming.of_expression false Site.Value x c2 in
      node_with {c1 = c1} (refl, refl) refl refl (from (loop_stays c1) (child_and (exp_counted x false Site.Value c2) (one_child (body_counted b Site.Value X.1))))
  exp_counted (plain.while_let s l p e b) m t c =
      let c1 = (a_node s t c).1 in
      let c2 = (naming.a_loop c1).1 in
      let P = of_pattern p c2 in
      let E = naming.of_expression false Site.Scrutinee e P.1 in
      let k = naming.known_between c2.declared P.1.declared E.1 in
      node_with {c1 = c1} (refl, refl) refl refl (from (loop_stays c1) (child_and (pattern_counted p c2) (child_and (exp_counted e false Site.Scrutinee P.1)
      (from (known_stays c2.declared P.1.declared E.1) (one_child (body_counted b Site.Value k.1))))))
  exp_counted (plain.break s l) m t c =
      let c1 = (a_node s t c).1 in
      let N = an_entry c1 in
      node_with {c1 = c1} (refl, refl) refl refl (no_child (stays_then (entry_stays c1) (leads_stays (naming.first N.0.0) N.1)))
  exp_counted (plain.continue s l) m t c = node_with {c1 = (a_node s t c).1} (refl, refl) refl refl (no_child (entry_stays (a_node s t c).1))
  exp_counted (plain.return s o) m t c = node_with {c1 = (a_node s t c).1} (refl, refl) refl refl (optional_counted o Site.Expects (a_node s t c).1)

  exps_counted : (es : Expressions) (t : Site) (c : Cursor) → CountedAll (expression_nodes es) (numbered.expression_nodes (naming.of_expressions t es c).0) c (naming.of_expressions t es c).1
  exps_counted plain.no_expression t c = no_child (stays c)
  exps_counted (plain.expression_and e es) t c = child_and (exp_counted e false t c) (exps_counted es t (naming.of_expression false t e c).1)

  optional_counted : (o : OptionalExpression) (t : Site) (c : Cursor) → CountedAll (optional_nodes o) (numbered.else_nodes (naming.of_optional t o c).0) c (naming.of_optional t o c).1
  optional_counted plain.absent t c = no_child (stays c)
  optional_counted (plain.present e) t c = one_child (exp_counted e false t c)

  arguments_counted : (es : OptionalExpressions) (c : Cursor) → CountedAll (argument_nodes es) (numbered.expression_nodes (naming.of_arguments es c).0) c (naming.of_arguments es c).1
  arguments_counted plain.no_list c = no_child (stays c)
  arguments_counted (plain.a_list es) c = exps_counted es Site.Expects c

  fields_counted : (fs : FieldExpressions) (c : Cursor) → CountedAll (field_nodes fs) (numbered.field_nodes (naming.of_fields fs c).0) c (naming.of_fields fs c).1
  fields_counted plain.no_field c = no_child (stays c)
  fields_counted (plain.field_and x e fs) c = child_and (exp_counted e false Site.Expects c) (fields_counted fs (naming.of_expression false Site.Expects e c).1)

  arms_counted : (l : plain.Arms) (t : Site) (c : Cursor) → CountedAll (arm_nodes l) (numbered.arm_nodes (naming.of_arms t l c).0) c (naming.of_arms t l c).1
  arms_counted plain.no_arm t c = no_child (stays c)
  arms_counted (plain.arm_and p e l) t c =
      let P = of_pattern p c in
      let k = naming.known_between c.declared P.1.declared P.1 in
      child_and (pattern_counted p c) (from (known_stays c.declared P.1.declared P.1) (child_and (exp_counted e false t k.1) (arms_counted l t (naming.of_expression false t e k.1).1)))

  body_counted : (b : plain.Body) (t : Site) (c : Cursor) → Counted (a_block b) (the_block (naming.of_body t b c).0) c (naming.of_body t b c).1
  body_counted (plain.body s ss o) t c =
      let n = a_node s t c in
      let X = naming.of_statements ss n.1 in
      let O = naming.of_optional t o X.1 in
      node_with {c1 = n.1} (refl, refl) refl refl (statements_counted ss n.1 O.1 (optional_nodes o) (numbered.else_nodes O.0) (optional_counted o t X.1))

  -- in front of a block's tail
  statements_counted : (ss : Statements) (c c' : Cursor) (ns : List NodeTree) (ms : List NumberedNode) → CountedAll ns ms (naming.of_statements ss c).1 c'
      → CountedAll (statement_nodes ss ++ ns) (numbered.statement_nodes (naming.of_statements ss c).0 ++ ms) c c'
  statements_counted plain.no_statement c c' ns ms w = w
  statements_counted (plain.statement_and x ss) c c' ns ms w = child_and (statement_counted x c) (statements_counted ss (naming.of_statement x c).1 c' ns ms w)

  statement_counted : (x : Statement) (c : Cursor) → Counted (a_statement x) (the_statement (naming.of_statement x c).0) c (naming.of_statement x c).1
  statement_counted (plain.let_statement s p y plain.absent) c =
      let n = a_node s Site.Value c in
      let n1 = (naming.annotates p y n.1).1 in
      let P = of_pattern p n1 in
      let Y = naming.of_optional_type y P.1 in
      let k = naming.known_between n1.declared P.1.declared Y.1 in
      node_with {c1 = n.1} (refl, refl) refl refl (from (annotates_stays p y n.1) (child_and (pattern_counted p n1)
      (type_last y P.1 _ (stays_then (known_stays n1.declared P.1.declared Y.1) (waits_stays (naming.has_no_type Y.0) P.0 k.1)))))
  statement_counted (plain.let_statement s p y (plain.present e)) c =
      let n = a_node s Site.Value c in
      let n1 = (naming.annotates p y n.1).1 in
      let P = of_pattern p n1 in
      let Y = naming.of_optional_type y P.1 in
      let E = naming.of_expression false (naming.initialiser_site Y.0) e Y.1 in
      let k = naming.known_between n1.declared P.1.declared E.1 in
      node_with {c1 = n.1} (refl, refl) refl refl (from (annotates_stays p y n.1) (child_and (pattern_counted p n1)
      (type_row y P.1 _ (an_expression e ∷ []) (the_expression E.0 ∷ []) (upto (stays_then (known_stays n1.declared P.1.declared E.1) (waits_stays _ P.0 k.1))
      (one_child (exp_counted e false (naming.initialiser_site Y.0) Y.1))))))
  statement_counted (plain.expression_statement s e b) c = node_with {c1 = (a_node s Site.Value c).1} (refl, refl) refl refl (one_child (exp_counted e false Site.Value (a_node s Site.Value c).1))

-- ---- a function

parameter_row : (xs : List Parameter) (c c' : Cursor) (ns : List NodeTree) (ms : List NumberedNode) → CountedAll ns ms (naming.of_parameters xs c).1 c'
    → CountedAll (parameter_nodes xs ++ ns) (numbered.parameter_nodes (naming.of_parameters xs c).0 ++ ms) c c'
parameter_row [] c c' ns ms w = w
parameter_row (x ∷ xs) c c' ns ms w =
    let d : Declaration = record { mutable = x.mutable; stage = Stage.Known } in
    let c1 = (naming.declare d c).1 in
    from (declares_stays d c) (child_and (type_counted x.typ c1) (parameter_row xs (naming.of_type x.typ c1).1 c' ns ms w))

function_counted : (i : ℕ) (s : Span) (f : Function) (ns : List NodeNames)
    → Counted (an_item (plain.function_item s f)) (the_item (function_named i s f ns)) (naming.begins ns) (naming.of_function i s f (naming.begins ns)).1
function_counted i s f ns =
    let c0 = naming.begins ns in
    let c1 = (a_node s Site.Value c0).1 in
    let c2 = (naming.entry_if (naming.has_entry f) c1).1 in
    let P = naming.of_parameters f.params c2 in
    let R = naming.of_optional_type f.result P.1 in
    let B = naming.of_body Site.Expects f.body R.1 in
    node_with {c1 = c1} refl refl refl (from (entry_if_stays (naming.has_entry f) c1)
    (parameter_row f.params c2 B.1 _ _ (type_row f.result P.1 B.1 (a_block f.body ∷ []) (the_block B.0 ∷ []) (one_child (body_counted f.body Site.Expects R.1)))))

pub numbers_are : (i : ℕ) (s : Span) (f : Function) (ns : List NodeNames) (way : List ℕ)
    → AreNode (descend (Some (an_item (plain.function_item s f))) way) (numbered.descend (Some (the_item (function_named i s f ns))) way) (length (in_front (Some (an_item (plain.function_item s f))) way))
numbers_are i s f ns way =
    let h = (function_counted i s f ns).each way in
    let e : 0 + length (in_front (Some (an_item (plain.function_item s f))) way) ≡ length (in_front (Some (an_item (plain.function_item s f))) way) = omega arith in
    subst (λ (k : ℕ). AreNode (descend (Some (an_item (plain.function_item s f))) way) (numbered.descend (Some (the_item (function_named i s f ns))) way) k) e h

pub spans_are : (s : Span) (f : Function) (ns : List NodeNames) → function_spans s f ns ≡ map node_span (within (an_item (plain.function_item s f)))
spans_are s f ns = (function_counted zero s f ns).spans
