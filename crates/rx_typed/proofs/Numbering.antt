-- Each walk that numbers a tree gives the numbers from its cursor's on, in the order of the text: by induction over the tree.
use Rattle.std.proofs.Common.{◌≡◌, ℕ, zero, suc, ◌+◌, Bool, true, false, List, [], ◌∷◌, ◌++◌, length, Option, Some, None, refl, sym, ap, subst, ◌∙◌, ◌⊎◌, inl, inr, arith}
use Rattle.rx_core.specs.declared.types.Span.{Span}
use Rattle.rx_tree.specs.declared.tree.Ident.{Ident}
use Rattle.rx_tree.specs.Plain as plain
use Rattle.rx_tree.specs.Plain.{TypeTree, TypeTrees, PatternTree, PatternTrees, FieldPatterns, Expression, Expressions, OptionalExpression, OptionalExpressions, FieldExpressions, Statement, Statements, Parameter, Function}
use Rattle.rx_resolve_names.specs.declared.resolved.NodeNames.{NodeNames}
use Rattle.rx_typed.specs.declared.nodes.Site.{Site}
use Rattle.rx_typed.specs.declared.nodes.Stage.{Stage}
use Rattle.rx_typed.specs.declared.nodes.Declaration.{Declaration}
use Rattle.rx_typed.specs.Named.{Pattern, node_of, root, whole_binding, pattern_node}
use Rattle.rx_typed.specs.Naming as naming
use Rattle.rx_typed.specs.Naming.{Cursor, a_node, an_entry, taken, passed_on, of_type, of_types, of_pattern, of_patterns, of_field_patterns, function_named, function_spans}
use Rattle.rx_typed.specs.Elaborated.{variables, variables_in, variables_in_fields}
use Rattle.rx_typed.specs.TypedNumbers.{AreFrom, type_nodes, types_nodes, optional_nodes, pattern_nodes, patterns_nodes, field_patterns_nodes, exp_nodes, exps_nodes, else_nodes, fields_nodes, arms_nodes, body_nodes, statement_nodes, statements_nodes, parameters_nodes, nodes, exp_variables, exps_variables, else_variables, fields_variables, arms_variables, body_variables, statement_variables, statements_variables, parameters_variables, declared}

-- ---- numbers in order

are_then : (i j k : ℕ) (ns ms : List ℕ) → AreFrom i ns j → AreFrom j ms k → AreFrom i (ns ++ ms) k
are_then i j k [] ms e b = subst (λ i. AreFrom i ms k) (sym e) b
are_then i j k (n ∷ ns) ms a b = (a.0, are_then (suc i) j k ns ms a.1 b)

are_and : (i j k : ℕ) (ns : List ℕ) → AreFrom i ns j → j ≡ k → AreFrom i ns k
are_and i j k ns a e = subst (λ j. AreFrom i ns j) e a

-- ---- walks

-- the nodes that were numbered, and the variables that were declared
record Runs (c c' : Cursor) (ns vs : List ℕ) : Type 0 where
  nodes : AreFrom c.number ns c'.number
  variables : AreFrom c.declared vs c'.declared
  spans : c.number ≡ length c.spans → c'.number ≡ length c'.spans

runs_then : {c c1 c2 : Cursor} {ns vs ms ws : List ℕ} → Runs c c1 ns vs → Runs c1 c2 ms ws → Runs c c2 (ns ++ ms) (vs ++ ws)
runs_then {c} {c1} {c2} {ns} {vs} {ms} {ws} a b = record {
  nodes = are_then c.number c1.number c2.number ns ms a.nodes b.nodes;
  variables = are_then c.declared c1.declared c2.declared vs ws a.variables b.variables;
  spans = λ e. b.spans (a.spans e);
}

-- no variable is declared behind
runs_end : {c c1 c2 : Cursor} {ns vs ms : List ℕ} → Runs c c1 ns vs → Runs c1 c2 ms [] → Runs c c2 (ns ++ ms) vs
runs_end {c} {c1} {c2} {ns} {vs} {ms} a b = record {
  nodes = are_then c.number c1.number c2.number ns ms a.nodes b.nodes;
  variables = are_and c.declared c1.declared c2.declared vs a.variables b.variables;
  spans = λ e. b.spans (a.spans e);
}

-- nor a node
ends_with : {c c1 c2 : Cursor} {ns vs : List ℕ} → Runs c c1 ns vs → Runs c1 c2 [] [] → Runs c c2 ns vs
ends_with {c} {c1} {c2} {ns} {vs} a b = record {
  nodes = are_and c.number c1.number c2.number ns a.nodes b.nodes;
  variables = are_and c.declared c1.declared c2.declared vs a.variables b.variables;
  spans = λ e. b.spans (a.spans e);
}

nothing_runs : (c c' : Cursor) → c'.number ≡ c.number → c'.spans ≡ c.spans → c'.declared ≡ c.declared → Runs c c' [] []
nothing_runs c c' e s d = record { nodes = sym e; variables = sym d; spans = λ h. e ∙ h ∙ ap (λ (l : List Span). length l) (sym s) }

longer_by : (ss : List Span) (s : Span) → length (ss ++ s ∷ []) ≡ suc (length ss)
longer_by [] s = refl
longer_by (x ∷ ss) s = ap suc (longer_by ss s)

node_runs : (s : Span) (t : Site) (c : Cursor) → Runs c (a_node s t c).1 (c.number ∷ []) []
node_runs s t c = record { nodes = (refl, refl); variables = refl; spans = λ h. ap suc h ∙ sym (longer_by c.spans s) }

declare_runs : (d : Declaration) (c : Cursor) → Runs c (naming.declare d c).1 [] (c.declared ∷ [])
declare_runs d c = record { nodes = refl; variables = (refl, refl); spans = λ h. h }

taken_runs : (ns : List NodeNames) (c : Cursor) → Runs c (taken ns c).1 [] []
taken_runs [] c = nothing_runs c c refl refl refl
taken_runs (n ∷ ns) c = nothing_runs c (record c { names = ns }) refl refl refl

entry_runs : (c : Cursor) → Runs c (an_entry c).1 [] []
entry_runs c = taken_runs c.names c

-- ---- types and patterns

lifetime_runs : (l : Option Ident) (c : Cursor) → Runs c (naming.lifetime_entry l c).1 [] []
lifetime_runs None c = nothing_runs c c refl refl refl
lifetime_runs (Some l) c = entry_runs c

mutual
  type_runs : (y : TypeTree) (c : Cursor) → Runs c (of_type y c).1 (type_nodes (of_type y c).0) []
  type_runs (plain.kind_type s k) c = node_runs s Site.Value c
  type_runs (plain.bool_type s) c = node_runs s Site.Value c
  type_runs (plain.tuple_type s ts) c = runs_then (node_runs s Site.Value c) (types_runs ts _)
  type_runs (plain.ref_type s l m y) c = runs_then (node_runs s Site.Value c) (runs_then (lifetime_runs l _) (type_runs y _))
  type_runs (plain.named_type s x ls) c = runs_then (node_runs s Site.Value c) (entry_runs _)

  types_runs : (ys : TypeTrees) (c : Cursor) → Runs c (of_types ys c).1 (types_nodes (of_types ys c).0) []
  types_runs plain.no_type c = nothing_runs c c refl refl refl
  types_runs (plain.type_and y ys) c = runs_then (type_runs y c) (types_runs ys _)

optional_type_runs : (y : Option TypeTree) (c : Cursor) → Runs c (naming.of_optional_type y c).1 (optional_nodes (naming.of_optional_type y c).0) []
optional_type_runs None c = nothing_runs c c refl refl refl
optional_type_runs (Some y) c = type_runs y c

mutual
  pattern_runs : (p : PatternTree) (c : Cursor) → Runs c (of_pattern p c).1 (pattern_nodes (of_pattern p c).0) (variables (of_pattern p c).0)
  pattern_runs (plain.wild s) c = node_runs s Site.Value c
  pattern_runs (plain.bind s x m) c = runs_then (node_runs s Site.Value c) (runs_then (entry_runs _) (declare_runs _ _))
  pattern_runs (plain.int_pattern s g v k) c = node_runs s Site.Value c
  pattern_runs (plain.bool_pattern s b) c = node_runs s Site.Value c
  pattern_runs (plain.tuple_pattern s ps) c = runs_then (node_runs s Site.Value c) (patterns_runs ps _)
  pattern_runs (plain.variant_pattern s a v ps) c = runs_then (node_runs s Site.Value c) (runs_then (entry_runs _) (patterns_runs ps _))
  pattern_runs (plain.make_pattern s x fs) c = runs_then (node_runs s Site.Value c) (runs_then (entry_runs _) (field_patterns_runs fs _))

  patterns_runs : (ps : PatternTrees) (c : Cursor) → Runs c (of_patterns ps c).1 (patterns_nodes (of_patterns ps c).0) (variables_in (of_patterns ps c).0)
  patterns_runs plain.no_pattern c = nothing_runs c c refl refl refl
  patterns_runs (plain.pattern_and p ps) c = runs_then (pattern_runs p c) (patterns_runs ps _)

  field_patterns_runs : (fs : FieldPatterns) (c : Cursor) → Runs c (of_field_patterns fs c).1 (field_patterns_nodes (of_field_patterns fs c).0) (variables_in_fields (of_field_patterns fs c).0)
  field_patterns_runs plain.no_field_pattern c = nothing_runs c c refl refl refl
  field_patterns_runs (plain.field_pattern_and x p fs) c = runs_then (pattern_runs p c) (field_patterns_runs fs _)

waits_runs : (b : Bool) (p : Pattern) (c : Cursor) → Runs c (naming.waits_if b p c).1 [] []
waits_runs false p c = nothing_runs c c refl refl refl
waits_runs true p c = at (whole_binding p)
  where
    at : (o : Option ℕ) → Runs c (naming.waits_at (pattern_node p) o c).1 [] []
    at None = nothing_runs c c refl refl refl
    at (Some x) = nothing_runs c _ refl refl refl

-- ---- expressions

abbrev ExpRuns : Expression → Type 0
ExpRuns e = (m : Bool) (t : Site) (c : Cursor) → Runs c (naming.of_expression m t e c).1 (exp_nodes (naming.of_expression m t e c).0) (exp_variables (naming.of_expression m t e c).0)

-- a place that is one node, or no variable that waits
abbrev OneNode : Expression → Cursor → Option (ℕ × ℕ) → Type 0
OneNode p c o = Runs c (naming.of_expression false Site.Place p c).1 ((node_of (naming.of_expression false Site.Place p c).0).number ∷ []) [] ⊎ (o ≡ None)

one_node : (p : Expression) (c : Cursor) → OneNode p c (naming.waits_in p (root (naming.of_expression false Site.Place p c).0).number (naming.of_expression false Site.Place p c).1)
one_node (plain.var s x) c = inl (runs_then (node_runs s Site.Place c) (entry_runs _))
one_node _ c = inr refl

-- an assignment behind its value
given_here_runs : (x : ℕ) (o : Option (ℕ × ℕ)) (c : Cursor) → Runs c (naming.given_here x o c).1 [] []
given_here_runs x None c = nothing_runs c c refl refl refl
given_here_runs x (Some w) c = nothing_runs c (naming.set_stage x Stage.Known c).1 refl refl refl

-- the value of an assignment, behind its place
assigned_runs : (s : Span) (t : Site) (p e : Expression) (c : Cursor) → ExpRuns p → ExpRuns e → (o : Option (ℕ × ℕ)) → OneNode p (a_node s t c).1 o
    → Runs c (naming.assigned (a_node s t c).0 (naming.of_expression false Site.Place p (a_node s t c).1).0 o (λ u. naming.of_expression false u e) (naming.of_expression false Site.Place p (a_node s t c).1).1).1
    (exp_nodes (naming.assigned (a_node s t c).0 (naming.of_expression false Site.Place p (a_node s t c).1).0 o (λ u. naming.of_expression false u e) (naming.of_expression false Site.Place p (a_node s t c).1).1).0)
    (exp_variables (naming.assigned (a_node s t c).0 (naming.of_expression false Site.Place p (a_node s t c).1).0 o (λ u. naming.of_expression false u e) (naming.of_expression false Site.Place p (a_node s t c).1).1).0)
assigned_runs s t p e c a b None x = runs_then (node_runs s t c) (runs_then (a false Site.Place (a_node s t c).1) (b false Site.Expects _))
assigned_runs s t p e c a b (Some w) (inr none) = absurd (cc)
assigned_runs s t p e c a b (Some w) (inl x) =
    let q = naming.of_expression false Site.Place p (a_node s t c).1 in
    let E = (naming.of_expression false Site.Reborrows e q.1).1 in
    runs_then (node_runs s t c) (runs_then x (ends_with (b false Site.Reborrows q.1) (given_here_runs w.0 (naming.waiting w.0 (naming.declaration E w.0).stage) E)))

called_runs : (s : Span) (t : Site) (es : Expressions) (c : Cursor) → ((t : Site) (c : Cursor) → Runs c (naming.of_expressions t es c).1 (exps_nodes (naming.of_expressions t es c).0) (exps_variables (naming.of_expressions t es c).0))
    → (k : List ℕ × Bool) → (c1 : Cursor) → Runs (a_node s t c).1 c1 [] []
    → Runs c (naming.called (a_node s t c).0 k (λ u. naming.of_expressions u es) c1).1 (exp_nodes (naming.called (a_node s t c).0 k (λ u. naming.of_expressions u es) c1).0) (exp_variables (naming.called (a_node s t c).0 k (λ u. naming.of_expressions u es) c1).0)
called_runs s t es c each (ns, true) c1 i = runs_then (node_runs s t c) (runs_then i (each Site.Value c1))
called_runs s t es c each (ns, false) c1 i = runs_then (node_runs s t c) (runs_then i (each Site.Expects c1))

annotates_runs : (p : PatternTree) (y : Option TypeTree) (c : Cursor) → Runs c (naming.annotates p y c).1 [] []
annotates_runs p None c = nothing_runs c c refl refl refl
annotates_runs p (Some y) c = nothing_runs c (naming.annotates p (Some y) c).1 refl refl refl

known_runs : (i j : ℕ) (c : Cursor) → Runs c (naming.known_between i j c).1 [] []
known_runs i j c = nothing_runs c (naming.known_between i j c).1 refl refl refl

mutual
  exp_runs : (e : Expression) → ExpRuns e
  exp_runs (plain.int s v k) m t c = node_runs s t c
  exp_runs (plain.bool s b) m t c = node_runs s t c
  exp_runs (plain.tuple s es) m t c = runs_then (node_runs s t c) (exps_runs es Site.Value _)
  exp_runs (plain.var s x) m t c = runs_then (node_runs s t c) (entry_runs _)
  exp_runs (plain.field s e x) m t c = runs_then (node_runs s t c) (exp_runs e false Site.Place _)
  exp_runs (plain.part s e i) m t c = runs_then (node_runs s t c) (exp_runs e false Site.Place _)
  exp_runs (plain.deref s e) m t c = runs_then (node_runs s t c) (exp_runs e false Site.Place _)
  exp_runs (plain.negate s e) m t c = runs_then (node_runs s t c) (exp_runs e true Site.Value _)
  exp_runs (plain.invert s e) m t c = runs_then (node_runs s t c) (exp_runs e false Site.Value _)
  exp_runs (plain.borrow s k e) m t c = runs_then (node_runs s t c) (exp_runs e false Site.Place _)
  exp_runs (plain.binary s o x y) m t c = runs_then (node_runs s t c) (runs_then (exp_runs x false Site.Value _) (exp_runs y false Site.Value _))
  exp_runs (plain.assign s p e) m t c = assigned_runs s t p e c (λ m t c. exp_runs p m t c) (λ m t c. exp_runs e m t c) _ (one_node p (a_node s t c).1)
  exp_runs (plain.update s o p e) m t c = runs_then (node_runs s t c) (runs_then (exp_runs p false Site.Place _) (exp_runs e false Site.Value _))
  exp_runs (plain.call s g es) m t c = called_runs s t es c (λ t c. exps_runs es t c) (an_entry (a_node s t c).1).0 (an_entry (a_node s t c).1).1 (entry_runs _)
  exp_runs (plain.next_input s) m t c = runs_then (node_runs s t c) (entry_runs _)
  exp_runs (plain.variant s x v es) m t c = runs_then (node_runs s t c) (runs_then (entry_runs _) (arguments_runs es _))
  exp_runs (plain.make s x fs) m t c = runs_then (node_runs s t c) (runs_then (entry_runs _) (fields_runs fs _))
  exp_runs (plain.print s e) m t c = runs_then (node_runs s t c) (exp_runs e false Site.Value _)
  exp_runs (plain.block s b) m t c =
      let B = naming.of_body (passed_on t) b (a_node s t c).1 in
      runs_then (node_runs s t c) (body_runs b (passed_on t) _)
  exp_runs (plain.if s x b o) m t c =
      let X = naming.of_expression false Site.Value x (a_node s t c).1 in
      let B = naming.of_body (naming.branch_site t o) b X.1 in
      let O = naming.of_optional (passed_on t) o B.1 in
      runs_then (node_runs s t c) (runs_then (exp_runs x false Site.Value _) (runs_then (body_runs b (naming.branch_site t o) X.1) (optional_runs o (passed_on t) B.1)))
  exp_runs (plain.if_let s p e b o) m t c =
      let n = a_node s t c in
      let P = of_pattern p n.1 in
      let X = naming.of_expression false Site.Scrutinee e P.1 in
      let k = naming.known_between n.1.declared P.1.declared X.1 in
      let B = naming.of_body (naming.branch_site t o) b k.1 in
      let O = naming.of_optional (passed_on t) o B.1 in
      runs_then (node_runs s t c) (runs_then (pattern_runs p n.1) (runs_then (exp_runs e false Site.Scrutinee P.1)
      (runs_then (known_runs n.1.declared P.1.declared X.1) (runs_then (body_runs b (naming.branch_site t o) k.1) (optional_runs o (passed_on t) B.1)))))
  exp_runs (plain.match s e l) m t c =
      let X = naming.of_expression false Site.Scrutinee e (a_node s t c).1 in
      let L = naming.of_arms (passed_on t) l X.1 in
      runs_then (node_runs s t c) (runs_then (exp_runs e false Site.Scrutinee _) (arms_runs l (passed_on t) X.1))
  exp_runs (plain.loop s l b) m t c =
      let c1 = naming.a_loop (a_node s t c).1 in
      let B = naming.of_body Site.Value b c1.1 in
      runs_then (node_runs s t c) (runs_then (nothing_runs _ c1.1 refl refl refl) (body_runs b Site.Value c1.1))
  exp_runs (plain.while s l x b) m t c =
      let c1 = naming.a_loop (a_node s t c).1 in
      runs_then (node_runs s t c) (runs_then (nothing_runs _ c1.1 refl refl refl) (runs_then (exp_runs x false Site.Value c1.1) (body_runs b Site.Value _)))
  exp_runs (plain.while_let s l p e b) m t c =
      let c1 = (naming.a_loop (a_node s t c).1).1 in
      let P = of_pattern p c1 in
      let X = naming.of_expression false Site.Scrutinee e P.1 in
      let k = naming.known_between c1.declared P.1.declared X.1 in
      runs_then (node_runs s t c) (runs_then (nothing_runs _ c1 refl refl refl) (runs_then (pattern_runs p c1) (runs_then (exp_runs e false Site.Scrutinee P.1)
      (runs_then (known_runs c1.declared P.1.declared X.1) (body_runs b Site.Value k.1)))))
  exp_runs (plain.break s l) m t c =
      let k = an_entry (a_node s t c).1 in
      runs_then (node_runs s t c) (runs_then (entry_runs _) (nothing_runs k.1 (naming.leads (naming.first k.0.0) k.1).1 refl refl refl))
  exp_runs (plain.continue s l) m t c = runs_then (node_runs s t c) (entry_runs _)
  exp_runs (plain.return s o) m t c = runs_then (node_runs s t c) (optional_runs o Site.Expects _)

  exps_runs : (es : Expressions) (t : Site) (c : Cursor) → Runs c (naming.of_expressions t es c).1 (exps_nodes (naming.of_expressions t es c).0) (exps_variables (naming.of_expressions t es c).0)
  exps_runs plain.no_expression t c = nothing_runs c c refl refl refl
  exps_runs (plain.expression_and e es) t c = runs_then (exp_runs e false t c) (exps_runs es t _)

  optional_runs : (o : OptionalExpression) (t : Site) (c : Cursor) → Runs c (naming.of_optional t o c).1 (else_nodes (naming.of_optional t o c).0) (else_variables (naming.of_optional t o c).0)
  optional_runs plain.absent t c = nothing_runs c c refl refl refl
  optional_runs (plain.present e) t c = exp_runs e false t c

  arguments_runs : (es : OptionalExpressions) (c : Cursor) → Runs c (naming.of_arguments es c).1 (exps_nodes (naming.of_arguments es c).0) (exps_variables (naming.of_arguments es c).0)
  arguments_runs plain.no_list c = nothing_runs c c refl refl refl
  arguments_runs (plain.a_list es) c = exps_runs es Site.Expects c

  fields_runs : (fs : FieldExpressions) (c : Cursor) → Runs c (naming.of_fields fs c).1 (fields_nodes (naming.of_fields fs c).0) (fields_variables (naming.of_fields fs c).0)
  fields_runs plain.no_field c = nothing_runs c c refl refl refl
  fields_runs (plain.field_and x e fs) c = runs_then (exp_runs e false Site.Expects c) (fields_runs fs _)

  arms_runs : (l : plain.Arms) (t : Site) (c : Cursor) → Runs c (naming.of_arms t l c).1 (arms_nodes (naming.of_arms t l c).0) (arms_variables (naming.of_arms t l c).0)
  arms_runs plain.no_arm t c = nothing_runs c c refl refl refl
  arms_runs (plain.arm_and p e l) t c =
      let P = of_pattern p c in
      let k = naming.known_between c.declared P.1.declared P.1 in
      runs_then (pattern_runs p c) (runs_then (known_runs c.declared P.1.declared P.1) (runs_then (exp_runs e false t k.1) (arms_runs l t _)))

  body_runs : (b : plain.Body) (t : Site) (c : Cursor) → Runs c (naming.of_body t b c).1 (body_nodes (naming.of_body t b c).0) (body_variables (naming.of_body t b c).0)
  body_runs (plain.body s ss o) t c =
      let S = naming.of_statements ss (a_node s t c).1 in
      let O = naming.of_optional t o S.1 in
      runs_then (node_runs s t c) (runs_then (statements_runs ss _) (optional_runs o t S.1))

  statements_runs : (ss : Statements) (c : Cursor) → Runs c (naming.of_statements ss c).1 (statements_nodes (naming.of_statements ss c).0) (statements_variables (naming.of_statements ss c).0)
  statements_runs plain.no_statement c = nothing_runs c c refl refl refl
  statements_runs (plain.statement_and x ss) c = runs_then (statement_runs x c) (statements_runs ss _)

  statement_runs : (x : Statement) (c : Cursor) → Runs c (naming.of_statement x c).1 (statement_nodes (naming.of_statement x c).0) (statement_variables (naming.of_statement x c).0)
  statement_runs (plain.let_statement s p y plain.absent) c =
      let n = a_node s Site.Value c in
      let n1 = (naming.annotates p y n.1).1 in
      let P = of_pattern p n1 in
      let Y = naming.of_optional_type y P.1 in
      let k = naming.known_between n1.declared P.1.declared Y.1 in
      runs_then (node_runs s Site.Value c) (runs_then (annotates_runs p y n.1) (runs_end (pattern_runs p n1)
      (ends_with (optional_type_runs y P.1) (runs_then (known_runs n1.declared P.1.declared Y.1) (waits_runs _ P.0 k.1)))))
  statement_runs (plain.let_statement s p y (plain.present e)) c =
      let n = a_node s Site.Value c in
      let n1 = (naming.annotates p y n.1).1 in
      let P = of_pattern p n1 in
      let Y = naming.of_optional_type y P.1 in
      let X = naming.of_expression false (naming.initialiser_site Y.0) e Y.1 in
      let k = naming.known_between n1.declared P.1.declared X.1 in
      runs_then (node_runs s Site.Value c) (runs_then (annotates_runs p y n.1) (runs_then (pattern_runs p n1)
      (runs_then (optional_type_runs y P.1) (ends_with (exp_runs e false (naming.initialiser_site Y.0) Y.1) (runs_then (known_runs n1.declared P.1.declared X.1) (waits_runs _ P.0 k.1))))))
  statement_runs (plain.expression_statement s e b) c = runs_then (node_runs s Site.Value c) (exp_runs e false Site.Value _)

-- ---- a function

parameters_runs : (xs : List Parameter) (c : Cursor) → Runs c (naming.of_parameters xs c).1 (parameters_nodes (naming.of_parameters xs c).0) (parameters_variables (naming.of_parameters xs c).0)
parameters_runs [] c = nothing_runs c c refl refl refl
parameters_runs (x ∷ xs) c =
    let c1 = (naming.declare (record { mutable = x.mutable; stage = Stage.Known }) c).1 in
    runs_then (declare_runs (record { mutable = x.mutable; stage = Stage.Known }) c) (runs_then (type_runs x.typ c1) (parameters_runs xs _))

entry_if_runs : (b : Bool) (c : Cursor) → Runs c (naming.entry_if b c).1 [] []
entry_if_runs true c = entry_runs c
entry_if_runs false c = nothing_runs c c refl refl refl

pub in_order : (i : ℕ) (s : Span) (f : Function) (ns : List NodeNames)
    → AreFrom 0 (nodes (function_named i s f ns)) (length (function_spans s f ns)) × AreFrom 0 (declared (function_named i s f ns)) (naming.of_function zero s f (naming.begins ns)).1.declared
in_order i s f ns =
    let c0 = naming.begins ns in
    let c1 = a_node s Site.Value c0 in
    let c2 = (naming.entry_if (naming.has_entry f) c1.1).1 in
    let P = naming.of_parameters f.params c2 in
    let T = naming.of_optional_type f.result P.1 in
    let w = runs_then (node_runs s Site.Value c0) (runs_then (entry_if_runs (naming.has_entry f) c1.1) (runs_then (parameters_runs f.params c2)
    (runs_then (optional_type_runs f.result P.1) (body_runs f.body Site.Expects T.1)))) in
    (are_and 0 _ _ (nodes (function_named i s f ns)) w.nodes (w.spans refl), w.variables)

pub nodes_in_order : (i : ℕ) (s : Span) (f : Function) (ns : List NodeNames) → AreFrom 0 (nodes (function_named i s f ns)) (length (function_spans s f ns))
nodes_in_order i s f ns = (in_order i s f ns).0

-- where they end is how many they are
so_many : (i j : ℕ) (ns : List ℕ) → AreFrom i ns j → j ≡ i + length ns
so_many i j [] e = omega (arith, e)
so_many i j (n ∷ ns) a = let h = so_many (suc i) j ns a.1 in omega (arith, h)

pub variables_in_order : (i : ℕ) (s : Span) (f : Function) (ns : List NodeNames) → AreFrom 0 (declared (function_named i s f ns)) (length (declared (function_named i s f ns)))
variables_in_order i s f ns = let a = (in_order i s f ns).1 in let e = so_many 0 _ (declared (function_named i s f ns)) a in are_and 0 _ _ (declared (function_named i s f ns)) a (omega (arith, e))
