-- Along the walk that numbers a function's body, each block of the text is one of the typed tree, by its number: by induction over
-- the tree. What the rules of types ask is met, so no block stands where a place is wanted.
use Rattle.std.proofs.Common.{◌≡◌, ℕ, zero, suc, ◌+◌, Bool, true, false, ◌&&◌, List, [], ◌∷◌, ◌++◌, length, Option, Some, None, refl, sym, ap, ◌∙◌, ◌⊎◌, inl, inr}
use Rattle.rx_core.specs.declared.types.Span.{Span}
use Rattle.rx_tree.specs.declared.tree.Ident.{Ident}
use Rattle.rx_tree.specs.Plain as plain
use Rattle.rx_tree.specs.Plain.{Expression, Expressions, OptionalExpression, OptionalExpressions, FieldExpressions, Statement, Statements}
use Rattle.rx_tree.specs.Lists.{listed}
use Rattle.rx_tree.specs.Positions.{NodeTree, a_block, a_statement, an_expression, a_pattern, expression_nodes, optional_nodes, argument_nodes, field_nodes, arm_nodes, statement_nodes}
use Rattle.rx_typed.specs.declared.nodes.Node.{Node}
use Rattle.rx_typed.specs.declared.nodes.Site.{Site}
use Rattle.rx_typed.specs.Named as named
use Rattle.rx_typed.specs.Named.{Exp, node_of, body_node, root, never, body_never, else_never, all_never, some_diverges, is_variable}
use Rattle.rx_typed.specs.Naming as naming
use Rattle.rx_typed.specs.Naming.{Cursor, a_node, an_entry, passed_on}
use Rattle.rx_typed.specs.Types as types
use Rattle.rx_typed.specs.Elaborated as elaborated
use Rattle.rx_typed.specs.Elaborated.{Assigned}
use Rattle.rx_typed.specs.Tree as tree
use Rattle.rx_typeck_solver.specs.declared.facts.Broken.TheVariants as broken
use Rattle.rx_typeck_solver.specs.declared.facts.Op.TheVariants as op
use Rattle.rx_typeck_solver.specs.declared.facts.Rule.{Rule}
use Rattle.rx_typeck_solver.specs.declared.facts.Demand.{Demand}
use Rattle.rx_typeck_solver.specs.Facts.{Assignment, KnownItems, MeetsEach}
use Rattle.rx_typeck_typed.specs.Asking.{◌>>◌, type_of}
use Rattle.rx_typeck_typed.specs.Demands as rules
use Rattle.rx_typeck_typed.specs.Demands.{Listed, members, values, parameters, parts_of, matched, through}
use Rattle.rx_exits_plan.specs.Blocks.{bound}
use Rattle.rx_exits_plan.specs.Spots.{Around, Spot, a_return, with_variables, with_loop, spots, spots_in, spots_matched, spots_armed, spots_of}
use Rattle.rx_hoist_blocks.proofs.Adding as adding
use Rattle.rx_hoist_blocks.proofs.Blocks as blocks
use Rattle.rx_hoist_blocks.proofs.Blocks.{Has, Goes, as_it_is, in_left, in_right, further, in_passed, in_matched, in_first, in_rest, in_tuple, in_left_operand, in_right_operand, in_behind, in_last, nested_long}
use Rattle.rx_hoist_blocks.proofs.Children.{Walked, WalkedAll, from, upto, goes, goes_one, one_upto, no_child, child_and, one_child, node_with, block_with}
use Rattle.rx_hoist_blocks.proofs.Parts.{no_expression_block, no_statement_block, entry_number, annotates_number, waits_number, given_number, type_row, pattern_walked}
use Rattle.rx_hoist_blocks.proofs.Places.{before, never_met, place_walked}

-- ---- statements are as many

pub count_is : (ss : Statements) (c : Cursor) → blocks.count (naming.of_statements ss c).0 ≡ length (listed ss)
count_is plain.no_statement c = refl
count_is (plain.statement_and x ss) c = ap suc (count_is ss (naming.of_statement x c).1)

-- ---- the variable of an assignment before which it waits for its type

-- a place that is one node, or no variable that waits
OneNode : Expression → Cursor → Option (ℕ × ℕ) → Type 0
OneNode p c o = ((S : Around → List Spot) → Walked (an_expression p) c.number (naming.of_expression false Site.Place p c).1.number S) ⊎ (o ≡ None)

one_node : (p : Expression) (c : Cursor) → OneNode p c (naming.waits_in p (root (naming.of_expression false Site.Place p c).0).number (naming.of_expression false Site.Place p c).1)
unfolding OneNode
one_node (plain.var s x) c = inl (λ S. node_with (no_expression_block (plain.var s x)) (upto (sym (entry_number (a_node s Site.Place c).1)) (no_child (suc c.number) S)))
one_node _ c = inr refl

module _ (K : KnownItems) (A : Assignment) (T : Assigned) (f : ℕ) where
  abbrev Met : List Demand → Type 0
  Met ds = MeetsEach K A ds

  -- what is shown of an expression
  abbrev ExpWalked : Expression → Type 0
  ExpWalked e = (m : Bool) (t : Site) (c : Cursor) (ds : List Demand) → Met (rules.of_exp f (naming.of_expression m t e c).0 ds)
      → Walked (an_expression e) c.number (naming.of_expression m t e c).1.number (λ a. spots a (elaborated.value T (naming.of_expression m t e c).0))

  -- ---- calls and assignments

  called_walked : (s : Span) (g : Ident) (t : Site) (es : Expressions) (c : Cursor) → ((w : Listed) (t : Site) (c : Cursor) (ds : List Demand) → Met (rules.of_each f w 0 (naming.of_expressions t es c).0 ds)
      → WalkedAll (expression_nodes es) c.number (naming.of_expressions t es c).1.number (λ a. spots_in a (elaborated.operands T 0 (naming.of_expressions t es c).0)))
      → (k : List ℕ × Bool) (c1 : Cursor) → c1.number ≡ suc c.number → (ds : List Demand)
      → Met (rules.of_exp f (naming.called (a_node s t c).0 k (λ u. naming.of_expressions u es) c1).0 ds)
      → Walked (an_expression (plain.call s g es)) c.number (naming.called (a_node s t c).0 k (λ u. naming.of_expressions u es) c1).1.number
      (λ a. spots a (elaborated.value T (naming.called (a_node s t c).0 k (λ u. naming.of_expressions u es) c1).0))
  called_walked s g t es c each (ns, true) c1 e ds h =
      let n = (a_node s t c).0 in
      let E = (naming.of_expressions Site.Value es c1).0 in
      absurd (never_met K A n (broken.Mismatch Rule.NotFunction) ds (before K A (rules.of_each f values 0 E) (adding.each_adds f values 0 E) _ h))
  called_walked s g t es c each (ns, false) c1 e ds h =
      let n = (a_node s t c).0 in
      let E = (naming.of_expressions Site.Expects es c1).0 in
      let x = tree.call (elaborated.mark T n) (naming.first ns) (elaborated.operands T 0 E) in
      node_with (no_expression_block (plain.call s g es)) (from e (goes (in_passed T n (elaborated.coercion_at T n) x)
      (each (parameters (naming.first ns)) Site.Expects c1 _ (before K A (rules.own n (op.Result (naming.first ns)) []) (adding.own_adds n _ []) _ h))))

  assigned_walked : (s : Span) (t : Site) (p e : Expression) (c : Cursor) → ExpWalked e → (o : Option (ℕ × ℕ)) → OneNode p (a_node s t c).1 o → (ds : List Demand)
      → Met (rules.of_exp f (naming.assigned (a_node s t c).0 (naming.of_expression false Site.Place p (a_node s t c).1).0 o (λ u. naming.of_expression false u e) (naming.of_expression false Site.Place p (a_node s t c).1).1).0 ds)
      → Walked (an_expression (plain.assign s p e)) c.number
      (naming.assigned (a_node s t c).0 (naming.of_expression false Site.Place p (a_node s t c).1).0 o (λ u. naming.of_expression false u e) (naming.of_expression false Site.Place p (a_node s t c).1).1).1.number
      (λ a. spots a (elaborated.value T (naming.assigned (a_node s t c).0 (naming.of_expression false Site.Place p (a_node s t c).1).0 o (λ u. naming.of_expression false u e) (naming.of_expression false Site.Place p (a_node s t c).1).1).0))
  unfolding OneNode
  assigned_walked s t p e c each None x ds h =
      let n = a_node s t c in
      let P = naming.of_expression false Site.Place p n.1 in
      let E = naming.of_expression false Site.Expects e P.1 in
      let d1 = rules.of_exp f P.0 ds in
      let d2 = rules.expects (node_of E.0) op.Same (type_of (node_of P.0) ∷ []) d1 in
      let h3 = before K A (rules.assignable n.0 P.0 >> rules.own n.0 op.Unit []) (adding.assign_behind n.0 (is_variable P.0) (root P.0) (through P.0)) (rules.of_exp f E.0 d2) h in
      let h2 = before K A (rules.of_exp f E.0) (adding.exp_adds f E.0) d2 h3 in
      let h1 = before K A (rules.expects (node_of E.0) op.Same (type_of (node_of P.0) ∷ [])) (adding.asks_add (node_of E.0) _ _ _) d1 h2 in
      node_with (no_expression_block (plain.assign s p e))
      (child_and (place_walked K A p false n.1 f ds h1 (λ a. spots a (elaborated.value T E.0))) (one_child (each false Site.Expects P.1 d2 h3)))
  assigned_walked s t p e c each (Some w) (inr none) ds h = absurd (cc)
  assigned_walked s t p e c each (Some w) (inl x) ds h =
      let n = a_node s t c in
      let P = naming.of_expression false Site.Place p n.1 in
      let E = naming.of_expression false Site.Reborrows e P.1 in
      let D = naming.given_here w.0 (naming.waiting w.0 (naming.declaration E.1 w.0).stage) E.1 in
      let u = naming.use_of w.0 (naming.declaration E.1 w.0) in
      let h1 = before K A (rules.given n.0 (node_of P.0) u D.0 (node_of E.0) (never E.0) >> rules.own n.0 op.Unit [])
      (adding.then_adds _ _ (adding.given_adds n.0 (node_of P.0) u D.0 (node_of E.0) (never E.0)) (adding.own_adds n.0 op.Unit [])) (rules.of_exp f E.0 ds) h in
      node_with (no_expression_block (plain.assign s p e))
      (child_and (x (λ a. spots a (elaborated.value T E.0))) (upto (sym (given_number w.0 _ E.1)) (one_child (each false Site.Reborrows P.1 ds h1))))

  -- ---- the branches of an `if`

  record Branches (n : Node) (B : named.Body) (O : named.Else) (ds : List Demand) : Type 0 where
    other : Met (rules.of_else f n O (rules.branch_after n O B (rules.of_body f B (rules.branch_before n O B ds))))
    body : Met (rules.of_body f B (rules.branch_before n O B ds))
    front : Met ds

  branches : (n : Node) (B : named.Body) (O : named.Else) (ds : List Demand)
      → Met (rules.if_joins n O (body_never B && else_never O) (rules.of_else f n O (rules.branch_after n O B (rules.of_body f B (rules.branch_before n O B ds))))) → Branches n B O ds
  branches n B O ds h =
      let d1 = rules.branch_before n O B ds in
      let d2 = rules.of_body f B d1 in
      let d3 = rules.branch_after n O B d2 in
      let h4 = before K A (rules.if_joins n O (body_never B && else_never O)) (adding.if_joins_add n O (body_never B && else_never O)) (rules.of_else f n O d3) h in
      let h3 = before K A (rules.of_else f n O) (adding.else_adds f n O) d3 h4 in
      let h2 = before K A (rules.branch_after n O B) (adding.branch_after_adds n O B) d2 h3 in
      let h1 = before K A (rules.of_body f B) (adding.body_adds f B) d1 h2 in
      record { other = h4; body = h2; front = before K A (rules.branch_before n O B) (adding.branch_before_adds n O B) ds h1 }

  -- of what is matched, the pattern behind it
  record Looked (n : Node) (p : named.Pattern) (E : Exp) (ds : List Demand) : Type 0 where
    value : Met (rules.of_exp f E ds)

  looked : (n : Node) (p : named.Pattern) (E : Exp) (ds : List Demand) → Met (rules.whole_pattern (matched E) (type_of (node_of E)) p (rules.not_never (node_of E) (never E) (rules.of_exp f E ds))) → Looked n p E ds
  looked n p E ds h =
      let d1 = rules.of_exp f E ds in
      let d2 = rules.not_never (node_of E) (never E) d1 in
      record {
        value = before K A (rules.not_never (node_of E) (never E)) (adding.not_never_adds (node_of E) (never E)) d1
            (before K A (rules.whole_pattern (matched E) (type_of (node_of E)) p) (adding.whole_adds (matched E) (type_of (node_of E)) p) d2 h);
      }

  -- parts of a test
  in_then : (x : tree.Scrutinee) (q : tree.Pattern) (b o : tree.Exp) (m : tree.Mark) → Goes (λ a. spots a b) (λ a. spots a (tree.choose m x (tree.arm_and q b (tree.arm_and tree.any o tree.no_arm))))
  in_then x q b o m n k h =
      in_right (λ a. spots_matched a x) (λ a. spots (with_variables (bound q) a) b ++ (spots (with_variables [] a) o ++ [])) n k
      (in_left (λ a. spots (with_variables (bound q) a) b) (λ a. spots (with_variables [] a) o ++ []) n k (further (with_variables (bound q)) (λ a. spots a b) n k h))

  in_other : (x : tree.Scrutinee) (q : tree.Pattern) (b o : tree.Exp) (m : tree.Mark) → Goes (λ a. spots a o) (λ a. spots a (tree.choose m x (tree.arm_and q b (tree.arm_and tree.any o tree.no_arm))))
  in_other x q b o m n k h =
      in_right (λ a. spots_matched a x) (λ a. spots (with_variables (bound q) a) b ++ (spots (with_variables [] a) o ++ [])) n k
      (in_right (λ a. spots (with_variables (bound q) a) b) (λ a. spots (with_variables [] a) o ++ []) n k
      (in_left (λ a. spots (with_variables [] a) o) (λ a. []) n k (further (with_variables []) (λ a. spots a o) n k h)))

  in_test : (x : tree.Scrutinee) (q : tree.Pattern) (b o : tree.Exp) (m : tree.Mark) → Goes (λ a. spots_matched a x) (λ a. spots a (tree.choose m x (tree.arm_and q b (tree.arm_and tree.any o tree.no_arm))))
  in_test x q b o m = in_left (λ a. spots_matched a x) (λ a. spots (with_variables (bound q) a) b ++ (spots (with_variables [] a) o ++ []))

  both : {S R Q : Around → List Spot} → Goes S R → Goes R Q → Goes S Q
  both g h n k x = h n k (g n k x)

  -- the statements and the tail of a body, the last value of which may be handed to the caller
  inside_of : (s : Span) (ss : Statements) (o : OptionalExpression) (t : Site) (c : Cursor) (last : tree.Exp)
      → Goes (λ a. spots a (elaborated.tail T (a_node s t c).0 (naming.of_optional t o (naming.of_statements ss (a_node s t c).1).1).0)) (λ a. spots a last)
      → (ds : List Demand) → Met (rules.of_body f (naming.of_body t (plain.body s ss o) c).0 ds)
      → ((ds : List Demand) → Met (rules.of_statements f (naming.of_statements ss (a_node s t c).1).0 ds) → (last : tree.Exp) (ns : List NodeTree) (j : ℕ)
      → WalkedAll ns (naming.of_statements ss (a_node s t c).1).1.number j (λ a. spots a last)
      → WalkedAll (statement_nodes ss ++ ns) (suc c.number) j (λ a. spots_of a (elaborated.nested T (naming.of_statements ss (a_node s t c).1).0 last)))
      → ((ds : List Demand) → Met (rules.of_returned f (naming.of_optional t o (naming.of_statements ss (a_node s t c).1).1).0 ds)
      → WalkedAll (optional_nodes o) (naming.of_statements ss (a_node s t c).1).1.number (naming.of_body t (plain.body s ss o) c).1.number
      (λ a. spots a (elaborated.tail T (a_node s t c).0 (naming.of_optional t o (naming.of_statements ss (a_node s t c).1).1).0)))
      → WalkedAll (statement_nodes ss ++ optional_nodes o) (suc c.number) (naming.of_body t (plain.body s ss o) c).1.number (λ a. spots_of a (elaborated.nested T (naming.of_statements ss (a_node s t c).1).0 last))
  inside_of s ss o t c last g ds h each_statement its_tail =
      let n = a_node s t c in
      let X = naming.of_statements ss n.1 in
      let O = naming.of_optional t o X.1 in
      let d1 = rules.of_statements f X.0 ds in
      let d2 = rules.tail_before n.0 O.0 d1 in
      let v = body_never (named.body n.0 X.0 O.0) in
      let h3 = before K A (rules.tail_after n.0 (some_diverges X.0) O.0 >> rules.join n.0 v) (adding.tail_behind n.0 (some_diverges X.0) O.0 v) (rules.of_returned f O.0 d2) h in
      let h2 = before K A (rules.of_returned f O.0) (adding.returned_adds f O.0) d2 h3 in
      let h1 = before K A (rules.tail_before n.0 O.0) (adding.tail_before_adds n.0 O.0) d1 h2 in
      each_statement ds h1 last (optional_nodes o) O.1.number (goes g (its_tail d2 h3))

  -- ---- all forms

  mutual
    pub exp_walked : (e : Expression) → ExpWalked e
    exp_walked (plain.int s v k) m t c ds h = node_with (no_expression_block (plain.int s v k)) (no_child (suc c.number) (λ a. []))
    exp_walked (plain.bool s b) m t c ds h = node_with (no_expression_block (plain.bool s b)) (no_child (suc c.number) (λ a. []))
    exp_walked (plain.tuple s es) m t c ds h =
        let n = a_node s t c in
        let E = naming.of_expressions Site.Value es n.1 in
        node_with (no_expression_block (plain.tuple s es)) (goes (in_tuple T n.0 (elaborated.operands T 0 E.0)) (exps_walked es members Site.Value 0 0 n.1 ds
        (before K A (rules.own n.0 op.Tuple (rules.exp_nodes E.0) >> rules.limits n.0) (adding.tuple_behind n.0 (rules.exp_nodes E.0)) _ h)))
    exp_walked (plain.var s x) m t c ds h =
        node_with (no_expression_block (plain.var s x)) (upto (sym (entry_number (a_node s t c).1)) (no_child (suc c.number) (λ a. spots a (elaborated.value T (naming.of_expression m t (plain.var s x) c).0))))
    exp_walked (plain.field s e x) m t c ds h =
        let n = a_node s t c in
        let E = (naming.of_expression false Site.Place e n.1).0 in
        node_with (no_expression_block (plain.field s e x)) (one_child (place_walked K A e false n.1 f ds
        (before K A (rules.step_at n.0 (op.Field x.name) (node_of E) >> rules.place_in n.0 (root E).number (through (named.field n.0 E x.name)) t) (adding.step_behind n.0 (op.Field x.name) (node_of E) (root E).number (through (named.field n.0 E x.name)) t) (rules.of_exp f E ds) h)
        (λ a. spots a (elaborated.value T (named.field n.0 E x.name)))))
    exp_walked (plain.part s e i) m t c ds h =
        let n = a_node s t c in
        let E = (naming.of_expression false Site.Place e n.1).0 in
        node_with (no_expression_block (plain.part s e i)) (one_child (place_walked K A e false n.1 f ds
        (before K A (rules.step_at n.0 (op.Part i) (node_of E) >> rules.place_in n.0 (root E).number (through (named.part n.0 E i)) t) (adding.step_behind n.0 (op.Part i) (node_of E) (root E).number (through (named.part n.0 E i)) t) (rules.of_exp f E ds) h)
        (λ a. spots a (elaborated.value T (named.part n.0 E i)))))
    exp_walked (plain.deref s e) m t c ds h =
        let n = a_node s t c in
        let E = (naming.of_expression false Site.Place e n.1).0 in
        node_with (no_expression_block (plain.deref s e)) (one_child (place_walked K A e false n.1 f ds
        (before K A (rules.step_at n.0 op.Pointee (node_of E) >> rules.place_in n.0 (root E).number (through (named.deref n.0 E)) t) (adding.step_behind n.0 op.Pointee (node_of E) (root E).number (through (named.deref n.0 E)) t) (rules.of_exp f E ds) h)
        (λ a. spots a (elaborated.value T (named.deref n.0 E)))))
    exp_walked (plain.negate s e) m t c ds h =
        let n = a_node s t c in
        let E = (naming.of_expression true Site.Value e n.1).0 in
        node_with (no_expression_block (plain.negate s e)) (one_child (goes_one (in_first 0 (elaborated.value T E) tree.no_operand) (exp_walked e true Site.Value n.1 ds
        (before K A (rules.negated n.0 (node_of E) (never E)) (adding.negated_adds n.0 (node_of E) (never E)) (rules.of_exp f E ds) h))))
    exp_walked (plain.invert s e) m t c ds h =
        let n = a_node s t c in
        let E = (naming.of_expression false Site.Value e n.1).0 in
        node_with (no_expression_block (plain.invert s e)) (one_child (goes_one (in_first 0 (elaborated.value T E) tree.no_operand) (exp_walked e false Site.Value n.1 ds
        (before K A (rules.inverted n.0 (node_of E) (never E)) (adding.inverted_adds n.0 (node_of E) (never E)) (rules.of_exp f E ds) h))))
    exp_walked (plain.borrow s w e) m t c ds h =
        let n = a_node s t c in
        let E = (naming.of_expression false Site.Place e n.1).0 in
        node_with (no_expression_block (plain.borrow s w e)) (one_child (place_walked K A e false n.1 f ds
        (before K A (rules.borrowed n.0 w (node_of E) (root E) (through E)) (adding.borrowed_adds n.0 w (node_of E) (root E) (through E)) (rules.of_exp f E ds) h)
        (λ a. spots a (elaborated.value T (named.borrow n.0 w E)))))
    exp_walked (plain.binary s o x y) m t c ds h =
        let n = a_node s t c in
        let X = naming.of_expression false Site.Value x n.1 in
        let Y = naming.of_expression false Site.Value y X.1 in
        let d1 = rules.of_exp f X.0 ds in
        let h2 = before K A (rules.operation o n.0 (node_of X.0) (never X.0) (node_of Y.0) (never Y.0)) (adding.operation_adds o n.0 (node_of X.0) (never X.0) (node_of Y.0) (never Y.0)) (rules.of_exp f Y.0 d1) h in
        let h1 = before K A (rules.of_exp f Y.0) (adding.exp_adds f Y.0) d1 h2 in
        node_with (no_expression_block (plain.binary s o x y))
        (child_and (goes_one (in_left_operand T n.0 o (elaborated.value T X.0) (elaborated.value T Y.0)) (exp_walked x false Site.Value n.1 ds h1))
        (one_child (goes_one (in_right_operand T n.0 o (elaborated.value T X.0) (elaborated.value T Y.0)) (exp_walked y false Site.Value X.1 d1 h2))))
    exp_walked (plain.assign s p e) m t c ds h = assigned_walked s t p e c (λ m t c ds h. exp_walked e m t c ds h) _ (one_node p (a_node s t c).1) ds h
    exp_walked (plain.update s o p e) m t c ds h =
        let n = a_node s t c in
        let P = naming.of_expression false Site.Place p n.1 in
        let E = naming.of_expression false Site.Value e P.1 in
        let d1 = rules.of_exp f P.0 ds in
        let h2 = before K A (rules.updated n.0 (node_of P.0) (never P.0) (node_of E.0) (never E.0) >> rules.assignable n.0 P.0 >> rules.own n.0 op.Unit [])
        (adding.update_behind n.0 (node_of P.0) (never P.0) (node_of E.0) (never E.0) (is_variable P.0) (root P.0) (through P.0)) (rules.of_exp f E.0 d1) h in
        let h1 = before K A (rules.of_exp f E.0) (adding.exp_adds f E.0) d1 h2 in
        node_with (no_expression_block (plain.update s o p e))
        (child_and (place_walked K A p false n.1 f ds h1 (λ a. spots a (elaborated.value T E.0))) (one_child (exp_walked e false Site.Value P.1 d1 h2)))
    exp_walked (plain.call s g es) m t c ds h =
        let c1 = (a_node s t c).1 in
        called_walked s g t es c (λ w t c ds h. exps_walked es w t 0 0 c ds h) (an_entry c1).0 (an_entry c1).1 (entry_number c1) ds h
    exp_walked (plain.next_input s) m t c ds h =
        node_with (no_expression_block (plain.next_input s)) (upto (sym (entry_number (a_node s t c).1)) (no_child (suc c.number) (λ a. [])))
    exp_walked (plain.variant s x v es) m t c ds h =
        let n = a_node s t c in
        let N = an_entry n.1 in
        let E = naming.of_arguments es N.1 in
        node_with (no_expression_block (plain.variant s x v es)) (from (entry_number n.1) (arguments_walked es (parts_of (naming.first N.0.0) (naming.second N.0.0)) N.1 _
        (before K A (rules.own n.0 (op.Item (naming.first N.0.0)) []) (adding.own_adds n.0 _ []) _ h)))
    exp_walked (plain.make s x fs) m t c ds h =
        let n = a_node s t c in
        let N = an_entry n.1 in
        node_with (no_expression_block (plain.make s x fs)) (from (entry_number n.1) (fields_walked fs (naming.first N.0.0) N.1 _
        (before K A (rules.own n.0 (op.Item (naming.first N.0.0)) []) (adding.own_adds n.0 _ []) _ h)))
    exp_walked (plain.print s e) m t c ds h =
        let n = a_node s t c in
        let E = (naming.of_expression false Site.Value e n.1).0 in
        node_with (no_expression_block (plain.print s e)) (one_child (exp_walked e false Site.Value n.1 ds
        (before K A (rules.printed (node_of E) (never E) >> rules.own n.0 op.Unit []) (adding.print_behind n.0 (node_of E) (never E)) (rules.of_exp f E ds) h)))
    exp_walked (plain.block s b) m t c ds h =
        let n = a_node s t c in
        let B = (naming.of_body (passed_on t) b n.1).0 in
        let d1 = rules.part_before n.0 t (body_node B) ds in
        node_with (no_expression_block (plain.block s b)) (one_child (body_walked b (passed_on t) n.1 d1
        (before K A (rules.part_after n.0 t (body_never B) (body_node B) >> rules.join n.0 (body_never B)) (adding.block_behind n.0 t (body_never B) (body_node B)) (rules.of_body f B d1) h)))
    exp_walked (plain.if s x b o) m t c ds h =
        let n = a_node s t c in
        let X = naming.of_expression false Site.Value x n.1 in
        let B = naming.of_body (naming.branch_site t o) b X.1 in
        let O = naming.of_optional (passed_on t) o B.1 in
        let d1 = rules.of_exp f X.0 ds in
        let d2 = rules.tested (node_of X.0) (never X.0) d1 in
        let H = branches n.0 B.0 O.0 d2 h in
        let M = elaborated.mark_if T n.0 (body_never B.0 && else_never O.0) in
        let q = tree.exactly n.0.number (tree.truth true) in
        let V = tree.of_value (elaborated.value T X.0) in
        let Z = elaborated.otherwise T n.0 O.0 in
        node_with (no_expression_block (plain.if s x b o))
        (child_and (goes_one (in_test V q (elaborated.body T B.0) Z M) (exp_walked x false Site.Value n.1 ds (before K A (rules.tested (node_of X.0) (never X.0)) (adding.tested_adds (node_of X.0) (never X.0)) d1 H.front)))
        (child_and (goes_one (in_then V q (elaborated.body T B.0) Z M) (body_walked b (naming.branch_site t o) X.1 _ H.body))
        (goes (in_other V q (elaborated.body T B.0) Z M) (else_walked o (passed_on t) n.0 B.1 _ H.other))))
    exp_walked (plain.if_let s p e b o) m t c ds h =
        let n = a_node s t c in
        let P = naming.of_pattern p n.1 in
        let X = naming.of_expression false Site.Scrutinee e P.1 in
        let k = naming.known_between n.1.declared P.1.declared X.1 in
        let B = naming.of_body (naming.branch_site t o) b k.1 in
        let O = naming.of_optional (passed_on t) o B.1 in
        let d1 = rules.whole_pattern (matched X.0) (type_of (node_of X.0)) P.0 (rules.not_never (node_of X.0) (never X.0) (rules.of_exp f X.0 ds)) in
        let H = branches n.0 B.0 O.0 d1 h in
        let L = looked n.0 P.0 X.0 ds H.front in
        let M = elaborated.mark_if T n.0 (body_never B.0 && else_never O.0) in
        let q = elaborated.pattern T None P.0 in
        let V = elaborated.matched T X.0 (elaborated.value T X.0) in
        let Z = elaborated.otherwise T n.0 O.0 in
        node_with (no_expression_block (plain.if_let s p e b o))
        (child_and (pattern_walked p n.1 (λ a. spots a (tree.choose M V (tree.arm_and q (elaborated.body T B.0) (tree.arm_and tree.any Z tree.no_arm)))))
        (child_and (goes_one (both (in_matched T X.0) (in_test V q (elaborated.body T B.0) Z M)) (exp_walked e false Site.Scrutinee P.1 ds L.value))
        (child_and (goes_one (in_then V q (elaborated.body T B.0) Z M) (body_walked b (naming.branch_site t o) k.1 _ H.body))
        (goes (in_other V q (elaborated.body T B.0) Z M) (else_walked o (passed_on t) n.0 B.1 _ H.other)))))
    exp_walked (plain.match s e l) m t c ds h =
        let n = a_node s t c in
        let X = naming.of_expression false Site.Scrutinee e n.1 in
        let L = naming.of_arms (passed_on t) l X.1 in
        let d1 = rules.of_exp f X.0 ds in
        let d2 = rules.not_never (node_of X.0) (never X.0) d1 in
        let h2 = before K A (rules.join n.0 (all_never L.0)) (adding.join_adds n.0 (all_never L.0)) (rules.of_arms f n.0 (matched X.0) (node_of X.0) L.0 d2) h in
        let h1 = before K A (rules.of_arms f n.0 (matched X.0) (node_of X.0) L.0) (adding.arms_add f n.0 (matched X.0) (node_of X.0) L.0) d2 h2 in
        let V = elaborated.matched T X.0 (elaborated.value T X.0) in
        let Z = elaborated.arms T L.0 in
        node_with (no_expression_block (plain.match s e l))
        (child_and (goes_one (both (in_matched T X.0) (in_left (λ a. spots_matched a V) (λ a. spots_armed a Z)))
        (exp_walked e false Site.Scrutinee n.1 ds (before K A (rules.not_never (node_of X.0) (never X.0)) (adding.not_never_adds (node_of X.0) (never X.0)) d1 h1)))
        (goes (in_right (λ a. spots_matched a V) (λ a. spots_armed a Z)) (arms_walked l (passed_on t) n.0 (matched X.0) (node_of X.0) X.1 d2 h2)))
    exp_walked (plain.loop s l b) m t c ds h =
        let n = a_node s t c in
        let N = naming.a_loop n.1 in
        let B = naming.of_body Site.Value b N.1 in
        let k = (naming.is_left N.0 B.1).0 in
        node_with (no_expression_block (plain.loop s l b)) (one_child (goes_one (further (with_loop N.0) (λ a. spots a (elaborated.body T B.0))) (body_walked b Site.Value N.1 ds
        (before K A (rules.nothing_given (body_node B.0) (body_never B.0) >> rules.loop_given n.0 k) (adding.loop_behind n.0 (body_node B.0) (body_never B.0) k) (rules.of_body f B.0 ds) h))))
    exp_walked (plain.while s l x b) m t c ds h =
        let n = a_node s t c in
        let N = naming.a_loop n.1 in
        let X = naming.of_expression false Site.Value x N.1 in
        let B = naming.of_body Site.Value b X.1 in
        let d1 = rules.of_exp f X.0 ds in
        let d2 = rules.tested (node_of X.0) (never X.0) d1 in
        let h3 = before K A (rules.nothing_given (body_node B.0) (body_never B.0) >> rules.own n.0 op.Unit []) (adding.while_behind n.0 (body_node B.0) (body_never B.0)) (rules.of_body f B.0 d2) h in
        let h2 = before K A (rules.of_body f B.0) (adding.body_adds f B.0) d2 h3 in
        let M = elaborated.mark_if T (body_node B.0) (body_never B.0) in
        let q = tree.exactly n.0.number (tree.truth true) in
        let V = tree.of_value (elaborated.value T X.0) in
        let Z = elaborated.leaves n.0 N.0 in
        let W = tree.choose M V (tree.arm_and q (elaborated.body T B.0) (tree.arm_and tree.any Z tree.no_arm)) in
        node_with (no_expression_block (plain.while s l x b))
        (goes (further (with_loop N.0) (λ a. spots a W))
        (child_and (goes_one (in_test V q (elaborated.body T B.0) Z M) (exp_walked x false Site.Value N.1 ds (before K A (rules.tested (node_of X.0) (never X.0)) (adding.tested_adds (node_of X.0) (never X.0)) d1 h2)))
        (one_child (goes_one (in_then V q (elaborated.body T B.0) Z M) (body_walked b Site.Value X.1 d2 h3)))))
    exp_walked (plain.while_let s l p e b) m t c ds h =
        let n = a_node s t c in
        let N = naming.a_loop n.1 in
        let P = naming.of_pattern p N.1 in
        let X = naming.of_expression false Site.Scrutinee e P.1 in
        let k = naming.known_between N.1.declared P.1.declared X.1 in
        let B = naming.of_body Site.Value b k.1 in
        let d1 = rules.whole_pattern (matched X.0) (type_of (node_of X.0)) P.0 (rules.not_never (node_of X.0) (never X.0) (rules.of_exp f X.0 ds)) in
        let h2 = before K A (rules.nothing_given (body_node B.0) (body_never B.0) >> rules.own n.0 op.Unit []) (adding.while_behind n.0 (body_node B.0) (body_never B.0)) (rules.of_body f B.0 d1) h in
        let L = looked n.0 P.0 X.0 ds (before K A (rules.of_body f B.0) (adding.body_adds f B.0) d1 h2) in
        let M = elaborated.mark_if T (body_node B.0) (body_never B.0) in
        let q = elaborated.pattern T None P.0 in
        let V = elaborated.matched T X.0 (elaborated.value T X.0) in
        let Z = elaborated.leaves n.0 N.0 in
        let W = tree.choose M V (tree.arm_and q (elaborated.body T B.0) (tree.arm_and tree.any Z tree.no_arm)) in
        node_with (no_expression_block (plain.while_let s l p e b))
        (goes (further (with_loop N.0) (λ a. spots a W))
        (child_and (pattern_walked p N.1 (λ a. spots a W))
        (child_and (goes_one (both (in_matched T X.0) (in_test V q (elaborated.body T B.0) Z M)) (exp_walked e false Site.Scrutinee P.1 ds L.value))
        (one_child (goes_one (in_then V q (elaborated.body T B.0) Z M) (body_walked b Site.Value k.1 d1 h2))))))
    exp_walked (plain.break s l) m t c ds h =
        node_with (no_expression_block (plain.break s l)) (upto (sym (entry_number (a_node s t c).1)) (no_child (suc c.number) (λ a. spots a (elaborated.value T (naming.of_expression m t (plain.break s l) c).0))))
    exp_walked (plain.continue s l) m t c ds h =
        node_with (no_expression_block (plain.continue s l)) (upto (sym (entry_number (a_node s t c).1)) (no_child (suc c.number) (λ a. spots a (elaborated.value T (naming.of_expression m t (plain.continue s l) c).0))))
    exp_walked (plain.return s o) m t c ds h = return_walked s o t c ds h

    return_walked : (s : Span) (o : OptionalExpression) (t : Site) (c : Cursor) (ds : List Demand) → Met (rules.of_exp f (naming.of_expression false t (plain.return s o) c).0 ds)
        → Walked (an_expression (plain.return s o)) c.number (naming.of_expression false t (plain.return s o) c).1.number (λ a. spots a (elaborated.value T (naming.of_expression false t (plain.return s o) c).0))
    return_walked s plain.absent t c ds h =
        node_with (no_expression_block (plain.return s plain.absent)) (no_child (suc c.number) (λ a. spots a (elaborated.value T (naming.of_expression false t (plain.return s plain.absent) c).0)))
    return_walked s (plain.present e) t c ds h =
        let n = a_node s t c in
        let E = (naming.of_expression false Site.Expects e n.1).0 in
        let d1 = rules.returns_unit f n.0 (named.present E) ds in
        node_with (no_expression_block (plain.return s (plain.present e))) (one_child (goes_one (in_left (λ a. spots a (elaborated.value T E)) (λ a. a_return a n.0.number ∷ [])) (exp_walked e false Site.Expects n.1 d1
        (before K A (rules.never_in n.0 t) (adding.never_adds n.0 t) (rules.of_exp f E d1) h))))

    exps_walked : (es : Expressions) (w : Listed) (t : Site) (i k : ℕ) (c : Cursor) (ds : List Demand) → Met (rules.of_each f w k (naming.of_expressions t es c).0 ds)
        → WalkedAll (expression_nodes es) c.number (naming.of_expressions t es c).1.number (λ a. spots_in a (elaborated.operands T i (naming.of_expressions t es c).0))
    exps_walked plain.no_expression w t i k c ds h = no_child c.number (λ a. [])
    exps_walked (plain.expression_and e es) w t i k c ds h =
        let E = naming.of_expression false t e c in
        let R = naming.of_expressions t es E.1 in
        let d1 = rules.each_before w k (node_of E.0) ds in
        let d2 = rules.of_exp f E.0 d1 in
        let d3 = rules.each_after w E.0 d2 in
        let h3 = before K A (rules.of_each f w (suc k) R.0) (adding.each_adds f w (suc k) R.0) d3 h in
        child_and (goes_one (in_first i (elaborated.value T E.0) (elaborated.operands T (suc i) R.0)) (exp_walked e false t c d1 (before K A (rules.each_after w E.0) (adding.each_after_adds w E.0) d2 h3)))
        (goes (in_rest i (elaborated.value T E.0) (elaborated.operands T (suc i) R.0)) (exps_walked es w t (suc i) (suc k) E.1 d3 h))

    arguments_walked : (es : OptionalExpressions) (w : Listed) (c : Cursor) (ds : List Demand) → Met (rules.of_each f w 0 (naming.of_arguments es c).0 ds)
        → WalkedAll (argument_nodes es) c.number (naming.of_arguments es c).1.number (λ a. spots_in a (elaborated.operands T 0 (naming.of_arguments es c).0))
    arguments_walked plain.no_list w c ds h = no_child c.number (λ a. [])
    arguments_walked (plain.a_list es) w c ds h = exps_walked es w Site.Expects 0 0 c ds h

    fields_walked : (fs : FieldExpressions) (i : ℕ) (c : Cursor) (ds : List Demand) → Met (rules.of_fields f i (naming.of_fields fs c).0 ds)
        → WalkedAll (field_nodes fs) c.number (naming.of_fields fs c).1.number (λ a. spots_in a (elaborated.fields T i (naming.of_fields fs c).0))
    fields_walked plain.no_field i c ds h = no_child c.number (λ a. [])
    fields_walked (plain.field_and x e fs) i c ds h =
        let E = naming.of_expression false Site.Expects e c in
        let R = naming.of_fields fs E.1 in
        let j = elaborated.field_in T.items (types.named i) x.name in
        let d1 = rules.expects (node_of E.0) (op.FieldOf i x.name) [] ds in
        let d2 = rules.of_exp f E.0 d1 in
        child_and (goes_one (in_first j (elaborated.value T E.0) (elaborated.fields T i R.0)) (exp_walked e false Site.Expects c d1 (before K A (rules.of_fields f i R.0) (adding.fields_add f i R.0) d2 h)))
        (goes (in_rest j (elaborated.value T E.0) (elaborated.fields T i R.0)) (fields_walked fs i E.1 d2 h))

    else_walked : (o : OptionalExpression) (t : Site) (n : Node) (c : Cursor) (ds : List Demand) → Met (rules.of_else f n (naming.of_optional t o c).0 ds)
        → WalkedAll (optional_nodes o) c.number (naming.of_optional t o c).1.number (λ a. spots a (elaborated.otherwise T n (naming.of_optional t o c).0))
    else_walked plain.absent t n c ds h = no_child c.number (λ a. [])
    else_walked (plain.present e) t n c ds h =
        let E = (naming.of_expression false t e c).0 in
        let d1 = rules.part_before n n.site (node_of E) ds in
        one_child (exp_walked e false t c d1 (before K A (rules.part_after n n.site (never E) (node_of E)) (adding.after_adds n n.site (never E) (node_of E)) (rules.of_exp f E d1) h))

    tail_walked : (o : OptionalExpression) (t : Site) (n : Node) (c : Cursor) (ds : List Demand) → Met (rules.of_returned f (naming.of_optional t o c).0 ds)
        → WalkedAll (optional_nodes o) c.number (naming.of_optional t o c).1.number (λ a. spots a (elaborated.tail T n (naming.of_optional t o c).0))
    tail_walked plain.absent t n c ds h = no_child c.number (λ a. [])
    tail_walked (plain.present e) t n c ds h = one_child (exp_walked e false t c ds h)

    arms_walked : (l : plain.Arms) (t : Site) (n : Node) (s : rules.Matched) (m : Node) (c : Cursor) (ds : List Demand) → Met (rules.of_arms f n s m (naming.of_arms t l c).0 ds)
        → WalkedAll (arm_nodes l) c.number (naming.of_arms t l c).1.number (λ a. spots_armed a (elaborated.arms T (naming.of_arms t l c).0))
    arms_walked plain.no_arm t n s m c ds h = no_child c.number (λ a. [])
    arms_walked (plain.arm_and p e l) t n s m c ds h =
        let P = naming.of_pattern p c in
        let k = naming.known_between c.declared P.1.declared P.1 in
        let E = naming.of_expression false t e k.1 in
        let R = naming.of_arms t l E.1 in
        let q = elaborated.pattern T None P.0 in
        let first = λ (a : Around). spots (with_variables (bound q) a) (elaborated.value T E.0) in
        let rest = λ (a : Around). spots_armed a (elaborated.arms T R.0) in
        let d1 = rules.part_before n n.site (node_of E.0) (rules.whole_pattern s (type_of m) P.0 ds) in
        let d2 = rules.of_exp f E.0 d1 in
        let d3 = rules.part_after n n.site (never E.0) (node_of E.0) d2 in
        let h3 = before K A (rules.of_arms f n s m R.0) (adding.arms_add f n s m R.0) d3 h in
        child_and (pattern_walked p c (λ a. first a ++ rest a))
        (child_and (goes_one (both (further (with_variables (bound q)) (λ a. spots a (elaborated.value T E.0))) (in_left first rest))
        (exp_walked e false t k.1 d1 (before K A (rules.part_after n n.site (never E.0) (node_of E.0)) (adding.after_adds n n.site (never E.0) (node_of E.0)) d2 h3)))
        (goes (in_right first rest) (arms_walked l t n s m E.1 d3 h)))

    pub body_walked : (b : plain.Body) (t : Site) (c : Cursor) (ds : List Demand) → Met (rules.of_body f (naming.of_body t b c).0 ds)
        → Walked (a_block b) c.number (naming.of_body t b c).1.number (λ a. spots a (elaborated.body T (naming.of_body t b c).0))
    body_walked (plain.body s ss o) t c ds h =
        let n = a_node s t c in
        let X = naming.of_statements ss n.1 in
        let O = naming.of_optional t o X.1 in
        let last = elaborated.tail T n.0 O.0 in
        block_with (plain.body s ss o) c.number O.1.number (elaborated.nested T X.0 last) (nested_long T X.0 last ∙ count_is ss n.1)
        (inside_of s ss o t c last (as_it_is (λ a. spots a last)) ds h (λ ds h last ns j w. statements_walked ss n.1 ds h last ns j w) (λ ds h. tail_walked o t n.0 X.1 ds h))

    statements_walked : (ss : Statements) (c : Cursor) (ds : List Demand) → Met (rules.of_statements f (naming.of_statements ss c).0 ds) → (last : tree.Exp) (ns : List NodeTree) (j : ℕ)
        → WalkedAll ns (naming.of_statements ss c).1.number j (λ a. spots a last)
        → WalkedAll (statement_nodes ss ++ ns) c.number j (λ a. spots_of a (elaborated.nested T (naming.of_statements ss c).0 last))
    statements_walked plain.no_statement c ds h last ns j w = w
    statements_walked (plain.statement_and x ss) c ds h last ns j w =
        let X = naming.of_statement x c in
        let R = naming.of_statements ss X.1 in
        let d1 = rules.of_statement f X.0 ds in
        let rest = elaborated.nested T R.0 last in
        child_and (statement_walked x c ds (before K A (rules.of_statements f R.0) (adding.statements_add f R.0) d1 h) rest)
        (goes (in_behind T X.0 rest) (statements_walked ss X.1 d1 h last ns j w))

    statement_walked : (x : Statement) (c : Cursor) (ds : List Demand) → Met (rules.of_statement f (naming.of_statement x c).0 ds) → (rest : tree.Body)
        → Walked (a_statement x) c.number (naming.of_statement x c).1.number (λ a. spots_of a (elaborated.statement T (naming.of_statement x c).0 rest))
    statement_walked (plain.let_statement s p y plain.absent) c ds h rest =
        let n = a_node s Site.Value c in
        let n1 = (naming.annotates p y n.1).1 in
        let P = naming.of_pattern p n1 in
        let Y = naming.of_optional_type y P.1 in
        let k = naming.known_between n1.declared P.1.declared Y.1 in
        let S = λ (a : Around). spots_of a (elaborated.statement T (naming.of_statement (plain.let_statement s p y plain.absent) c).0 rest) in
        node_with (no_statement_block (plain.let_statement s p y plain.absent)) (from (annotates_number p y n.1) (child_and (pattern_walked p n1 S)
        (type_row y P.1 S [] _ (upto (sym (waits_number (naming.has_no_type Y.0) P.0 k.1)) (no_child Y.1.number S)))))
    statement_walked (plain.let_statement s p y (plain.present e)) c ds h rest =
        let n = a_node s Site.Value c in
        let n1 = (naming.annotates p y n.1).1 in
        let P = naming.of_pattern p n1 in
        let Y = naming.of_optional_type y P.1 in
        let X = naming.of_expression false (naming.initialiser_site Y.0) e Y.1 in
        let k = naming.known_between n1.declared P.1.declared X.1 in
        let q = elaborated.pattern T None P.0 in
        let V = elaborated.matched T X.0 (elaborated.value T X.0) in
        let S = λ (a : Around). spots_of a (tree.lets n.0.number q V rest) in
        let d1 = rules.typed_before Y.0 X.0 ds in
        let h1 = before K A (rules.initialised P.0 Y.0 X.0) (adding.initialised_adds P.0 Y.0 X.0) (rules.of_exp f X.0 d1) h in
        node_with (no_statement_block (plain.let_statement s p y (plain.present e))) (from (annotates_number p y n.1) (child_and (pattern_walked p n1 S)
        (type_row y P.1 S (an_expression e ∷ []) _ (upto (sym (waits_number (naming.has_no_type Y.0 && never X.0) P.0 k.1))
        (one_child (goes_one (both (in_matched T X.0) (in_left (λ a. spots_matched a V) (λ a. spots_of (with_variables (bound q) a) rest))) (exp_walked e false (naming.initialiser_site Y.0) Y.1 d1 h1)))))))
    statement_walked (plain.expression_statement s e b) c ds h rest =
        let n = a_node s Site.Value c in
        let E = (naming.of_expression false Site.Value e n.1).0 in
        node_with (no_statement_block (plain.expression_statement s e b)) (one_child (goes_one (in_left (λ a. spots a (elaborated.value T E)) (λ a. spots_of a rest)) (exp_walked e false Site.Value n.1 ds
        (before K A (rules.evaluated b (node_of E) (never E)) (adding.evaluated_adds b (node_of E) (never E)) (rules.of_exp f E ds) h))))

  pub inside_walked : (s : Span) (ss : Statements) (o : OptionalExpression) (t : Site) (c : Cursor) (last : tree.Exp)
      → Goes (λ a. spots a (elaborated.tail T (a_node s t c).0 (naming.of_optional t o (naming.of_statements ss (a_node s t c).1).1).0)) (λ a. spots a last)
      → (ds : List Demand) → Met (rules.of_body f (naming.of_body t (plain.body s ss o) c).0 ds)
      → WalkedAll (statement_nodes ss ++ optional_nodes o) (suc c.number) (naming.of_body t (plain.body s ss o) c).1.number (λ a. spots_of a (elaborated.nested T (naming.of_statements ss (a_node s t c).1).0 last))
  inside_walked s ss o t c last g ds h =
      let n = a_node s t c in
      let X = naming.of_statements ss n.1 in
      inside_of s ss o t c last g ds h (λ ds h last ns j w. statements_walked ss n.1 ds h last ns j w) (λ ds h. tail_walked o t n.0 X.1 ds h)
