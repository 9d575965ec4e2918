-- Expressions, statements and blocks whose names have a meaning: in their trees with numbers each name means, where it stands, what it
-- names. Along resolving and numbering, by the names of all variables of the function.
use Rattle.std.proofs.Common.{◌≡◌, ℕ, ◌≤◌, Bool, true, false, ◌&&◌, List, [], ◌∷◌, ◌++◌, length, reverse, Option, Some, None, Ok, refl, sym, ap, ◌∙◌, subst, append-nil, arith, codes}
use Rattle.rx_core.specs.declared.types.Span.{Span}
use Rattle.rx_tree.specs.declared.tree.Ident.{Ident}
use Rattle.rx_tree.specs.Lists.{listed}
use Rattle.rx_tree.specs.Plain as plain
use Rattle.rx_tree.specs.Plain.{TypeTree, PatternTree, Expression, Expressions, OptionalExpression, OptionalExpressions, FieldExpressions, Arms, Body, Statement, Statements}
use Rattle.rx_tree.specs.Positions.{a_pattern, an_expression, a_block}
use Rattle.rx_tree.specs.Nodes.{below_pattern, below_expression, below_block, below_statement, within_type, within_expressions, within_optional, within_arguments, within_fields, within_arms, within_statements}
use Rattle.rx_resolve_names.specs.Scopes.{DeclaredNames, Variables, variable_named, entered}
use Rattle.rx_resolve_names.specs.declared.resolved.ItemNames.{ItemNames}
use Rattle.rx_resolve_names.specs.declared.resolved.NodeNames.{NodeNames}
use Rattle.rx_resolve_names.specs.Meant.{number, type_name, function_name, item_named, as_function, as_rt, Around, a_loop, a_test, target}
use Rattle.rx_resolve_names.specs.Steps.{and_then, Naming, ◌>>◌, Inside, known, one, led, child, next, with_loop, with_names, position, numbered, names as naming}
use Rattle.rx_resolve_names.specs.Names.{variant_in, struct_in, Bound as BoundSoFar, in_pattern, pattern_then, callee, rt_span, in_optional_type, initialiser_at, Scoped, in_expression, in_expressions, in_optional, in_arguments, in_fields, in_arms, in_block, in_statements, in_statement}
use Rattle.rx_typed.specs.declared.nodes.Node.{Node}
use Rattle.rx_typed.specs.declared.nodes.Site.{Site}
use Rattle.rx_typed.specs.Named as named
use Rattle.rx_typed.specs.Named.{Exp, node_of, root}
use Rattle.rx_typed.specs.Naming as numbering
use Rattle.rx_typed.specs.Naming.{give, an_entry, first, second, of_expression}
use Rattle.rx_typed.specs.Elaborated.{variables}
use Rattle.rx_exits.specs.Refusing.{same_name}
use Rattle.rx_hoist_naming.proofs.Claims.{Claims}
use Rattle.rx_hoist_naming.proofs.Steps.{named_ok, the_same, binds, binds_append, Takes, takes_then, takes_last, takes_give, takes_map, takes_node, takes_made, takes_entry, takes_quiet, IsEntry, at_entry, Part, in_turn, in_turn3, in_turn4, in_new_loop, takes_in_loop, from_zero, restated, unchanged, entry_part}
use Rattle.rx_hoist_naming.proofs.TypeLemmas.{no_result_binds, Sees, one_part, optional_type_taken}
use Rattle.rx_hoist_naming.proofs.Expressions.{RootHas, Waits, quiet_counted, quiet_between, quiet_annotates, quiet_loop, quiet_leads, quiet_is_left, quiet_gives_here, quiet_waits, quiet_use, quiet_waits_for}
use Rattle.rx_hoist_meant.specs.NamesMeant.{MeansIt}
use Rattle.rx_hoist_meant.proofs.Scopes.{Bound, front_of, behind_of, ScopeIs, entered_is, scope_means, declared_in, NExp, NExps, NElse, NFields, NArms, NBody, NStatement, NRow}
use Rattle.rx_hoist_meant.proofs.NamedPatterns.{Binds, pattern_taken}

module _ (C : Claims) (I : Inside) (N : ℕ) (small : N ≤ 4294967295) (S : Sees C I N) (names : List (List ℕ)) where
  abbrev pub It : List ℕ → ℕ → Type 0
  It vs k = MeansIt (same_name names) vs k

  -- of a variable in this scope
  abbrev In : List ℕ → Claims
  In vs = record { item = λ i. Unit {0}; variable = λ k. MeansIt (same_name names) vs k }

  pub record Fits (e : Expression) (vs : List ℕ) (a : Exp) : Type 0 where
    pub named : NExp (same_name names) vs a
    pub root : RootHas (In vs) e a

  abbrev pub ExpTaken : Expression → List ℕ → ItemNames → ItemNames → Type 0
  ExpTaken e vs t t' = Part N t t' (binds (below_expression e)) (λ es. (m : Bool) (i : Site) → Takes (Fits e vs) t t' es (of_expression m i e))

  abbrev AllTaken : Expressions → List ℕ → ItemNames → ItemNames → Type 0
  AllTaken es vs t t' = Part N t t' (binds (within_expressions es)) (λ fs. (i : Site) → Takes (NExps (same_name names) vs) t t' fs (numbering.of_expressions i es))

  abbrev OptionalTaken : OptionalExpression → List ℕ → ItemNames → ItemNames → Type 0
  OptionalTaken o vs t t' = Part N t t' (binds (within_optional o)) (λ fs. (i : Site) → Takes (NElse (same_name names) vs) t t' fs (numbering.of_optional i o))

  abbrev ArgumentsTaken : OptionalExpressions → List ℕ → ItemNames → ItemNames → Type 0
  ArgumentsTaken o vs t t' = Part N t t' (binds (within_arguments o)) (λ fs. Takes (NExps (same_name names) vs) t t' fs (numbering.of_arguments o))

  abbrev FieldsTaken : FieldExpressions → List ℕ → ItemNames → ItemNames → Type 0
  FieldsTaken fs vs t t' = Part N t t' (binds (within_fields fs)) (λ gs. Takes (NFields (same_name names) vs) t t' gs (numbering.of_fields fs))

  abbrev ArmsTaken : Arms → List ℕ → ItemNames → ItemNames → Type 0
  ArmsTaken l vs t t' = Part N t t' (binds (within_arms l)) (λ fs. (i : Site) → Takes (NArms (same_name names) vs) t t' fs (numbering.of_arms i l))

  abbrev pub BodyTaken : Body → List ℕ → ItemNames → ItemNames → Type 0
  BodyTaken b vs t t' = Part N t t' (binds (below_block b)) (λ fs. (i : Site) → Takes (NBody (same_name names) vs) t t' fs (numbering.of_body i b))

  -- a statement brings a scope to another
  record Stated (vs after : List ℕ) (a : named.Statement) : Type 0 where
    named : NStatement (same_name names) vs a
    scope : reverse (declared_in a) ++ vs ≡ after

  record StatementTaken (a : Statement) (vs : List ℕ) (t : ItemNames) (r : Scoped) : Type 0 where
    after : List ℕ
    scope : length r.tables.vars ≤ N → ScopeIs names after r.scope
    part : Part N t r.tables (binds (below_statement a)) (λ fs. Takes (Stated vs after) t r.tables fs (numbering.of_statement a))

  record StatementsTaken (ss : Statements) (vs : List ℕ) (t : ItemNames) (r : Scoped) : Type 0 where
    after : List ℕ
    scope : length r.tables.vars ≤ N → ScopeIs names after r.scope
    part : Part N t r.tables (binds (within_statements ss)) (λ fs. Takes (λ (a : named.Statements). NRow (same_name names) vs a after) t r.tables fs (numbering.of_statements ss))

  -- a scope that is there, where there are few variables
  abbrev pub Scope : List ℕ → Variables → ItemNames → Type 0
  Scope vs sc t = length t.vars ≤ N → ScopeIs names vs sc

  on : {t t1 : ItemNames} {k : ℕ} {K : List NodeNames → Type 0} (vs : List ℕ) (sc : Variables) → Part N t t1 k K → Scope vs sc t → Scope vs sc t1
  on vs sc a w = λ m. let c = a.count in w (omega (arith, c, m))

  with_pattern : (p : PatternTree) (t : ItemNames) (b1 : BoundSoFar) (vs : List ℕ) (sc : Variables) (P : Binds C I N small S names (record { bindings = []; tables = t }) b1 (binds (a_pattern p ∷ below_pattern p)) (λ ns (c : named.Pattern). variables c ≡ ns) (numbering.of_pattern p))
      → Scope vs sc t → Scope (reverse P.numbers ++ vs) (entered sc b1.bindings) b1.tables
  with_pattern p t b1 vs sc P w = λ m.
      let c = P.part.count in
      subst (λ (ds : DeclaredNames). ScopeIs names (reverse P.numbers ++ vs) (entered sc ds)) (sym P.adds) (entered_is names P.numbers P.new vs sc (P.are m) (w (omega (arith, c, m))))

  -- ---- what is no recursion

  called_taken : {t t' : ItemNames} {es : List NodeNames} (vs : List ℕ) (n : Node) (a : List ℕ × Bool) (s : Span) (g : Ident) (xs : Expressions)
      → ((k : Site) → Takes (NExps (same_name names) vs) t t' es (numbering.of_expressions k xs)) → Takes (Fits (plain.call s g xs) vs) t t' es (numbering.called n a (λ k. numbering.of_expressions k xs))
  called_taken vs n (ns, true) s g xs k = takes_map (named.hidden_call n) (k Site.Value) (λ b h. record { named = h; root = tt })
  called_taken vs n (ns, false) s g xs k = takes_map (named.call n (first ns)) (k Site.Expects) (λ b h. record { named = h; root = tt })

  assigned_taken : {t t' : ItemNames} {es : List NodeNames} (vs : List ℕ) (n : Node) (s : Span) (p e : Expression) (x : Exp) (w : Option (ℕ × ℕ)) → Fits p vs x → Waits (In vs) w
      → ((k : Site) → Takes (Fits e vs) t t' es (of_expression false k e)) → Takes (Fits (plain.assign s p e) vs) t t' es (numbering.assigned n x w (λ k. of_expression false k e))
  assigned_taken vs n s p e x None h w k = takes_map (named.assign n x) (k Site.Expects) (λ a f. record { named = (h.named, f.named); root = tt })
  assigned_taken vs n s p e x (Some w) h v k =
      takes_last (k Site.Reborrows) (λ a f. takes_quiet (quiet_use (λ (y : ℕ). MeansIt (same_name names) vs y) w.0 v) (λ u z. takes_quiet (quiet_gives_here w.0) (λ d y.
      takes_give (named.gives n (node_of x) u d a) (record { named = (z, f.named); root = tt }))))

  abbrev CalleeTaken : ItemNames → ItemNames → Type 0
  CalleeTaken t t' = Part N t t' 0 (λ es. Takes (λ a. Unit {0}) t t' es an_entry)

  callee_taken : (at : List ℕ) (x : Ident) (o : Option ℕ) (t t' : ItemNames) → callee I at x o t ≡ Ok t' → CalleeTaken t t'
  callee_taken at x None t t' e = restated (one_part N I at t t' (known (as_function (item_named function_name 0 I.program x.name)) x.span) e).part refl (λ es k. takes_map (λ a. a) k (λ a h. tt))
  callee_taken at x (Some n) t t' e =
      let X : NodeNames = record { node = position I at; numbers = n ∷ []; hidden = true } in
      subst (λ (v : ItemNames). CalleeTaken t v) (the_same (with_names X t) t' e)
      (record { added = X ∷ []; grown = refl; count = omega arith; numbers = λ _. takes_map (λ a. a) (takes_entry X) (λ a h. tt) })

  known_is : (o : Option ℕ) (s : Span) (n : ℕ) → known o s ≡ Ok n → o ≡ Some n
  known_is None s n e = absurd (cc)
  known_is (Some m) s n e = ap (λ (z : ℕ). Some z) (the_same m n e)

  -- a variable
  used : {t t' : ItemNames} {es : List NodeNames} (vs : List ℕ) (s : Span) (x : List ℕ) (n : Node) (k : ℕ) → MeansIt (same_name names) vs k → Takes (IsEntry (k ∷ []) false) t t' es an_entry
      → Takes (Fits (plain.var s x) vs) t t' es (numbering.and_then an_entry (λ ns c. (named.var n (numbering.use_of (first ns.0) (numbering.declaration c (first ns.0))), c)))
  used vs s x n k v h = record {
    holds = λ c rest d e.
        let z = h.holds c rest d e in
        let y = at_entry (λ a. MeansIt (same_name names) vs (first a.0)) (k ∷ []) false (an_entry c).0 z.fits v in
        record { fits = record { named = y; root = y }; declared = z.declared; left = z.left };
  }

  -- a part in the scope that a pattern makes
  in_scope : {A : Type 0} {t t' : ItemNames} {es : List NodeNames} {m : numbering.Numbering A} (T : List ℕ → A → Type 0) (c : named.Pattern) (ns vs : List ℕ) → variables c ≡ ns
      → Takes (T (reverse ns ++ vs)) t t' es m → Takes (T (reverse (variables c) ++ vs)) t t' es m
  in_scope {t = t} {t' = t'} {es = es} {m = m} T c ns vs e h = subst (λ (l : List ℕ). Takes (T (reverse l ++ vs)) t t' es m) (sym e) h

  present : {t t' : ItemNames} {es : List NodeNames} (vs : List ℕ) (x : Expression) (k : Site) → Takes (NElse (same_name names) vs) t t' es (numbering.of_optional k (plain.present x)) → Takes (NExp (same_name names) vs) t t' es (of_expression false k x)
  present vs x k n = record { holds = λ c rest d e. let z = n.holds c rest d e in record { fits = z.fits; declared = z.declared; left = z.left } }

  let_taken : {t t1 t2 t3 : ItemNames} {es fs gs : List NodeNames} {T : Option named.Written → Type 0} (vs ns : List ℕ) (s : Span) (p : PatternTree) (y : Option TypeTree) (o : OptionalExpression)
      → Takes (λ (c : named.Pattern). variables c ≡ ns) t t1 es (numbering.of_pattern p) → Takes T t1 t2 fs (numbering.of_optional_type y) → ((i : Site) → Takes (NElse (same_name names) vs) t2 t3 gs (numbering.of_optional i o))
      → Takes (Stated vs (reverse ns ++ vs)) t t3 (es ++ (fs ++ gs)) (numbering.of_statement (plain.let_statement s p y o))
  let_taken vs ns s p y plain.absent k l m =
      takes_node s Site.Value (λ n q. takes_quiet (quiet_annotates p y) (λ _ _. takes_quiet quiet_counted (λ i _. takes_then k (λ c v. takes_quiet quiet_counted (λ j _. takes_then l (λ z h.
      takes_last (m Site.Value) (λ _ _. takes_quiet (quiet_between i j) (λ _ _. takes_quiet (quiet_waits (numbering.has_no_type z) c) (λ _ _.
      takes_give (named.declares n c z) (record { named = tt; scope = ap (λ (l : List ℕ). reverse l ++ vs) v }))))))))))
  let_taken vs ns s p y (plain.present x) k l m =
      takes_node s Site.Value (λ n q. takes_quiet (quiet_annotates p y) (λ _ _. takes_quiet quiet_counted (λ i _. takes_then k (λ c v. takes_quiet quiet_counted (λ j _. takes_then l (λ z h.
      takes_last (present vs x (numbering.initialiser_site z) (m (numbering.initialiser_site z))) (λ a d. takes_quiet (quiet_between i j) (λ _ _. takes_quiet (quiet_waits (numbering.has_no_type z && named.never a) c) (λ _ _.
      takes_give (named.lets n c z a) (record { named = d; scope = ap (λ (l : List ℕ). reverse l ++ vs) v }))))))))))

  let_part : (at : List ℕ) (s : Span) (p : PatternTree) (y : Option TypeTree) (o : OptionalExpression) (sc : Variables) (vs : List ℕ) (ls : List Around) (t : ItemNames) (r : Scoped) → Scope vs sc t
      → Bound names (length t.vars) (below_statement (plain.let_statement s p y o))
      → ((at : List ℕ) (t t' : ItemNames) → Scope vs sc t → Bound names (length t.vars) (within_optional o) → in_optional I sc ls at o t ≡ Ok t' → OptionalTaken o vs t t')
      → in_statement I sc ls at (plain.let_statement s p y o) t ≡ Ok r → StatementTaken (plain.let_statement s p y o) vs t r
  let_part at s p y o sc vs ls t r w b h e =
      let b0 : BoundSoFar = record { bindings = []; tables = t } in
      let to : DeclaredNames → ItemNames → Scoped = λ ds t. record { scope = entered sc ds; tables = t } in
      let i = initialiser_at y in
      let g = in_optional_type I (child at 1) y in let k = in_optional I sc ls (child at i) o in
      let Z = named_ok (in_pattern I (child at 0) p b0) (λ b. and_then ((g >> k) b.tables) (λ t. Ok (to b.bindings t))) r e in
      let Y = named_ok ((g >> k) Z.0.tables) (λ t. Ok (to Z.0.bindings t)) r Z.2 in
      let X = named_ok (g Z.0.tables) k Y.0 Y.1 in
      let pn = a_pattern p ∷ below_pattern p in
      let P = pattern_taken C I N small S names (child at 0) p b0 Z.0 (front_of names pn (within_type y ++ within_optional o) b) Z.1 in
      let T = optional_type_taken C I N S (child at 1) y Z.0.tables X.0 X.1 in
      let w1 = on vs sc P.part w in
      let cp = P.part.count in let ct = T.count in
      let n3 = no_result_binds y in
      let bo = behind_of names (length X.0.vars) (within_type y) (within_optional o) (omega (arith, ct, n3)) (behind_of names (length Z.0.tables.vars) pn (within_type y ++ within_optional o) cp b) in
      let D = h (child at i) X.0 Y.0 (on vs sc T w1) bo X.2 in
      let bs = with_pattern p t Z.0 vs sc P w in
      let after = reverse P.numbers ++ vs in
      let n1 = binds_append pn (within_type y ++ within_optional o) in
      let n2 = binds_append (within_type y) (within_optional o) in
      subst (λ (z : Scoped). StatementTaken (plain.let_statement s p y o) vs t z) (the_same (to Z.0.bindings Y.0) r Y.2) (record {
        after = after;
        scope = on after (entered sc Z.0.bindings) D (on after (entered sc Z.0.bindings) T bs);
        part = in_turn3 P.part T D (omega (arith, n1, n2, n3)) (λ es fs gs x y' z. let_taken vs P.numbers s p y o x y' z);
      })

  mutual
    pub expression_taken : (sc : Variables) (vs : List ℕ) (ls : List Around) (at : List ℕ) (e : Expression) (t t' : ItemNames) → Scope vs sc t → Bound names (length t.vars) (below_expression e) → in_expression I sc ls at e t ≡ Ok t' → ExpTaken e vs t t'
    expression_taken sc vs ls at (plain.int s v k) t t' w b e =
        unchanged N t t' (λ u es. (m : Bool) (i : Site) → Takes (Fits (plain.int s v k) vs) t u es (of_expression m i (plain.int s v k))) e (λ m i. takes_made s i (λ n. named.int n m v k) (λ n q. record { named = tt; root = tt }))
    expression_taken sc vs ls at (plain.bool s x) t t' w b e =
        unchanged N t t' (λ u es. (m : Bool) (i : Site) → Takes (Fits (plain.bool s x) vs) t u es (of_expression m i (plain.bool s x))) e (λ m i. takes_made s i (λ n. named.bool n x) (λ n q. record { named = tt; root = tt }))
    expression_taken sc vs ls at (plain.tuple s es) t t' w b e =
        restated (all_taken sc vs ls at 0 es t t' w b e) refl (λ fs k m i. takes_node s i (λ n q. takes_map (named.tuple n) (k Site.Value) (λ c h. record { named = h; root = tt })))
    expression_taken sc vs ls at (plain.var s x) t t' w b e =
        let A = one_part N I at t t' (known (variable_named sc x) s) e in
        let v = known_is (variable_named sc x) s A.first A.found in
        let c = A.part.count in
        record {
          added = A.part.added;
          grown = A.part.grown;
          count = c;
          numbers = λ most m i. takes_node s i (λ n q. used vs s x n A.first (scope_means names vs sc x A.first (w (omega (arith, c, most))) v).itself (A.part.numbers most));
        }
    expression_taken sc vs ls at (plain.field s x f) t t' w b e =
        restated (expression_taken sc vs ls (child at 0) x t t' w b e) refl (λ es k m i. takes_node s i (λ n q. takes_map (λ c. named.field n c f.name) (k false Site.Place) (λ c h. record { named = h.named; root = tt })))
    expression_taken sc vs ls at (plain.part s x j) t t' w b e =
        restated (expression_taken sc vs ls (child at 0) x t t' w b e) refl (λ es k m i. takes_node s i (λ n q. takes_map (λ c. named.part n c j) (k false Site.Place) (λ c h. record { named = h.named; root = tt })))
    expression_taken sc vs ls at (plain.deref s x) t t' w b e =
        restated (expression_taken sc vs ls (child at 0) x t t' w b e) refl (λ es k m i. takes_node s i (λ n q. takes_map (named.deref n) (k false Site.Place) (λ c h. record { named = h.named; root = tt })))
    expression_taken sc vs ls at (plain.negate s x) t t' w b e =
        restated (expression_taken sc vs ls (child at 0) x t t' w b e) refl (λ es k m i. takes_node s i (λ n q. takes_map (named.negate n) (k true Site.Value) (λ c h. record { named = h.named; root = tt })))
    expression_taken sc vs ls at (plain.invert s x) t t' w b e =
        restated (expression_taken sc vs ls (child at 0) x t t' w b e) refl (λ es k m i. takes_node s i (λ n q. takes_map (named.invert n) (k false Site.Value) (λ c h. record { named = h.named; root = tt })))
    expression_taken sc vs ls at (plain.borrow s r x) t t' w b e =
        restated (expression_taken sc vs ls (child at 0) x t t' w b e) refl (λ es k m i. takes_node s i (λ n q. takes_map (named.borrow n r) (k false Site.Place) (λ c h. record { named = h.named; root = tt })))
    expression_taken sc vs ls at (plain.binary s o x y) t t' w b e =
        let X = named_ok (in_expression I sc ls (child at 0) x t) (in_expression I sc ls (child at 1) y) t' e in
        let A = expression_taken sc vs ls (child at 0) x t X.0 w (front_of names (below_expression x) (an_expression y ∷ below_expression y) b) X.1 in
        let B = expression_taken sc vs ls (child at 1) y X.0 t' (on vs sc A w) (behind_of names (length X.0.vars) (below_expression x) (an_expression y ∷ below_expression y) A.count b) X.2 in
        in_turn A B (binds_append (below_expression x) (an_expression y ∷ below_expression y)) (λ es fs k l m i. takes_node s i (λ n q. takes_then (k false Site.Value) (λ c g. takes_map (named.binary n o c) (l false Site.Value) (λ d h. record { named = (g.named, h.named); root = tt }))))
    expression_taken sc vs ls at (plain.assign s x y) t t' w b e =
        let X = named_ok (in_expression I sc ls (child at 0) x t) (in_expression I sc ls (child at 1) y) t' e in
        let A = expression_taken sc vs ls (child at 0) x t X.0 w (front_of names (below_expression x) (an_expression y ∷ below_expression y) b) X.1 in
        let B = expression_taken sc vs ls (child at 1) y X.0 t' (on vs sc A w) (behind_of names (length X.0.vars) (below_expression x) (an_expression y ∷ below_expression y) A.count b) X.2 in
        in_turn A B (binds_append (below_expression x) (an_expression y ∷ below_expression y)) (λ es fs k l m i. takes_node s i (λ n q. takes_then (k false Site.Place) (λ c g. takes_quiet (quiet_waits_for (In vs) x c g.root) (λ z v.
        assigned_taken vs n s x y c z g v (λ k. l false k)))))
    expression_taken sc vs ls at (plain.update s o x y) t t' w b e =
        let X = named_ok (in_expression I sc ls (child at 0) x t) (in_expression I sc ls (child at 1) y) t' e in
        let A = expression_taken sc vs ls (child at 0) x t X.0 w (front_of names (below_expression x) (an_expression y ∷ below_expression y) b) X.1 in
        let B = expression_taken sc vs ls (child at 1) y X.0 t' (on vs sc A w) (behind_of names (length X.0.vars) (below_expression x) (an_expression y ∷ below_expression y) A.count b) X.2 in
        in_turn A B (binds_append (below_expression x) (an_expression y ∷ below_expression y)) (λ es fs k l m i. takes_node s i (λ n q. takes_then (k false Site.Place) (λ c g. takes_map (named.update n o c) (l false Site.Value) (λ d h. record { named = (g.named, h.named); root = tt }))))
    expression_taken sc vs ls at (plain.call s f es) t t' w b e =
        let X = named_ok (callee I at f (variable_named sc f.name) t) (in_expressions I sc ls at 0 es) t' e in
        let A = callee_taken at f (variable_named sc f.name) t X.0 X.1 in
        let B = all_taken sc vs ls at 0 es X.0 t' (on vs sc A w) (behind_of names (length X.0.vars) [] (within_expressions es) A.count b) X.2 in
        in_turn A B (from_zero (binds (within_expressions es))) (λ _ _ k l m i. takes_node s i (λ n q. takes_then k (λ c h. called_taken vs n c s f es l)))
    expression_taken sc vs ls at (plain.next_input s) t t' w b e =
        restated (one_part N I at t t' (known (as_rt (item_named type_name 0 I.program (codes "rt"))) (rt_span s)) e).part refl (λ es k m i. takes_node s i (λ n q. takes_map (λ z. named.next_input n) k (λ c h. record { named = tt; root = tt })))
    expression_taken sc vs ls at (plain.variant s c v es) t t' w b e =
        let X = named_ok (naming I at (variant_in I c v) t) (in_arguments I sc ls at es) t' e in
        let y = named_ok (variant_in I c v) (λ ns. numbered I at ns t) X.0 X.1 in
        let f = S.variants c v y.0 y.1 in
        let A = entry_part N I at t X.0 f.0 (f.1 ∷ []) (variant_in I c v) (y.1 ∙ ap (λ (l : List ℕ). Ok l) f.2) X.1 in
        let B = arguments_taken sc vs ls at es X.0 t' (on vs sc A w) (behind_of names (length X.0.vars) [] (within_arguments es) A.count b) X.2 in
        in_turn A B (from_zero (binds (within_arguments es))) (λ _ _ k l m i. takes_node s i (λ n q. takes_then k (λ y r. takes_map (named.variant n (first y.0) (second y.0)) l (λ es h. record { named = h; root = tt }))))
    expression_taken sc vs ls at (plain.make s x fs) t t' w b e =
        let X = named_ok (naming I at (one (struct_in I x)) t) (in_fields I sc ls at 0 fs) t' e in
        let A = one_part N I at t X.0 (struct_in I x) X.1 in
        let B = fields_taken sc vs ls at 0 fs X.0 t' (on vs sc A.part w) (behind_of names (length X.0.vars) [] (within_fields fs) A.part.count b) X.2 in
        in_turn A.part B (from_zero (binds (within_fields fs))) (λ _ _ k l m i. takes_node s i (λ n q. takes_then k (λ y r. takes_map (named.make n (first y.0)) l (λ fs h. record { named = h; root = tt }))))
    expression_taken sc vs ls at (plain.print s x) t t' w b e =
        restated (expression_taken sc vs ls (child at 0) x t t' w b e) refl (λ es k m i. takes_node s i (λ n q. takes_map (named.print n) (k false Site.Value) (λ c h. record { named = h.named; root = tt })))
    expression_taken sc vs ls at (plain.block s x) t t' w b e =
        restated (body_taken sc vs ls (child at 0) x t t' w b e) refl (λ es k m i. takes_node s i (λ n q. takes_map (named.block n) (k (numbering.passed_on i)) (λ c h. record { named = h; root = tt })))
    expression_taken sc vs ls at (plain.if s c x o) t t' w b e =
        let X = named_ok (in_expression I sc ls (child at 0) c t) (in_block I sc ls (child at 1) x >> in_optional I sc ls (child at 2) o) t' e in
        let Y = named_ok (in_block I sc ls (child at 1) x X.0) (in_optional I sc ls (child at 2) o) t' X.2 in
        let l1 = a_block x ∷ below_block x in
        let A = expression_taken sc vs ls (child at 0) c t X.0 w (front_of names (below_expression c) (l1 ++ within_optional o) b) X.1 in
        let w1 = on vs sc A w in
        let b1 = behind_of names (length X.0.vars) (below_expression c) (l1 ++ within_optional o) A.count b in
        let B = body_taken sc vs ls (child at 1) x X.0 Y.0 w1 (front_of names l1 (within_optional o) b1) Y.1 in
        let D = optional_taken sc vs ls (child at 2) o Y.0 t' (on vs sc B w1) (behind_of names (length Y.0.vars) l1 (within_optional o) B.count b1) Y.2 in
        let n1 = binds_append (below_expression c) (l1 ++ within_optional o) in
        let n2 = binds_append (below_block x) (within_optional o) in
        in_turn3 A B D (omega (arith, n1, n2)) (λ _ _ _ k l r m i. takes_node s i (λ n q. takes_then (k false Site.Value) (λ c g. takes_then (l (numbering.branch_site i o)) (λ b h. takes_map (named.if n c b) (r (numbering.passed_on i)) (λ z j.
        record { named = (g.named, h, j); root = tt })))))
    expression_taken sc vs ls at (plain.if_let s p y x o) t t' w b e =
        let b0 : BoundSoFar = record { bindings = []; tables = t } in
        let g : BoundSoFar → Naming = λ b. in_expression I sc ls (child at 1) y >> in_block I (entered sc b.bindings) ls (child at 2) x >> in_optional I sc ls (child at 3) o in
        let Z = named_ok (in_pattern I (child at 0) p b0) (λ b. g b b.tables) t' e in
        let X = named_ok (in_expression I sc ls (child at 1) y Z.0.tables) (in_block I (entered sc Z.0.bindings) ls (child at 2) x >> in_optional I sc ls (child at 3) o) t' Z.2 in
        let Y = named_ok (in_block I (entered sc Z.0.bindings) ls (child at 2) x X.0) (in_optional I sc ls (child at 3) o) t' X.2 in
        let pn = a_pattern p ∷ below_pattern p in
        let l2 = a_block x ∷ below_block x in
        let l1 = an_expression y ∷ below_expression y in
        let P = pattern_taken C I N small S names (child at 0) p b0 Z.0 (front_of names pn (l1 ++ (l2 ++ within_optional o)) b) Z.1 in
        let w1 = on vs sc P.part w in
        let b1 = behind_of names (length Z.0.tables.vars) pn (l1 ++ (l2 ++ within_optional o)) P.part.count b in
        let A = expression_taken sc vs ls (child at 1) y Z.0.tables X.0 w1 (front_of names l1 (l2 ++ within_optional o) b1) X.1 in
        let b2 = behind_of names (length X.0.vars) l1 (l2 ++ within_optional o) A.count b1 in
        let ws = reverse P.numbers ++ vs in
        let B = body_taken (entered sc Z.0.bindings) ws ls (child at 2) x X.0 Y.0 (on ws (entered sc Z.0.bindings) A (with_pattern p t Z.0 vs sc P w)) (front_of names l2 (within_optional o) b2) Y.1 in
        let D = optional_taken sc vs ls (child at 3) o Y.0 t' (on vs sc B (on vs sc A w1)) (behind_of names (length Y.0.vars) l2 (within_optional o) B.count b2) Y.2 in
        let n0 = binds_append pn (l1 ++ (l2 ++ within_optional o)) in
        let n1 = binds_append (below_expression y) (l2 ++ within_optional o) in
        let n2 = binds_append (below_block x) (within_optional o) in
        in_turn4 P.part A B D (omega (arith, n0, n1, n2)) (λ _ _ _ _ k l r z m i. takes_node s i (λ n q. takes_quiet quiet_counted (λ u _. takes_then k (λ c g. takes_quiet quiet_counted (λ v _. takes_then (l false Site.Scrutinee) (λ d h.
        takes_quiet (quiet_between u v) (λ _ _. takes_then (in_scope (NBody (same_name names)) c P.numbers vs g (r (numbering.branch_site i o))) (λ b j. takes_map (named.if_let n c d b) (z (numbering.passed_on i)) (λ f y. record { named = (h.named, j, y); root = tt })))))))))
    expression_taken sc vs ls at (plain.match s x l) t t' w b e =
        let X = named_ok (in_expression I sc ls (child at 0) x t) (in_arms I sc ls at 1 l) t' e in
        let A = expression_taken sc vs ls (child at 0) x t X.0 w (front_of names (below_expression x) (within_arms l) b) X.1 in
        let B = arms_taken sc vs ls at 1 l X.0 t' (on vs sc A w) (behind_of names (length X.0.vars) (below_expression x) (within_arms l) A.count b) X.2 in
        in_turn A B (binds_append (below_expression x) (within_arms l)) (λ _ _ k l m i. takes_node s i (λ n q. takes_then (k false Site.Scrutinee) (λ c g. takes_map (named.match n c) (l (numbering.passed_on i)) (λ d h. record { named = (g.named, h); root = tt }))))
    expression_taken sc vs ls at (plain.loop s l x) t t' w b e =
        let p = position I at in
        in_new_loop p (body_taken sc vs (a_loop l (number (length t.loops)) ∷ ls) (child at 0) x (with_loop p t) t' w b e)
        (λ es k m i. takes_in_loop p (takes_node s i (λ n q. takes_quiet quiet_loop (λ j _. takes_last (k Site.Value) (λ c h. takes_quiet (quiet_is_left j) (λ z _. takes_give (named.loop n j z c) (record { named = h; root = tt })))))))
    expression_taken sc vs ls at (plain.while s l x d) t t' w b e =
        let p = position I at in
        let u = with_loop p t in
        let n = number (length t.loops) in
        let X = named_ok (in_expression I sc (a_test ∷ a_loop l n ∷ ls) (child at 0) x u) (in_block I sc (a_loop l n ∷ ls) (child at 1) d) t' e in
        let l1 = a_block d ∷ below_block d in
        let A = expression_taken sc vs (a_test ∷ a_loop l n ∷ ls) (child at 0) x u X.0 w (front_of names (below_expression x) l1 b) X.1 in
        let B = body_taken sc vs (a_loop l n ∷ ls) (child at 1) d X.0 t' (on vs sc A w) (behind_of names (length X.0.vars) (below_expression x) l1 A.count b) X.2 in
        in_new_loop {K = λ es. (m : Bool) (i : Site) → Takes (Fits (plain.while s l x d) vs) u t' es (of_expression m i (plain.while s l x d))} p (in_turn A B (binds_append (below_expression x) l1) (λ _ _ k r m i. takes_node s i (λ n q. takes_quiet quiet_loop (λ j _. takes_then (k false Site.Value) (λ c g. takes_map (named.while n j c) (r Site.Value) (λ d h. record { named = (g.named, h); root = tt }))))))
        (λ es k m i. takes_in_loop p (k m i))
    expression_taken sc vs ls at (plain.while_let s l p y x) t t' w b e =
        let q = position I at in
        let u = with_loop q t in
        let n = number (length t.loops) in
        let b0 : BoundSoFar = record { bindings = []; tables = u } in
        let g : BoundSoFar → Naming = λ b. in_expression I sc (a_test ∷ a_loop l n ∷ ls) (child at 1) y >> in_block I (entered sc b.bindings) (a_loop l n ∷ ls) (child at 2) x in
        let Z = named_ok (in_pattern I (child at 0) p b0) (λ b. g b b.tables) t' e in
        let X = named_ok (in_expression I sc (a_test ∷ a_loop l n ∷ ls) (child at 1) y Z.0.tables) (in_block I (entered sc Z.0.bindings) (a_loop l n ∷ ls) (child at 2) x) t' Z.2 in
        let pn = a_pattern p ∷ below_pattern p in
        let l2 = a_block x ∷ below_block x in
        let l1 = an_expression y ∷ below_expression y in
        let P = pattern_taken C I N small S names (child at 0) p b0 Z.0 (front_of names pn (l1 ++ l2) b) Z.1 in
        let w1 = on vs sc P.part w in
        let b1 = behind_of names (length Z.0.tables.vars) pn (l1 ++ l2) P.part.count b in
        let A = expression_taken sc vs (a_test ∷ a_loop l n ∷ ls) (child at 1) y Z.0.tables X.0 w1 (front_of names l1 l2 b1) X.1 in
        let ws = reverse P.numbers ++ vs in
        let B = body_taken (entered sc Z.0.bindings) ws (a_loop l n ∷ ls) (child at 2) x X.0 t' (on ws (entered sc Z.0.bindings) A (with_pattern p u Z.0 vs sc P w)) (behind_of names (length X.0.vars) l1 l2 A.count b1) X.2 in
        let n0 = binds_append pn (l1 ++ l2) in
        let n1 = binds_append (below_expression y) l2 in
        in_new_loop {K = λ es. (m : Bool) (i : Site) → Takes (Fits (plain.while_let s l p y x) vs) u t' es (of_expression m i (plain.while_let s l p y x))} q (in_turn3 P.part A B (omega (arith, n0, n1)) (λ _ _ _ k l r m i. takes_node s i (λ n q. takes_quiet quiet_loop (λ j _. takes_quiet quiet_counted (λ u _. takes_then k (λ c g. takes_quiet quiet_counted (λ v _. takes_then (l false Site.Scrutinee) (λ d h.
        takes_quiet (quiet_between u v) (λ _ _. takes_map (named.while_let n j c d) (in_scope (NBody (same_name names)) c P.numbers vs g (r Site.Value)) (λ b z. record { named = (h.named, z); root = tt }))))))))))
        (λ es k m i. takes_in_loop q (k m i))
    expression_taken sc vs ls at (plain.break s l) t t' w b e =
        restated (one_part N I at t t' (led s l (target l ls)) e).part refl (λ es k m i. takes_node s i (λ n q. takes_last k (λ ns h. takes_quiet (quiet_leads (first ns.0)) (λ _ _. takes_give (named.break n (first ns.0)) (record { named = tt; root = tt })))))
    expression_taken sc vs ls at (plain.continue s l) t t' w b e =
        restated (one_part N I at t t' (led s l (target l ls)) e).part refl (λ es k m i. takes_node s i (λ n q. takes_map (λ ns. named.continue n (first ns.0)) k (λ ns h. record { named = tt; root = tt })))
    expression_taken sc vs ls at (plain.return s o) t t' w b e =
        restated (optional_taken sc vs ls (child at 0) o t t' w b e) refl (λ es k m i. takes_node s i (λ n q. takes_map (named.return n) (k Site.Expects) (λ c h. record { named = h; root = tt })))

    all_taken : (sc : Variables) (vs : List ℕ) (ls : List Around) (at : List ℕ) (j : ℕ) (es : Expressions) (t t' : ItemNames) → Scope vs sc t → Bound names (length t.vars) (within_expressions es) → in_expressions I sc ls at j es t ≡ Ok t' → AllTaken es vs t t'
    all_taken sc vs ls at j plain.no_expression t t' w b e = unchanged N t t' (λ u fs. (i : Site) → Takes (NExps (same_name names) vs) t u fs (numbering.of_expressions i plain.no_expression)) e (λ i. takes_give named.no_exp tt)
    all_taken sc vs ls at j (plain.expression_and x es) t t' w b e =
        let X = named_ok (in_expression I sc ls (child at j) x t) (in_expressions I sc ls at (next j) es) t' e in
        let A = expression_taken sc vs ls (child at j) x t X.0 w (front_of names (below_expression x) (within_expressions es) b) X.1 in
        let B = all_taken sc vs ls at (next j) es X.0 t' (on vs sc A w) (behind_of names (length X.0.vars) (below_expression x) (within_expressions es) A.count b) X.2 in
        in_turn A B (binds_append (below_expression x) (within_expressions es)) (λ _ _ k l i. takes_then (k false i) (λ c g. takes_map (named.exp_and c) (l i) (λ d h. (g.named, h))))

    optional_taken : (sc : Variables) (vs : List ℕ) (ls : List Around) (at : List ℕ) (o : OptionalExpression) (t t' : ItemNames) → Scope vs sc t → Bound names (length t.vars) (within_optional o) → in_optional I sc ls at o t ≡ Ok t' → OptionalTaken o vs t t'
    optional_taken sc vs ls at plain.absent t t' w b e = unchanged N t t' (λ u fs. (i : Site) → Takes (NElse (same_name names) vs) t u fs (numbering.of_optional i plain.absent)) e (λ i. takes_give named.absent tt)
    optional_taken sc vs ls at (plain.present x) t t' w b e = restated (expression_taken sc vs ls at x t t' w b e) refl (λ es k i. takes_map (λ z. named.present z) (k false i) (λ c h. h.named))

    arguments_taken : (sc : Variables) (vs : List ℕ) (ls : List Around) (at : List ℕ) (o : OptionalExpressions) (t t' : ItemNames) → Scope vs sc t → Bound names (length t.vars) (within_arguments o) → in_arguments I sc ls at o t ≡ Ok t' → ArgumentsTaken o vs t t'
    arguments_taken sc vs ls at plain.no_list t t' w b e = unchanged N t t' (λ u fs. Takes (NExps (same_name names) vs) t u fs (numbering.of_arguments plain.no_list)) e (takes_give named.no_exp tt)
    arguments_taken sc vs ls at (plain.a_list es) t t' w b e = restated (all_taken sc vs ls at 0 es t t' w b e) refl (λ fs k. k Site.Expects)

    fields_taken : (sc : Variables) (vs : List ℕ) (ls : List Around) (at : List ℕ) (j : ℕ) (fs : FieldExpressions) (t t' : ItemNames) → Scope vs sc t → Bound names (length t.vars) (within_fields fs) → in_fields I sc ls at j fs t ≡ Ok t' → FieldsTaken fs vs t t'
    fields_taken sc vs ls at j plain.no_field t t' w b e = unchanged N t t' (λ u fs. Takes (NFields (same_name names) vs) t u fs (numbering.of_fields plain.no_field)) e (takes_give named.no_field tt)
    fields_taken sc vs ls at j (plain.field_and y x fs) t t' w b e =
        let X = named_ok (in_expression I sc ls (child at j) x t) (in_fields I sc ls at (next j) fs) t' e in
        let A = expression_taken sc vs ls (child at j) x t X.0 w (front_of names (below_expression x) (within_fields fs) b) X.1 in
        let B = fields_taken sc vs ls at (next j) fs X.0 t' (on vs sc A w) (behind_of names (length X.0.vars) (below_expression x) (within_fields fs) A.count b) X.2 in
        in_turn A B (binds_append (below_expression x) (within_fields fs)) (λ _ _ k l. takes_then (k false Site.Expects) (λ c g. takes_map (named.field_and y.name c) l (λ d h. (g.named, h))))

    arms_taken : (sc : Variables) (vs : List ℕ) (ls : List Around) (at : List ℕ) (j : ℕ) (l : Arms) (t t' : ItemNames) → Scope vs sc t → Bound names (length t.vars) (within_arms l) → in_arms I sc ls at j l t ≡ Ok t' → ArmsTaken l vs t t'
    arms_taken sc vs ls at j plain.no_arm t t' w b e = unchanged N t t' (λ u fs. (i : Site) → Takes (NArms (same_name names) vs) t u fs (numbering.of_arms i plain.no_arm)) e (λ i. takes_give named.no_arm tt)
    arms_taken sc vs ls at j (plain.arm_and p x l) t t' w b e =
        let b0 : BoundSoFar = record { bindings = []; tables = t } in
        let V = named_ok (pattern_then I (child at j) p (λ ds. in_expression I (entered sc ds) ls (child at (next j)) x) t) (in_arms I sc ls at (next (next j)) l) t' e in
        let Z = named_ok (in_pattern I (child at j) p b0) (λ b. in_expression I (entered sc b.bindings) ls (child at (next j)) x b.tables) V.0 V.1 in
        let pn = a_pattern p ∷ below_pattern p in
        let l1 = an_expression x ∷ below_expression x in
        let P = pattern_taken C I N small S names (child at j) p b0 Z.0 (front_of names pn (l1 ++ within_arms l) b) Z.1 in
        let w1 = on vs sc P.part w in
        let b1 = behind_of names (length Z.0.tables.vars) pn (l1 ++ within_arms l) P.part.count b in
        let ws = reverse P.numbers ++ vs in
        let A = expression_taken (entered sc Z.0.bindings) ws ls (child at (next j)) x Z.0.tables V.0 (with_pattern p t Z.0 vs sc P w) (front_of names l1 (within_arms l) b1) Z.2 in
        let B = arms_taken sc vs ls at (next (next j)) l V.0 t' (on vs sc A w1) (behind_of names (length V.0.vars) l1 (within_arms l) A.count b1) V.2 in
        let n0 = binds_append pn (l1 ++ within_arms l) in
        let n1 = binds_append (below_expression x) (within_arms l) in
        in_turn3 P.part A B (omega (arith, n0, n1)) (λ _ _ _ k l r i. takes_quiet quiet_counted (λ u _. takes_then k (λ c g. takes_quiet quiet_counted (λ v _. takes_quiet (quiet_between u v) (λ _ _.
        takes_then (in_scope (Fits x) c P.numbers vs g (l false i)) (λ d h. takes_map (named.arm_and c d) (r i) (λ f y. (h.named, y))))))))

    pub body_taken : (sc : Variables) (vs : List ℕ) (ls : List Around) (at : List ℕ) (b : Body) (t t' : ItemNames) → Scope vs sc t → Bound names (length t.vars) (below_block b) → in_block I sc ls at b t ≡ Ok t' → BodyTaken b vs t t'
    body_taken sc vs ls at (plain.body s ss o) t t' w b e =
        let X = named_ok (in_statements I sc ls at 0 ss t) (λ r. in_optional I r.scope ls (child at (number (length (listed ss)))) o r.tables) t' e in
        let A = statements_taken sc vs ls at 0 ss t X.0 w (front_of names (within_statements ss) (within_optional o) b) X.1 in
        let B = optional_taken X.0.scope A.after ls (child at (number (length (listed ss)))) o X.0.tables t' A.scope (behind_of names (length X.0.tables.vars) (within_statements ss) (within_optional o) A.part.count b) X.2 in
        in_turn A.part B (binds_append (within_statements ss) (within_optional o)) (λ _ _ k l i. takes_node s i (λ n q. takes_then k (λ c g. takes_map (named.body n c) (l i) (λ d h. (A.after, g, h)))))

    statements_taken : (sc : Variables) (vs : List ℕ) (ls : List Around) (at : List ℕ) (j : ℕ) (ss : Statements) (t : ItemNames) (r : Scoped) → Scope vs sc t → Bound names (length t.vars) (within_statements ss) → in_statements I sc ls at j ss t ≡ Ok r → StatementsTaken ss vs t r
    statements_taken sc vs ls at j plain.no_statement t r w b e =
        subst (λ (z : Scoped). StatementsTaken plain.no_statement vs t z) (the_same (record { scope = sc; tables = t }) r e)
        (record { after = vs; scope = w; part = record { added = []; grown = sym (append-nil t.names); count = omega arith; numbers = λ _. takes_give named.no_statement refl } })
    statements_taken sc vs ls at j (plain.statement_and a ss) t r w b e =
        let X = named_ok (in_statement I sc ls (child at j) a t) (λ r. in_statements I r.scope ls at (next j) ss r.tables) r e in
        let A = statement_taken sc vs ls (child at j) a t X.0 w (front_of names (below_statement a) (within_statements ss) b) X.1 in
        let B = statements_taken X.0.scope A.after ls at (next j) ss X.0.tables r A.scope (behind_of names (length X.0.tables.vars) (below_statement a) (within_statements ss) A.part.count b) X.2 in
        record {
          after = B.after;
          scope = B.scope;
          part = in_turn A.part B.part (binds_append (below_statement a) (within_statements ss)) (λ _ _ k l. takes_then k (λ c g. takes_map (named.statement_and c) l
              (λ d h. (g.named, subst (λ (us : List ℕ). NRow (same_name names) us d B.after) (sym g.scope) h))));
        }

    statement_taken : (sc : Variables) (vs : List ℕ) (ls : List Around) (at : List ℕ) (a : Statement) (t : ItemNames) (r : Scoped) → Scope vs sc t → Bound names (length t.vars) (below_statement a) → in_statement I sc ls at a t ≡ Ok r → StatementTaken a vs t r
    statement_taken sc vs ls at (plain.let_statement s p y plain.absent) t r w b e =
        let_part at s p y plain.absent sc vs ls t r w b (λ at t t' w b e. unchanged N t t' (λ u fs. (i : Site) → Takes (NElse (same_name names) vs) t u fs (numbering.of_optional i plain.absent)) e (λ i. takes_give named.absent tt)) e
    statement_taken sc vs ls at (plain.let_statement s p y (plain.present x)) t r w b e =
        let_part at s p y (plain.present x) sc vs ls t r w b (λ at t t' w b e. restated (expression_taken sc vs ls at x t t' w b e) refl (λ es k i. takes_map (λ z. named.present z) (k false i) (λ c h. h.named))) e
    statement_taken sc vs ls at (plain.expression_statement s x m) t r w b e =
        let X = named_ok (in_expression I sc ls (child at 0) x t) (λ t. Ok (record { scope = sc; tables = t })) r e in
        let A = expression_taken sc vs ls (child at 0) x t X.0 w b X.1 in
        subst (λ (z : Scoped). StatementTaken (plain.expression_statement s x m) vs t z) (the_same (record { scope = sc; tables = X.0 }) r X.2)
        (record { after = vs; scope = on vs sc A w; part = restated A refl (λ _ k. takes_node s Site.Value (λ n q. takes_map (λ z. named.evaluates n z m) (k false Site.Value) (λ c h. record { named = h.named; scope = refl }))) })
