-- Expressions, statements and blocks whose names have a meaning, as parts of trees with numbers. Along resolving and numbering, by the names
-- of all variables of the function.
use Rattle.std.proofs.Common.{◌≡◌, ℕ, suc, ◌+◌, ◌≤◌, Bool, true, false, ◌&&◌, if◌then◌else◌, List, [], ◌∷◌, ◌++◌, length, reverse, Option, Some, None, Ok, refl, sym, ap, ◌∙◌, subst, append-nil, slice_get, arith, codes}
use Rattle.std.specs.Str.{bytes_eq}
use Rattle.std.proofs.lemmas.Slice.Eq.{bytes_eq-Decides}
use Rattle.rx_core.specs.declared.types.Span.{Span}
use Rattle.rx_core.specs.declared.types.Position.{Position}
use Rattle.rx_tree.specs.declared.tree.Ident.{Ident}
use Rattle.rx_tree.specs.Lists.{listed}
use Rattle.rx_tree.specs.Plain as plain
use Rattle.rx_tree.specs.Plain.{TypeTree, PatternTree, Expression, Expressions, OptionalExpression, OptionalExpressions, FieldExpressions, Arms, Body, Statement, Statements}
use Rattle.rx_tree.specs.Positions.{a_pattern, an_expression, a_block, optional_type_nodes}
use Rattle.rx_tree.specs.Nodes.{below_pattern, below_expression, below_block, below_statement, within_type, within_expressions, within_optional, within_arguments, within_fields, within_arms, within_statements}
use Rattle.rx_resolve_names.specs.Scopes.{DeclaredNames, Variables, variable_named, entered}
use Rattle.rx_resolve_names.specs.declared.resolved.ItemNames.{ItemNames}
use Rattle.rx_resolve_names.specs.declared.resolved.NodeNames.{NodeNames}
use Rattle.rx_resolve_names.specs.Meant.{number, type_name, function_name, item_named, as_function, as_rt, Around, a_loop, a_test, target, to_loop, out_of_test, nowhere, Target}
use Rattle.rx_resolve_names.specs.Steps.{and_then, Naming, ◌>>◌, Inside, known, one, led, child, next, with_loop, with_names, position, numbered, names as naming}
use Rattle.rx_resolve_names.specs.Names.{variant_in, struct_in, Bound as BoundSoFar, in_pattern, pattern_then, callee, rt_span, in_optional_type, initialiser_at, Scoped, in_expression, in_expressions, in_optional, in_arguments, in_fields, in_arms, in_block, in_statements, in_statement}
use Rattle.rx_typed.specs.declared.nodes.Node.{Node}
use Rattle.rx_typed.specs.declared.nodes.Site.{Site}
use Rattle.rx_typed.specs.declared.nodes.Stage.{Stage}
use Rattle.rx_typed.specs.Named as named
use Rattle.rx_typed.specs.Named.{Exp, node_of, root}
use Rattle.rx_typed.specs.Naming as numbering
use Rattle.rx_typed.specs.Naming.{give, an_entry, first, second, of_expression}
use Rattle.rx_typed.specs.Elaborated.{variables}
use Rattle.rx_lower_walks.specs.Walks.{Among, here, there}
use Rattle.rx_exits.specs.Refusing.{same_name}
use Rattle.rx_hoist_nodes.specs.Nodes.{within_all}
use Rattle.rx_hoist_extraction.specs.Names.{bound}
use Rattle.rx_hoist_meant.specs.NamesMeant.{MeansIt}
use Rattle.rx_hoist_naming.proofs.Claims.{Claims, OfAnnotation}
use Rattle.rx_hoist_naming.proofs.Steps as old
use Rattle.rx_hoist_naming.proofs.Steps.{named_ok, the_same, binds, binds_append, IsEntry, at_entry, from_zero, entry_part}
use Rattle.rx_hoist_naming.proofs.TypeLemmas.{no_result_binds, Sees, one_part, optional_type_taken}
use Rattle.rx_hoist_meant.proofs.Scopes.{Bound, front_of, behind_of, ScopeIs, scope_means}
use Rattle.rx_hoist_meant.specs.Stands as stands
use Rattle.rx_hoist_meant.specs.Stands.{BlockComes, ScopeMeans, StandsPattern, StandsExp, StandsExps, StandsElse, StandsArguments, StandsFields, StandsArms, StandsBody, StandsStatement, StandsRow, IsFunction, brought, loop_numbers}
use Rattle.rx_hoist_meant.proofs.Steps.{Takes, takes_then, takes_last, takes_give, takes_map, takes_node, takes_made, takes_quiet, quiet_counted, quiet_between, quiet_annotates, quiet_leads, quiet_is_left, quiet_gives_here, quiet_waits, quiet_use, Quiet, takes_loop, entry_number, entry_loops, counted_too, Part, still_part, restated, unchanged, in_turn, in_turn3, in_turn4, in_new_loop}
use Rattle.rx_hoist_meant.proofs.Loops.{callee_keeps, from, names_keep, optional_type_keeps, optional_type_still, type_size}
use Rattle.rx_hoist_meant.proofs.Patterns.{Below, below_entered, below_more, none_among, pattern_part, PatternPart}

-- a scope that is told by numbers
pub scope_told : (names : List (List ℕ)) (vs : List ℕ) (sc : Variables) → ScopeIs names vs sc → ScopeMeans names vs sc
scope_told names [] [] h = record { numbers = refl; words = refl }
scope_told names [] (v ∷ sc) h = absurd h
scope_told names (x ∷ vs) [] h = absurd h
scope_told names (x ∷ vs) (v ∷ sc) h =
    let r = scope_told names vs sc h.2 in
    record { numbers = (λ j. h.0 j ∷ r.numbers j); words = (λ j. h.1 j ∷ r.words j) }

known_is : (o : Option ℕ) (s : Span) (n : ℕ) → known o s ≡ Ok n → o ≡ Some n
known_is None s n e = absurd (cc)
known_is (Some m) s n e = ap (λ (z : ℕ). Some z) (the_same m n e)

led_is : (s : Span) (l : Option Ident) (r : Target) (n : ℕ) → led s l r ≡ Ok n → r ≡ to_loop n
led_is s l (to_loop m) n e = ap (λ (z : ℕ). to_loop z) (the_same m n e)
led_is s l out_of_test n e = absurd (cc)
led_is s None nowhere n e = absurd (cc)
led_is s (Some x) nowhere n e = absurd (cc)

least_number : (n : ℕ) → suc n ≤ 4294967295 → number n ≡ n
least_number n l = omega (arith, l)

module _ (C : Claims) (I : Inside) (N M : ℕ) (small : N ≤ 4294967295) (little : M ≤ 4294967295) (S : Sees C I N) (names : List (List ℕ)) where
  -- of a variable in this scope that has this name
  abbrev In : List ℕ → List ℕ → Claims
  In vs x = record { item = λ i. Unit {0}; variable = λ k. (slice_get names k ≡ Some x) × MeansIt (same_name names) vs k }

  -- the variable that is the whole of a place
  abbrev pub RootIs : List ℕ → Expression → Exp → Type 0
  RootIs vs (plain.var s x) a = (slice_get names (root a).number ≡ Some x) × MeansIt (same_name names) vs (root a).number
  RootIs vs _ a = Unit {0}

  pub record Fits (e : Expression) (vs : List ℕ) (ls : List Around) (i j : ℕ) (a : Exp) : Type 0 where
    pub stands : StandsExp I names vs ls i j e a
    pub root : RootIs vs e a

  abbrev pub ExpTaken : Expression → List ℕ → List Around → ItemNames → ItemNames → Type 0
  ExpTaken e vs ls t t' = Part N M t t' (binds (below_expression e)) (λ es. (i : ℕ) (m : Bool) (p : Site) → Takes i (λ j a. Fits e vs ls i j a) t t' es (of_expression m p e))

  abbrev AllTaken : Expressions → List ℕ → List Around → ItemNames → ItemNames → Type 0
  AllTaken es vs ls t t' = Part N M t t' (binds (within_expressions es)) (λ fs. (i : ℕ) (p : Site) → Takes i (λ j a. StandsExps I names vs ls i j es a) t t' fs (numbering.of_expressions p es))

  abbrev OptionalTaken : OptionalExpression → List ℕ → List Around → ItemNames → ItemNames → Type 0
  OptionalTaken o vs ls t t' = Part N M t t' (binds (within_optional o)) (λ fs. (i : ℕ) (p : Site) → Takes i (λ j a. StandsElse I names vs ls i j o a) t t' fs (numbering.of_optional p o))

  abbrev ArgumentsTaken : OptionalExpressions → List ℕ → List Around → ItemNames → ItemNames → Type 0
  ArgumentsTaken o vs ls t t' = Part N M t t' (binds (within_arguments o)) (λ fs. (i : ℕ) → Takes i (λ j a. StandsArguments I names vs ls i j o a) t t' fs (numbering.of_arguments o))

  abbrev FieldsTaken : FieldExpressions → List ℕ → List Around → ItemNames → ItemNames → Type 0
  FieldsTaken fs vs ls t t' = Part N M t t' (binds (within_fields fs)) (λ gs. (i : ℕ) → Takes i (λ j a. StandsFields I names vs ls i j fs a) t t' gs (numbering.of_fields fs))

  abbrev ArmsTaken : Arms → List ℕ → List Around → ItemNames → ItemNames → Type 0
  ArmsTaken l vs ls t t' = Part N M t t' (binds (within_arms l)) (λ fs. (i : ℕ) (p : Site) → Takes i (λ j a. StandsArms I names vs ls i j l a) t t' fs (numbering.of_arms p l))

  abbrev pub BodyTaken : Body → List ℕ → List Around → ItemNames → ItemNames → Type 0
  BodyTaken b vs ls t t' = Part N M t t' (binds (below_block b)) (λ fs. (i : ℕ) (p : Site) → Takes i (λ j a. StandsBody I names vs ls i j b a) t t' fs (numbering.of_body p b))

  -- a statement brings a scope to another
  record Stated (vs : List ℕ) (ls : List Around) (after : List ℕ) (i j : ℕ) (a : Statement) (x : named.Statement) : Type 0 where
    stands : StandsStatement I names vs ls i j a x
    scope : reverse (brought x) ++ vs ≡ after

  -- a scope that is there, where there are few variables; all of them were declared
  abbrev pub Scope : List ℕ → List Around → Variables → ItemNames → Type 0
  Scope vs ls sc t = (length t.vars ≤ N → ScopeIs names vs sc × Below (length t.vars) vs) × Below (length t.loops) (loop_numbers ls)

  record StatementTaken (a : Statement) (vs : List ℕ) (ls : List Around) (t : ItemNames) (r : Scoped) : Type 0 where
    after : List ℕ
    scope : Scope after ls r.scope r.tables
    part : Part N M t r.tables (binds (below_statement a)) (λ fs. (i : ℕ) → Takes i (λ j x. Stated vs ls after i j a x) t r.tables fs (numbering.of_statement a))

  record StatementsTaken (ss : Statements) (vs : List ℕ) (ls : List Around) (t : ItemNames) (r : Scoped) : Type 0 where
    after : List ℕ
    scope : Scope after ls r.scope r.tables
    part : Part N M t r.tables (binds (within_statements ss)) (λ fs. (i : ℕ) → Takes i (λ j (x : named.Statements). StandsRow I names vs ls i j ss x after) t r.tables fs (numbering.of_statements ss))

  on : {t t1 : ItemNames} {k : ℕ} {K : List NodeNames → Type 0} (vs : List ℕ) (ls : List Around) (sc : Variables) → Part N M t t1 k K → Scope vs ls sc t → Scope vs ls sc t1
  on {t} {t1} vs ls sc a w = (
    λ m. let c = a.count in let few : length t.vars ≤ N = omega (arith, c, m) in let s = w.0 few in (s.0, below_more (length t.vars) (length t1.vars) vs (omega (arith, c)) s.1),
    below_more (length t.loops) (length t1.loops) (loop_numbers ls) a.rising w.1,
  )

  -- within a new loop
  around_loop : (t : ItemNames) (vs : List ℕ) (l : Option Ident) (ls : List Around) (sc : Variables) (f : Position) → Scope vs ls sc t → Scope vs (a_loop l (number (length t.loops)) ∷ ls) sc (with_loop f t)
  around_loop t vs l ls sc f w = (w.0, subst (λ (n : ℕ). Below n (number (length t.loops) ∷ loop_numbers ls)) (sym (old.one_more t.loops f)) (below_first (length t.loops) (loop_numbers ls) w.1))
    where
      below_first : (n : ℕ) (ns : List ℕ) → Below n ns → Below (suc n) (number n ∷ ns)
      below_first n ns h _ here = omega arith
      below_first n ns h x (there i) = let k = h x i in omega (arith, k)

  -- its number is new
  new_loop : (t : ItemNames) (vs : List ℕ) (ls : List Around) (sc : Variables) → Scope vs ls sc t → suc (length t.loops) ≤ M → Among (number (length t.loops)) (loop_numbers ls) → ⊥
  new_loop t vs ls sc w few i = let a = w.1 (number (length t.loops)) i in let b = least_number (length t.loops) (omega (arith, few, little)) in omega (arith, a, b)

  abbrev PatternIs : PatternTree → ItemNames → BoundSoFar → Type 0
  PatternIs p t b1 = PatternPart C I N M small S names p t b1

  -- the part of a pattern in this scope
  patterned : {p : PatternTree} {t : ItemNames} {b1 : BoundSoFar} (vs : List ℕ) (ls : List Around) (sc : Variables) (P : PatternIs p t b1) → Scope vs ls sc t
      → Part N M t b1.tables (binds (a_pattern p ∷ below_pattern p)) (λ es. (i : ℕ) → Takes i (λ j c. StandsPattern names vs i j p c × (variables c ≡ from (length t.vars) (bound p))) t b1.tables es (numbering.of_pattern p))
  patterned vs ls sc P w = P.part vs (λ m. (w.0 m).1)

  -- what is in scope behind it
  abbrev pub Entered : PatternTree → ItemNames → List ℕ → List ℕ
  Entered p t vs = reverse (from (length t.vars) (bound p)) ++ vs

  with_pattern : {p : PatternTree} {t : ItemNames} {b1 : BoundSoFar} (vs : List ℕ) (ls : List Around) (sc : Variables) (P : PatternIs p t b1) → Scope vs ls sc t → Scope (Entered p t vs) ls (entered sc b1.bindings) b1.tables
  with_pattern {p} {t} {b1} vs ls sc P w = (
    λ m. let c = P.count in let few : length t.vars ≤ N = omega (arith, c, m) in let s = w.0 few in (P.scope vs sc m s.0, below_entered (length t.vars) (length b1.tables.vars) (bound p) vs c s.1),
    (let e = P.same_loops in below_more (length t.loops) (length b1.tables.loops) (loop_numbers ls) (omega (arith, e)) w.1),
  )

  -- a part in the scope that a pattern makes
  in_scope : {A : Type 0} {i : ℕ} {t t' : ItemNames} {es : List NodeNames} {m : numbering.Numbering A} (T : List ℕ → ℕ → A → Type 0) (c : named.Pattern) (ns vs : List ℕ) → variables c ≡ ns
      → Takes i (T (reverse ns ++ vs)) t t' es m → Takes i (T (reverse (variables c) ++ vs)) t t' es m
  in_scope {i = i} {t = t} {t' = t'} {es = es} {m = m} T c ns vs e h = subst (λ (l : List ℕ). Takes i (T (reverse l ++ vs)) t t' es m) (sym e) h

  -- an entry: no node, no loop
  entry_taken : {t t' : ItemNames} {es : List NodeNames} {Q : (List ℕ × Bool) → Type 0} → old.Takes Q t t' es an_entry → length t'.loops ≡ length t.loops → (i : ℕ) → Takes i (λ j a. (j ≡ i + 0) × Q a) t t' es an_entry
  entry_taken k same i = counted_too 0 k (λ c. entry_is c) (λ c. entry_loops c) same i
    where
      entry_is : (c : numbering.Cursor) → (an_entry c).1.number ≡ c.number + 0
      entry_is c = let e = entry_number c in omega (arith, e)

  -- what stands at this number stands at that
  from_same : {A : Type 0} {i j : ℕ} {T : ℕ → A → Type 0} {t t' : ItemNames} {es : List NodeNames} {m : numbering.Numbering A} → j ≡ i + 0 → Takes i T t t' es m → Takes j T t t' es m
  from_same {i = i} {j = j} {T = T} {t = t} {t' = t'} {es = es} {m = m} e h = let same : i ≡ j = omega (arith, e) in subst (λ (k : ℕ). Takes k T t t' es m) same h

  -- ---- what is no recursion

  -- what the entry of a callee tells
  abbrev CalleeIs : List ℕ → List ℕ → (List ℕ × Bool) → Type 0
  CalleeIs vs x a = a.1 ≡ false → IsFunction I names vs x (first a.0)

  called_taken : {t t' : ItemNames} {es : List NodeNames} (vs : List ℕ) (ls : List Around) (i : ℕ) (n : Node) → n.number ≡ i → (a : List ℕ × Bool) (s : Span) (g : Ident) (xs : Expressions) → CalleeIs vs g.name a
      → ((p : Site) → Takes (suc i) (λ j x. StandsExps I names vs ls (suc i) j xs x) t t' es (numbering.of_expressions p xs))
      → Takes (suc i) (λ j x. Fits (plain.call s g xs) vs ls i j x) t t' es (numbering.called n a (λ k. numbering.of_expressions k xs))
  called_taken vs ls i n q (ns, true) s g xs f k = takes_map (named.hidden_call n) (k Site.Value) (λ j b h. record { stands = stands.s_hidden q h; root = tt })
  called_taken vs ls i n q (ns, false) s g xs f k = takes_map (named.call n (first ns)) (k Site.Expects) (λ j b h. record { stands = stands.s_call q (f refl) h; root = tt })

  -- the one that waits for its type, which is the whole left side
  abbrev WaitsIs : List ℕ → Expression → Option (ℕ × ℕ) → Type 0
  WaitsIs vs (plain.var s x) None = Unit {0}
  WaitsIs vs (plain.var s x) (Some w) = (slice_get names w.0 ≡ Some x) × MeansIt (same_name names) vs w.0
  WaitsIs vs _ None = Unit {0}
  WaitsIs vs _ (Some w) = ⊥

  -- where a variable stands alone its node is one
  left_side : (vs : List ℕ) (ls : List Around) (i j : ℕ) (s : Span) (x : List ℕ) (a : Exp) → StandsExp I names vs ls i j (plain.var s x) a → j ≡ suc i
  left_side vs ls i _ s x _ (stands.s_var q e h) = refl

  waits_is : (vs : List ℕ) (p : Expression) (q : Exp) (c : numbering.Cursor) → RootIs vs p q → WaitsIs vs p (numbering.waits_in p (root q).number c)
  waits_is vs (plain.var s x) q c h = by (numbering.declaration c (root q).number).stage
    where
      by : (g : Stage) → WaitsIs vs (plain.var s x) (numbering.waiting (root q).number g)
      by Stage.Known = tt
      by Stage.Given = tt
      by (Stage.Waits a b) = h
  waits_is vs (plain.int s v k) q c h = tt
  waits_is vs (plain.bool s b) q c h = tt
  waits_is vs (plain.tuple s es) q c h = tt
  waits_is vs (plain.field s e x) q c h = tt
  waits_is vs (plain.part s e i) q c h = tt
  waits_is vs (plain.deref s e) q c h = tt
  waits_is vs (plain.negate s e) q c h = tt
  waits_is vs (plain.invert s e) q c h = tt
  waits_is vs (plain.borrow s m e) q c h = tt
  waits_is vs (plain.binary s o a b) q c h = tt
  waits_is vs (plain.assign s a b) q c h = tt
  waits_is vs (plain.update s o a b) q c h = tt
  waits_is vs (plain.call s g es) q c h = tt
  waits_is vs (plain.next_input s) q c h = tt
  waits_is vs (plain.variant s a v es) q c h = tt
  waits_is vs (plain.make s x fs) q c h = tt
  waits_is vs (plain.print s e) q c h = tt
  waits_is vs (plain.block s b) q c h = tt
  waits_is vs (plain.if s a b o) q c h = tt
  waits_is vs (plain.if_let s p e b o) q c h = tt
  waits_is vs (plain.match s e l) q c h = tt
  waits_is vs (plain.loop s l b) q c h = tt
  waits_is vs (plain.while s l a b) q c h = tt
  waits_is vs (plain.while_let s l p e b) q c h = tt
  waits_is vs (plain.break s l) q c h = tt
  waits_is vs (plain.continue s l) q c h = tt
  waits_is vs (plain.return s o) q c h = tt

  quiet_waits_for : (vs : List ℕ) (p : Expression) (q : Exp) → RootIs vs p q → Quiet (λ (w : Option (ℕ × ℕ)). WaitsIs vs p w) (numbering.waits_for p q)
  quiet_waits_for vs p q h = record { fits = λ c. waits_is vs p q c h; names = λ c. refl; still = λ c. (refl, refl, refl, refl) }

  assigned_taken : {t t' : ItemNames} {es : List NodeNames} (vs : List ℕ) (ls : List Around) (i k : ℕ) (n : Node) → n.number ≡ i → (s : Span) (p e : Expression) (x : Exp) (w : Option (ℕ × ℕ)) → Fits p vs ls (suc i) k x → WaitsIs vs p w
      → ((m : Site) → Takes k (λ j y. Fits e vs ls k j y) t t' es (of_expression false m e)) → Takes k (λ j y. Fits (plain.assign s p e) vs ls i j y) t t' es (numbering.assigned n x w (λ m. of_expression false m e))
  assigned_taken vs ls i k n q s p e x None h w f = takes_map (named.assign n x) (f Site.Expects) (λ j a g. record { stands = stands.s_assign q h.stands g.stands; root = tt })
  assigned_taken {t} {t'} {es} vs ls i k n q s (plain.var z y) e x (Some w) h v f =
      let two : k ≡ suc (suc i) = left_side vs ls (suc i) k z y x h.stands in
      takes_last (f Site.Reborrows) (λ j a g. takes_quiet (quiet_use (λ (u : ℕ). (slice_get names u ≡ Some y) × MeansIt (same_name names) vs u) w.0 v) (λ u o. takes_quiet (quiet_gives_here w.0) (λ d _.
      takes_give (named.gives n (node_of x) u d a) (record { stands = stands.s_gives q o.0 o.1 (subst (λ (m : ℕ). StandsExp I names vs ls m j e a) two g.stands); root = tt }))))
  assigned_taken vs ls i k n q s (plain.int s1 v1 k1) e x (Some w) h v f = absurd v
  assigned_taken vs ls i k n q s (plain.bool s1 b1) e x (Some w) h v f = absurd v
  assigned_taken vs ls i k n q s (plain.tuple s1 es1) e x (Some w) h v f = absurd v
  assigned_taken vs ls i k n q s (plain.field s1 e1 x1) e x (Some w) h v f = absurd v
  assigned_taken vs ls i k n q s (plain.part s1 e1 i1) e x (Some w) h v f = absurd v
  assigned_taken vs ls i k n q s (plain.deref s1 e1) e x (Some w) h v f = absurd v
  assigned_taken vs ls i k n q s (plain.negate s1 e1) e x (Some w) h v f = absurd v
  assigned_taken vs ls i k n q s (plain.invert s1 e1) e x (Some w) h v f = absurd v
  assigned_taken vs ls i k n q s (plain.borrow s1 m1 e1) e x (Some w) h v f = absurd v
  assigned_taken vs ls i k n q s (plain.binary s1 o1 a1 b1) e x (Some w) h v f = absurd v
  assigned_taken vs ls i k n q s (plain.assign s1 a1 b1) e x (Some w) h v f = absurd v
  assigned_taken vs ls i k n q s (plain.update s1 o1 a1 b1) e x (Some w) h v f = absurd v
  assigned_taken vs ls i k n q s (plain.call s1 g1 es1) e x (Some w) h v f = absurd v
  assigned_taken vs ls i k n q s (plain.next_input s1) e x (Some w) h v f = absurd v
  assigned_taken vs ls i k n q s (plain.variant s1 a1 v1 es1) e x (Some w) h v f = absurd v
  assigned_taken vs ls i k n q s (plain.make s1 x1 fs1) e x (Some w) h v f = absurd v
  assigned_taken vs ls i k n q s (plain.print s1 e1) e x (Some w) h v f = absurd v
  assigned_taken vs ls i k n q s (plain.block s1 b1) e x (Some w) h v f = absurd v
  assigned_taken vs ls i k n q s (plain.if s1 a1 b1 o1) e x (Some w) h v f = absurd v
  assigned_taken vs ls i k n q s (plain.if_let s1 p1 e1 b1 o1) e x (Some w) h v f = absurd v
  assigned_taken vs ls i k n q s (plain.match s1 e1 l1) e x (Some w) h v f = absurd v
  assigned_taken vs ls i k n q s (plain.loop s1 l1 b1) e x (Some w) h v f = absurd v
  assigned_taken vs ls i k n q s (plain.while s1 l1 a1 b1) e x (Some w) h v f = absurd v
  assigned_taken vs ls i k n q s (plain.while_let s1 l1 p1 e1 b1) e x (Some w) h v f = absurd v
  assigned_taken vs ls i k n q s (plain.break s1 l1) e x (Some w) h v f = absurd v
  assigned_taken vs ls i k n q s (plain.continue s1 l1) e x (Some w) h v f = absurd v
  assigned_taken vs ls i k n q s (plain.return s1 o1) e x (Some w) h v f = absurd v

  abbrev CalleeTaken : List ℕ → List ℕ → ItemNames → ItemNames → Type 0
  CalleeTaken vs x t t' = Part N M t t' 0 (λ es. (i : ℕ) → Takes i (λ j a. (j ≡ i + 0) × CalleeIs vs x a) t t' es an_entry)

  entry_map : {t t' : ItemNames} {es : List NodeNames} {Q R : (List ℕ × Bool) → Type 0} {i : ℕ} → ((a : List ℕ × Bool) → Q a → R a) → Takes i (λ j a. (j ≡ i + 0) × Q a) t t' es an_entry → Takes i (λ j a. (j ≡ i + 0) × R a) t t' es an_entry
  entry_map f k = record { holds = λ c rest q d e. let x = k.holds c rest q d e in record { fits = (x.fits.0, f (an_entry c).0 x.fits.1); stands = x.stands; left = x.left } }

  weaker_entry : {t t' : ItemNames} {es : List NodeNames} {Q : (List ℕ × Bool) → Type 0} {i : ℕ} → Takes i (λ j a. (j ≡ i + 0) × Q a) t t' es an_entry → Takes i (λ j (a : List ℕ × Bool). j ≡ i + 0) t t' es an_entry
  weaker_entry k = record { holds = λ c rest q d e. let x = k.holds c rest q d e in record { fits = x.fits.0; stands = x.stands; left = x.left } }

  -- a name that means nothing is that of no variable in scope
  not_in_scope : (vs : List ℕ) (sc : Variables) (x : List ℕ) → ScopeIs names vs sc → variable_named sc x ≡ None → (k : ℕ) → Among k vs → slice_get names k ≡ Some x → ⊥
  not_in_scope [] sc x h e k i f = absurd (none_among i)
  not_in_scope (y ∷ vs) [] x h e k i f = absurd h
  not_in_scope (y ∷ vs) (v ∷ sc) x h e k i f = by (bytes_eq x v.name) refl e i (λ m p. not_in_scope vs sc x h.2 m k p f)
    where
      other : bytes_eq x v.name ≡ false → k ≡ y → ⊥
      other g q =
          let there_is : slice_get names k ≡ Some v.name = ap (λ (z : ℕ). slice_get names z) q ∙ h.1 in
          let word : x ≡ v.name = cc in
          let same : bytes_eq x v.name ≡ true = (bytes_eq-Decides x v.name).1 word in
          absurd (cc)

      later : {z : ℕ} → Among k (z ∷ vs) → z ≡ y → bytes_eq x v.name ≡ false → (Among k vs → ⊥) → ⊥
      later here q g rest = other g q
      later (there j) q g rest = rest j

      by : (b : Bool) → bytes_eq x v.name ≡ b → (if b then Some v.number else variable_named sc x) ≡ None → Among k (y ∷ vs) → (variable_named sc x ≡ None → Among k vs → ⊥) → ⊥
      by true g m j rest = absurd (cc)
      by false g m j rest = later j refl g (rest m)

  callee_taken : (sc : Variables) (vs : List ℕ) (ls : List Around) (at : List ℕ) (x : Ident) (t t' : ItemNames) → Scope vs ls sc t → (o : Option ℕ) → variable_named sc x.name ≡ o → callee I at x o t ≡ Ok t' → CalleeTaken vs x.name t t'
  callee_taken sc vs ls at x t t' w None means_none e =
      let A = one_part N I at t t' (known (as_function (item_named function_name 0 I.program x.name)) x.span) e in
      let keeps = callee_keeps I at x None t t' e in
      let c = A.part.count in
      let found = known_is (as_function (item_named function_name 0 I.program x.name)) x.span A.first A.found in
      record {
        added = A.part.added;
        grown = A.part.grown;
        count = c;
        rising = omega (arith, keeps);
        numbers = λ most less i.
            let few : length t.vars ≤ N = omega (arith, c, most) in
            entry_map (λ a h z. record { unnamed = not_in_scope vs sc x.name (w.0 few).0 means_none; found = found ∙ ap (λ (n : ℕ). Some n) (sym (ap (λ (p : List ℕ × Bool). first p.0) h)) }) (entry_taken (A.part.numbers most) keeps i);
      }
  callee_taken sc vs ls at x t t' w (Some n) is e =
      let X : NodeNames = record { node = position I at; numbers = n ∷ []; hidden = true } in
      subst (λ (v : ItemNames). CalleeTaken vs x.name t v) (the_same (with_names X t) t' e)
      (record { added = X ∷ []; grown = refl; count = omega arith; rising = omega arith; numbers = λ _ _ i. entry_map (λ a h z. hidden a h z) (entry_taken (old.takes_entry X) refl i) })
    where
      hidden : (a : List ℕ × Bool) → IsEntry (n ∷ []) true a → a.1 ≡ false → IsFunction I names vs x.name (first a.0)
      hidden a h z = let y : a.1 ≡ true = ap (λ (p : List ℕ × Bool). p.1) h in absurd (cc)

  -- an entry of one name
  one_taken : {t t' : ItemNames} {es : List NodeNames} (k : ℕ) → old.Takes (IsEntry (k ∷ []) false) t t' es an_entry → length t'.loops ≡ length t.loops → (i : ℕ) → Takes i (λ j a. (j ≡ i + 0) × IsEntry (k ∷ []) false a) t t' es an_entry
  one_taken k x same i = entry_taken x same i

  -- a variable
  used : {t t' : ItemNames} {es : List NodeNames} (vs : List ℕ) (ls : List Around) (i : ℕ) (s : Span) (x : List ℕ) (n : Node) → n.number ≡ i → (k : ℕ) → slice_get names k ≡ Some x → MeansIt (same_name names) vs k
      → Takes (suc i) (λ j a. (j ≡ suc i + 0) × IsEntry (k ∷ []) false a) t t' es an_entry
      → Takes (suc i) (λ j a. Fits (plain.var s x) vs ls i j a) t t' es (numbering.and_then an_entry (λ ns c. (named.var n (numbering.use_of (first ns.0) (numbering.declaration c (first ns.0))), c)))
  used vs ls i s x n q k w v h = record {
    holds = λ c rest r d e.
        let z = h.holds c rest r d e in
        let y = at_entry (λ a. (slice_get names (first a.0) ≡ Some x) × MeansIt (same_name names) vs (first a.0)) (k ∷ []) false (an_entry c).0 z.fits.1 (w, v) in
        let u = numbering.use_of (first (an_entry c).0.0) (numbering.declaration (an_entry c).1 (first (an_entry c).0.0)) in
        let same : suc i ≡ (an_entry c).1.number = (let f = z.fits.0 in omega (arith, f)) in
        record { fits = subst (λ (j : ℕ). Fits (plain.var s x) vs ls i j (named.var n u)) same (record { stands = stands.s_var q y.0 y.1; root = y }); stands = z.stands; left = z.left };
  }

  present : {i : ℕ} {t t' : ItemNames} {es : List NodeNames} (vs : List ℕ) (ls : List Around) (x : Expression) (p : Site) → Takes i (λ j a. StandsElse I names vs ls i j (plain.present x) a) t t' es (numbering.of_optional p (plain.present x))
      → Takes i (λ j a. StandsExp I names vs ls i j x a) t t' es (of_expression false p x)
  present vs ls x p n = record { holds = λ c rest q d e. let z = n.holds c rest q d e in record { fits = inner z.fits; stands = z.stands; left = z.left } }
    where
      inner : {j : ℕ} {a : Exp} {i : ℕ} → StandsElse I names vs ls i j (plain.present x) (named.present a) → StandsExp I names vs ls i j x a
      inner (stands.s_present h) = h

  -- ---- at one node

  input_at : {vs : List ℕ} {ls : List Around} (i j : ℕ) (s : Span) (n : Node) → n.number ≡ i → j ≡ suc i + 0 → StandsExp I names vs ls i j (plain.next_input s) (named.next_input n)
  input_at {vs} {ls} i j s n q e = let same : suc i ≡ j = omega (arith, e) in subst (λ (k : ℕ). StandsExp I names vs ls i k (plain.next_input s) (named.next_input n)) same (stands.s_input q)

  break_at : {vs : List ℕ} {ls : List Around} (i j : ℕ) (s : Span) (l : Option Ident) (n : Node) → n.number ≡ i → (k k' : ℕ) → target l ls ≡ to_loop k → j ≡ suc i + 0 → k' ≡ k → StandsExp I names vs ls i j (plain.break s l) (named.break n k')
  break_at {vs} {ls} i j s l n q k k' to e f =
      let same : suc i ≡ j = omega (arith, e) in
      subst (λ (r : ℕ). StandsExp I names vs ls i r (plain.break s l) (named.break n k')) same (stands.s_break q (to ∙ ap (λ (z : ℕ). to_loop z) (sym f)))

  continue_at : {vs : List ℕ} {ls : List Around} (i j : ℕ) (s : Span) (l : Option Ident) (n : Node) → n.number ≡ i → (k k' : ℕ) → target l ls ≡ to_loop k → j ≡ suc i + 0 → k' ≡ k → StandsExp I names vs ls i j (plain.continue s l) (named.continue n k')
  continue_at {vs} {ls} i j s l n q k k' to e f =
      let same : suc i ≡ j = omega (arith, e) in
      subst (λ (r : ℕ). StandsExp I names vs ls i r (plain.continue s l) (named.continue n k')) same (stands.s_continue q (to ∙ ap (λ (z : ℕ). to_loop z) (sym f)))

  listed_too : {i : ℕ} {t t' : ItemNames} {es : List NodeNames} {vs : List ℕ} {ls : List Around} {xs : Expressions} {m : numbering.Numbering named.Exps}
      → Takes i (λ j a. StandsExps I names vs ls i j xs a) t t' es m → Takes i (λ j a. StandsArguments I names vs ls i j (plain.a_list xs) a) t t' es m
  listed_too k = record { holds = λ c rest q d e. let x = k.holds c rest q d e in record { fits = stands.s_list x.fits; stands = x.stands; left = x.left } }

  body_comes : (sc : Variables) (vs : List ℕ) (ls : List Around) (at : List ℕ) (s : Span) (ss : Statements) (o : OptionalExpression) (after : List ℕ) (t t1 t' : ItemNames) → Scope vs ls sc t
      → Part N M t t1 (binds (within_statements ss)) (λ fs. (i : ℕ) → Takes i (λ j (x : named.Statements). StandsRow I names vs ls i j ss x after) t t1 fs (numbering.of_statements ss))
      → OptionalTaken o after ls t1 t' → binds (within_statements ss ++ within_optional o) ≡ binds (within_statements ss) + binds (within_optional o)
      → in_block I sc ls at (plain.body s ss o) t ≡ Ok t' → BodyTaken (plain.body s ss o) vs ls t t'
  body_comes sc vs ls at s ss o after t t1 t' w A B size e =
      let both : Part N M t t' (binds (within_statements ss ++ within_optional o)) (λ fs. (i : ℕ) (p : Site) → BlockComes I names vs ls (plain.body s ss o) → Takes i (λ j a. StandsBody I names vs ls i j (plain.body s ss o) a) t t' fs (numbering.of_body p (plain.body s ss o))) =
      in_turn A B size (λ es fs k l. made k l) in
      let c = both.count in
      record {
        added = both.added;
        grown = both.grown;
        count = c;
        rising = both.rising;
        numbers = λ most less i p.
            let few : length t.vars ≤ N = omega (arith, c, most) in
            both.numbers most less i p (record { scope = sc; means = scope_told names vs sc (w.0 few).0; at = at; before = t; end = t'; resolves = e });
      }
    where
      made : {es fs : List NodeNames} → ((i : ℕ) → Takes i (λ j (x : named.Statements). StandsRow I names vs ls i j ss x after) t t1 es (numbering.of_statements ss))
          → ((i : ℕ) (p : Site) → Takes i (λ j a. StandsElse I names after ls i j o a) t1 t' fs (numbering.of_optional p o))
          → (i : ℕ) (p : Site) → BlockComes I names vs ls (plain.body s ss o) → Takes i (λ j a. StandsBody I names vs ls i j (plain.body s ss o) a) t t' (es ++ fs) (numbering.of_body p (plain.body s ss o))
      made k l i p m = takes_node s p (λ n q. takes_then (k (suc i)) (λ j c g. takes_map (named.body n c) (l j p) (λ z d h. stands.s_body q m g h)))

  let_taken : {i : ℕ} {t t1 t2 t3 : ItemNames} {es fs gs : List NodeNames} {Q : Option named.Written → Type 0} (vs ns : List ℕ) (ls : List Around) (s : Span) (p : PatternTree) (y : Option TypeTree) (o : OptionalExpression)
      → ((i : ℕ) → Takes i (λ j (c : named.Pattern). StandsPattern names vs i j p c × (variables c ≡ ns)) t t1 es (numbering.of_pattern p))
      → ((i : ℕ) → Takes i (λ j z. (j ≡ i + length (within_all (optional_type_nodes y))) × Q z) t1 t2 fs (numbering.of_optional_type y))
      → ((i : ℕ) (k : Site) → Takes i (λ j a. StandsElse I names vs ls i j o a) t2 t3 gs (numbering.of_optional k o))
      → Takes i (λ j x. Stated vs ls (reverse ns ++ vs) i j (plain.let_statement s p y o) x) t t3 (es ++ (fs ++ gs)) (numbering.of_statement (plain.let_statement s p y o))
  let_taken {i} vs ns ls s p y plain.absent k l m =
      takes_node s Site.Value (λ n q. takes_quiet (quiet_annotates p y) (λ _ _. takes_quiet quiet_counted (λ a _. takes_then (k (suc i)) (λ j1 c v. takes_quiet quiet_counted (λ b _. takes_then (l j1) (λ j2 z h.
      takes_last (m j2 Site.Value) (λ j3 d w. takes_quiet (quiet_between a b) (λ _ _. takes_quiet (quiet_waits (numbering.has_no_type z) c) (λ _ _.
      takes_give (named.declares n c z) (record { stands = stands.s_declares q v.0 (absent_at w ∙ h.0); scope = ap (λ (l : List ℕ). reverse l ++ vs) v.1 }))))))))))
    where
      absent_at : {j2 j3 : ℕ} {d : named.Else} → StandsElse I names vs ls j2 j3 plain.absent d → j3 ≡ j2
      absent_at stands.s_absent = refl
  let_taken {i} vs ns ls s p y (plain.present x) k l m =
      takes_node s Site.Value (λ n q. takes_quiet (quiet_annotates p y) (λ _ _. takes_quiet quiet_counted (λ a _. takes_then (k (suc i)) (λ j1 c v. takes_quiet quiet_counted (λ b _. takes_then (l j1) (λ j2 z h.
      takes_last (present vs ls x (numbering.initialiser_site z) (m j2 (numbering.initialiser_site z))) (λ j3 d w. takes_quiet (quiet_between a b) (λ _ _. takes_quiet (quiet_waits (numbering.has_no_type z && named.never d) c) (λ _ _.
      takes_give (named.lets n c z d) (record { stands = stands.s_lets q v.0 h.0 w; scope = ap (λ (l : List ℕ). reverse l ++ vs) v.1 }))))))))))

  let_part : (at : List ℕ) (s : Span) (p : PatternTree) (y : Option TypeTree) (o : OptionalExpression) (sc : Variables) (vs : List ℕ) (ls : List Around) (t : ItemNames) (r : Scoped) → Scope vs ls sc t
      → Bound names (length t.vars) (below_statement (plain.let_statement s p y o))
      → ((at : List ℕ) (t t' : ItemNames) → Scope vs ls sc t → Bound names (length t.vars) (within_optional o) → in_optional I sc ls at o t ≡ Ok t' → OptionalTaken o vs ls t t')
      → in_statement I sc ls at (plain.let_statement s p y o) t ≡ Ok r → StatementTaken (plain.let_statement s p y o) vs ls t r
  let_part at s p y o sc vs ls t r w b h e =
      let b0 : BoundSoFar = record { bindings = []; tables = t } in
      let to : DeclaredNames → ItemNames → Scoped = λ ds t. record { scope = entered sc ds; tables = t } in
      let i = initialiser_at y in
      let g = in_optional_type I (child at 1) y in let k = in_optional I sc ls (child at i) o in
      let Z = named_ok (in_pattern I (child at 0) p b0) (λ b. and_then ((g >> k) b.tables) (λ t. Ok (to b.bindings t))) r e in
      let Y = named_ok ((g >> k) Z.0.tables) (λ t. Ok (to Z.0.bindings t)) r Z.2 in
      let X = named_ok (g Z.0.tables) k Y.0 Y.1 in
      let pn = a_pattern p ∷ below_pattern p in
      let P = pattern_part C I N M small S names (child at 0) p t Z.0 (front_of names pn (within_type y ++ within_optional o) b) Z.1 in
      let Q = patterned vs ls sc P w in
      let same = optional_type_keeps I (child at 1) y Z.0.tables X.0 X.1 in
      let T0 = optional_type_taken C I N S (child at 1) y Z.0.tables X.0 X.1 in
      let T : Part N M Z.0.tables X.0 0 (λ es. (i : ℕ) → Takes i (λ j z. (j ≡ i + length (within_all (optional_type_nodes y))) × OfAnnotation C z) Z.0.tables X.0 es (numbering.of_optional_type y)) =
      still_part T0 same (λ es k. counted_too (length (within_all (optional_type_nodes y))) k (λ c. type_size y c) (λ c. optional_type_still y c) same) in
      let w1 = on vs ls sc Q w in
      let cp = Q.count in let ct = T.count in
      let n3 = no_result_binds y in
      let bo = behind_of names (length X.0.vars) (within_type y) (within_optional o) (omega (arith, ct, n3)) (behind_of names (length Z.0.tables.vars) pn (within_type y ++ within_optional o) cp b) in
      let D = h (child at i) X.0 Y.0 (on vs ls sc T w1) bo X.2 in
      let after = Entered p t vs in
      let bs = with_pattern vs ls sc P w in
      let n1 = binds_append pn (within_type y ++ within_optional o) in
      let n2 = binds_append (within_type y) (within_optional o) in
      subst (λ (z : Scoped). StatementTaken (plain.let_statement s p y o) vs ls t z) (the_same (to Z.0.bindings Y.0) r Y.2) (record {
        after = after;
        scope = on after ls (entered sc Z.0.bindings) D (on after ls (entered sc Z.0.bindings) T bs);
        part = in_turn3 Q T D (omega (arith, n1, n2, n3)) (λ es fs gs x y' z i. let_taken vs (from (length t.vars) (bound p)) ls s p y o x y' z);
      })

  same_loop : (l n : ℕ) → l ≡ n → suc n ≤ M → number n ≡ l
  same_loop l n e m = least_number n (omega (arith, m, little)) ∙ sym e

  mutual
    pub expression_taken : (sc : Variables) (vs : List ℕ) (ls : List Around) (at : List ℕ) (e : Expression) (t t' : ItemNames) → Scope vs ls sc t → Bound names (length t.vars) (below_expression e) → in_expression I sc ls at e t ≡ Ok t' → ExpTaken e vs ls t t'
    expression_taken sc vs ls at (plain.int s v k) t t' w b e =
        unchanged N M t t' (λ u es. (i : ℕ) (m : Bool) (p : Site) → Takes i (λ j a. Fits (plain.int s v k) vs ls i j a) t u es (of_expression m p (plain.int s v k))) e (λ i m p. takes_made s p (λ n. named.int n m v k) (λ n q. record { stands = stands.s_int q; root = tt }))
    expression_taken sc vs ls at (plain.bool s x) t t' w b e =
        unchanged N M t t' (λ u es. (i : ℕ) (m : Bool) (p : Site) → Takes i (λ j a. Fits (plain.bool s x) vs ls i j a) t u es (of_expression m p (plain.bool s x))) e (λ i m p. takes_made s p (λ n. named.bool n x) (λ n q. record { stands = stands.s_bool q; root = tt }))
    expression_taken sc vs ls at (plain.tuple s es) t t' w b e =
        restated (all_taken sc vs ls at 0 es t t' w b e) refl (λ fs k i m p. takes_node s p (λ n q. takes_map (named.tuple n) (k (suc i) Site.Value) (λ j c h. record { stands = stands.s_tuple q h; root = tt })))
    expression_taken sc vs ls at (plain.var s x) t t' w b e =
        let A = one_part N I at t t' (known (variable_named sc x) s) e in
        let v = known_is (variable_named sc x) s A.first A.found in
        let c = A.part.count in
        let same = names_keep I at (one (known (variable_named sc x) s)) t t' e in
        record {
          added = A.part.added;
          grown = A.part.grown;
          count = c;
          rising = omega (arith, same);
          numbers = λ most less i m p. takes_node s p (λ n q.
              let few : length t.vars ≤ N = omega (arith, c, most) in
              let z = scope_means names vs sc x A.first (w.0 few).0 v in
              used vs ls i s x n q A.first z.named z.itself (one_taken A.first (A.part.numbers most) same (suc i)));
        }
    expression_taken sc vs ls at (plain.field s x f) t t' w b e =
        restated (expression_taken sc vs ls (child at 0) x t t' w b e) refl (λ es k i m p. takes_node s p (λ n q. takes_map (λ c. named.field n c f.name) (k (suc i) false Site.Place) (λ j c h. record { stands = stands.s_field q h.stands; root = tt })))
    expression_taken sc vs ls at (plain.part s x d) t t' w b e =
        restated (expression_taken sc vs ls (child at 0) x t t' w b e) refl (λ es k i m p. takes_node s p (λ n q. takes_map (λ c. named.part n c d) (k (suc i) false Site.Place) (λ j c h. record { stands = stands.s_part q h.stands; root = tt })))
    expression_taken sc vs ls at (plain.deref s x) t t' w b e =
        restated (expression_taken sc vs ls (child at 0) x t t' w b e) refl (λ es k i m p. takes_node s p (λ n q. takes_map (named.deref n) (k (suc i) false Site.Place) (λ j c h. record { stands = stands.s_deref q h.stands; root = tt })))
    expression_taken sc vs ls at (plain.negate s x) t t' w b e =
        restated (expression_taken sc vs ls (child at 0) x t t' w b e) refl (λ es k i m p. takes_node s p (λ n q. takes_map (named.negate n) (k (suc i) true Site.Value) (λ j c h. record { stands = stands.s_negate q h.stands; root = tt })))
    expression_taken sc vs ls at (plain.invert s x) t t' w b e =
        restated (expression_taken sc vs ls (child at 0) x t t' w b e) refl (λ es k i m p. takes_node s p (λ n q. takes_map (named.invert n) (k (suc i) false Site.Value) (λ j c h. record { stands = stands.s_invert q h.stands; root = tt })))
    expression_taken sc vs ls at (plain.borrow s r x) t t' w b e =
        restated (expression_taken sc vs ls (child at 0) x t t' w b e) refl (λ es k i m p. takes_node s p (λ n q. takes_map (named.borrow n r) (k (suc i) false Site.Place) (λ j c h. record { stands = stands.s_borrow q h.stands; root = tt })))
    expression_taken sc vs ls at (plain.binary s o x y) t t' w b e =
        let X = named_ok (in_expression I sc ls (child at 0) x t) (in_expression I sc ls (child at 1) y) t' e in
        let A = expression_taken sc vs ls (child at 0) x t X.0 w (front_of names (below_expression x) (an_expression y ∷ below_expression y) b) X.1 in
        let B = expression_taken sc vs ls (child at 1) y X.0 t' (on vs ls sc A w) (behind_of names (length X.0.vars) (below_expression x) (an_expression y ∷ below_expression y) A.count b) X.2 in
        in_turn A B (binds_append (below_expression x) (an_expression y ∷ below_expression y)) (λ es fs k l i m p. takes_node s p (λ n q. takes_then (k (suc i) false Site.Value) (λ j c g. takes_map (named.binary n o c) (l j false Site.Value) (λ z d h. record { stands = stands.s_binary q g.stands h.stands; root = tt }))))
    expression_taken sc vs ls at (plain.assign s x y) t t' w b e =
        let X = named_ok (in_expression I sc ls (child at 0) x t) (in_expression I sc ls (child at 1) y) t' e in
        let A = expression_taken sc vs ls (child at 0) x t X.0 w (front_of names (below_expression x) (an_expression y ∷ below_expression y) b) X.1 in
        let B = expression_taken sc vs ls (child at 1) y X.0 t' (on vs ls sc A w) (behind_of names (length X.0.vars) (below_expression x) (an_expression y ∷ below_expression y) A.count b) X.2 in
        in_turn A B (binds_append (below_expression x) (an_expression y ∷ below_expression y)) (λ es fs k l i m p. takes_node s p (λ n q. takes_then (k (suc i) false Site.Place) (λ j c g. takes_quiet (quiet_waits_for vs x c g.root) (λ z v.
        assigned_taken vs ls i j n q s x y c z g v (λ k. l j false k)))))
    expression_taken sc vs ls at (plain.update s o x y) t t' w b e =
        let X = named_ok (in_expression I sc ls (child at 0) x t) (in_expression I sc ls (child at 1) y) t' e in
        let A = expression_taken sc vs ls (child at 0) x t X.0 w (front_of names (below_expression x) (an_expression y ∷ below_expression y) b) X.1 in
        let B = expression_taken sc vs ls (child at 1) y X.0 t' (on vs ls sc A w) (behind_of names (length X.0.vars) (below_expression x) (an_expression y ∷ below_expression y) A.count b) X.2 in
        in_turn A B (binds_append (below_expression x) (an_expression y ∷ below_expression y)) (λ es fs k l i m p. takes_node s p (λ n q. takes_then (k (suc i) false Site.Place) (λ j c g. takes_map (named.update n o c) (l j false Site.Value) (λ z d h. record { stands = stands.s_update q g.stands h.stands; root = tt }))))
    expression_taken sc vs ls at (plain.call s f es) t t' w b e =
        let X = named_ok (callee I at f (variable_named sc f.name) t) (in_expressions I sc ls at 0 es) t' e in
        let A = callee_taken sc vs ls at f t X.0 w (variable_named sc f.name) refl X.1 in
        let B = all_taken sc vs ls at 0 es X.0 t' (on vs ls sc A w) (behind_of names (length X.0.vars) [] (within_expressions es) A.count b) X.2 in
        in_turn A B (from_zero (binds (within_expressions es))) (λ _ _ k l i m p. takes_node s p (λ n q. takes_then (k (suc i)) (λ j c h. from_same h.0 (called_taken vs ls i n q c s f es h.1 (λ r. l (suc i) r)))))
    expression_taken sc vs ls at (plain.next_input s) t t' w b e =
        let same = names_keep I at (one (known (as_rt (item_named type_name 0 I.program (codes "rt"))) (rt_span s))) t t' e in
        still_part (one_part N I at t t' (known (as_rt (item_named type_name 0 I.program (codes "rt"))) (rt_span s)) e).part same
        (λ es k i m p. takes_node s p (λ n q. takes_map (λ z. named.next_input n) (entry_taken k same (suc i)) (λ j c h. record { stands = input_at i j s n q h.0; root = tt })))
    expression_taken sc vs ls at (plain.variant s c v es) t t' w b e =
        let X = named_ok (naming I at (variant_in I c v) t) (in_arguments I sc ls at es) t' e in
        let y = named_ok (variant_in I c v) (λ ns. numbered I at ns t) X.0 X.1 in
        let f = S.variants c v y.0 y.1 in
        let same = names_keep I at (variant_in I c v) t X.0 X.1 in
        let A0 = entry_part N I at t X.0 f.0 (f.1 ∷ []) (variant_in I c v) (y.1 ∙ ap (λ (l : List ℕ). Ok l) f.2) X.1 in
        let A : Part N M t X.0 0 (λ es. (i : ℕ) → Takes i (λ j (a : List ℕ × Bool). j ≡ i + 0) t X.0 es an_entry) = still_part A0 same (λ es k i. weaker_entry (entry_taken k same i)) in
        let B = arguments_taken sc vs ls at es X.0 t' (on vs ls sc A w) (behind_of names (length X.0.vars) [] (within_arguments es) A.count b) X.2 in
        in_turn A B (from_zero (binds (within_arguments es))) (λ _ _ k l i m p. takes_node s p (λ n q. takes_then (k (suc i)) (λ j y r. from_same r (takes_map (named.variant n (first y.0) (second y.0)) (l (suc i)) (λ z es h. record { stands = stands.s_variant q h; root = tt })))))
    expression_taken sc vs ls at (plain.make s x fs) t t' w b e =
        let X = named_ok (naming I at (one (struct_in I x)) t) (in_fields I sc ls at 0 fs) t' e in
        let same = names_keep I at (one (struct_in I x)) t X.0 X.1 in
        let A : Part N M t X.0 0 (λ es. (i : ℕ) → Takes i (λ j (a : List ℕ × Bool). j ≡ i + 0) t X.0 es an_entry) = still_part (one_part N I at t X.0 (struct_in I x) X.1).part same (λ es k i. weaker_entry (entry_taken k same i)) in
        let B = fields_taken sc vs ls at 0 fs X.0 t' (on vs ls sc A w) (behind_of names (length X.0.vars) [] (within_fields fs) A.count b) X.2 in
        in_turn A B (from_zero (binds (within_fields fs))) (λ _ _ k l i m p. takes_node s p (λ n q. takes_then (k (suc i)) (λ j y r. from_same r (takes_map (named.make n (first y.0)) (l (suc i)) (λ z fs h. record { stands = stands.s_make q h; root = tt })))))
    expression_taken sc vs ls at (plain.print s x) t t' w b e =
        restated (expression_taken sc vs ls (child at 0) x t t' w b e) refl (λ es k i m p. takes_node s p (λ n q. takes_map (named.print n) (k (suc i) false Site.Value) (λ j c h. record { stands = stands.s_print q h.stands; root = tt })))
    expression_taken sc vs ls at (plain.block s x) t t' w b e =
        restated (body_taken sc vs ls (child at 0) x t t' w b e) refl (λ es k i m p. takes_node s p (λ n q. takes_map (named.block n) (k (suc i) (numbering.passed_on p)) (λ j c h. record { stands = stands.s_block q h; root = tt })))
    expression_taken sc vs ls at (plain.if s c x o) t t' w b e =
        let X = named_ok (in_expression I sc ls (child at 0) c t) (in_block I sc ls (child at 1) x >> in_optional I sc ls (child at 2) o) t' e in
        let Y = named_ok (in_block I sc ls (child at 1) x X.0) (in_optional I sc ls (child at 2) o) t' X.2 in
        let l1 = a_block x ∷ below_block x in
        let A = expression_taken sc vs ls (child at 0) c t X.0 w (front_of names (below_expression c) (l1 ++ within_optional o) b) X.1 in
        let w1 = on vs ls sc A w in
        let b1 = behind_of names (length X.0.vars) (below_expression c) (l1 ++ within_optional o) A.count b in
        let B = body_taken sc vs ls (child at 1) x X.0 Y.0 w1 (front_of names l1 (within_optional o) b1) Y.1 in
        let D = optional_taken sc vs ls (child at 2) o Y.0 t' (on vs ls sc B w1) (behind_of names (length Y.0.vars) l1 (within_optional o) B.count b1) Y.2 in
        let n1 = binds_append (below_expression c) (l1 ++ within_optional o) in
        let n2 = binds_append (below_block x) (within_optional o) in
        in_turn3 A B D (omega (arith, n1, n2)) (λ _ _ _ k l r i m p. takes_node s p (λ n q. takes_then (k (suc i) false Site.Value) (λ j1 c g. takes_then (l j1 (numbering.branch_site p o)) (λ j2 b h. takes_map (named.if n c b) (r j2 (numbering.passed_on p)) (λ j3 z j.
        record { stands = stands.s_if q g.stands h j; root = tt })))))
    expression_taken sc vs ls at (plain.if_let s p y x o) t t' w b e =
        let b0 : BoundSoFar = record { bindings = []; tables = t } in
        let g : BoundSoFar → Naming = λ b. in_expression I sc ls (child at 1) y >> in_block I (entered sc b.bindings) ls (child at 2) x >> in_optional I sc ls (child at 3) o in
        let Z = named_ok (in_pattern I (child at 0) p b0) (λ b. g b b.tables) t' e in
        let X = named_ok (in_expression I sc ls (child at 1) y Z.0.tables) (in_block I (entered sc Z.0.bindings) ls (child at 2) x >> in_optional I sc ls (child at 3) o) t' Z.2 in
        let Y = named_ok (in_block I (entered sc Z.0.bindings) ls (child at 2) x X.0) (in_optional I sc ls (child at 3) o) t' X.2 in
        let pn = a_pattern p ∷ below_pattern p in
        let l2 = a_block x ∷ below_block x in
        let l1 = an_expression y ∷ below_expression y in
        let P = pattern_part C I N M small S names (child at 0) p t Z.0 (front_of names pn (l1 ++ (l2 ++ within_optional o)) b) Z.1 in
        let Q = patterned vs ls sc P w in
        let w1 = on vs ls sc Q w in
        let b1 = behind_of names (length Z.0.tables.vars) pn (l1 ++ (l2 ++ within_optional o)) Q.count b in
        let A = expression_taken sc vs ls (child at 1) y Z.0.tables X.0 w1 (front_of names l1 (l2 ++ within_optional o) b1) X.1 in
        let b2 = behind_of names (length X.0.vars) l1 (l2 ++ within_optional o) A.count b1 in
        let ws = Entered p t vs in
        let B = body_taken (entered sc Z.0.bindings) ws ls (child at 2) x X.0 Y.0 (on ws ls (entered sc Z.0.bindings) A (with_pattern vs ls sc P w)) (front_of names l2 (within_optional o) b2) Y.1 in
        let D = optional_taken sc vs ls (child at 3) o Y.0 t' (on vs ls sc B (on vs ls sc A w1)) (behind_of names (length Y.0.vars) l2 (within_optional o) B.count b2) Y.2 in
        let n0 = binds_append pn (l1 ++ (l2 ++ within_optional o)) in
        let n1 = binds_append (below_expression y) (l2 ++ within_optional o) in
        let n2 = binds_append (below_block x) (within_optional o) in
        in_turn4 Q A B D (omega (arith, n0, n1, n2)) (λ _ _ _ _ k l r z i m f. takes_node s f (λ n q. takes_quiet quiet_counted (λ u _. takes_then (k (suc i)) (λ j1 c g. takes_quiet quiet_counted (λ v _. takes_then (l j1 false Site.Scrutinee) (λ j2 d h.
        takes_quiet (quiet_between u v) (λ _ _. takes_then (in_scope (λ us j3 B. StandsBody I names us ls j2 j3 x B) c (from (length t.vars) (bound p)) vs g.1 (r j2 (numbering.branch_site f o))) (λ j3 b j. takes_map (named.if_let n c d b) (z j3 (numbering.passed_on f))
        (λ j4 f y. record { stands = stands.s_if_let q g.0 h.stands j y; root = tt })))))))))
    expression_taken sc vs ls at (plain.match s x l) t t' w b e =
        let X = named_ok (in_expression I sc ls (child at 0) x t) (in_arms I sc ls at 1 l) t' e in
        let A = expression_taken sc vs ls (child at 0) x t X.0 w (front_of names (below_expression x) (within_arms l) b) X.1 in
        let B = arms_taken sc vs ls at 1 l X.0 t' (on vs ls sc A w) (behind_of names (length X.0.vars) (below_expression x) (within_arms l) A.count b) X.2 in
        in_turn A B (binds_append (below_expression x) (within_arms l)) (λ _ _ k l i m p. takes_node s p (λ n q. takes_then (k (suc i) false Site.Scrutinee) (λ j c g. takes_map (named.match n c) (l j (numbering.passed_on p)) (λ z d h. record { stands = stands.s_match q g.stands h; root = tt }))))
    expression_taken sc vs ls at (plain.loop s l x) t t' w b e =
        let f = position I at in
        in_new_loop f (body_taken sc vs (a_loop l (number (length t.loops)) ∷ ls) (child at 0) x (with_loop f t) t' (around_loop t vs l ls sc f w) b e)
        (λ es few k i m p. takes_node s p (λ n q. takes_loop f (λ r is. takes_last (k (suc i) Site.Value) (λ j c h. takes_quiet (quiet_is_left r) (λ z _.
        takes_give (named.loop n r z c) (record { stands = subst (λ (o : ℕ). StandsExp I names vs ls i j (plain.loop s l x) (named.loop n o z c)) (same_loop r (length t.loops) is few) (stands.s_loop q (new_loop t vs ls sc w few) h); root = tt }))))))
    expression_taken sc vs ls at (plain.while s l x d) t t' w b e =
        let f = position I at in
        let u = with_loop f t in
        let o = number (length t.loops) in
        let w0 = around_loop t vs l ls sc f w in
        let X = named_ok (in_expression I sc (a_test ∷ a_loop l o ∷ ls) (child at 0) x u) (in_block I sc (a_loop l o ∷ ls) (child at 1) d) t' e in
        let l1 = a_block d ∷ below_block d in
        let A = expression_taken sc vs (a_test ∷ a_loop l o ∷ ls) (child at 0) x u X.0 w0 (front_of names (below_expression x) l1 b) X.1 in
        let B = body_taken sc vs (a_loop l o ∷ ls) (child at 1) d X.0 t' (on vs (a_loop l o ∷ ls) sc A w0) (behind_of names (length X.0.vars) (below_expression x) l1 A.count b) X.2 in
        let both : Part N M u t' (binds (below_expression x ++ l1)) (λ es. (i r : ℕ) (n : Node) → n.number ≡ i → o ≡ r → (Among o (loop_numbers ls) → ⊥)
        → Takes (suc i) (λ j a. Fits (plain.while s l x d) vs ls i j a) u t' es (numbering.and_then (of_expression false Site.Value x) (λ c. numbering.and_then (numbering.of_body Site.Value d) (λ b. give (named.while n r c b))))) =
        in_turn A B (binds_append (below_expression x) l1) (λ _ _ k z i r n q same new. takes_then (k (suc i) false Site.Value) (λ j c g. takes_map (named.while n r c) (z j Site.Value)
        (λ y d' h. record { stands = subst (λ (v : ℕ). StandsExp I names vs ls i y (plain.while s l x d) (named.while n v c d')) same (stands.s_while q new g.stands h); root = tt }))) in
        in_new_loop f both (λ es few k i m p. takes_node s p (λ n q. takes_loop f (λ r is. k i r n q (same_loop r (length t.loops) is few) (new_loop t vs ls sc w few))))
    expression_taken sc vs ls at (plain.while_let s l p y x) t t' w b e =
        let f = position I at in
        let u = with_loop f t in
        let o = number (length t.loops) in
        let w0 = around_loop t vs l ls sc f w in
        let b0 : BoundSoFar = record { bindings = []; tables = u } in
        let g : BoundSoFar → Naming = λ b. in_expression I sc (a_test ∷ a_loop l o ∷ ls) (child at 1) y >> in_block I (entered sc b.bindings) (a_loop l o ∷ ls) (child at 2) x in
        let Z = named_ok (in_pattern I (child at 0) p b0) (λ b. g b b.tables) t' e in
        let X = named_ok (in_expression I sc (a_test ∷ a_loop l o ∷ ls) (child at 1) y Z.0.tables) (in_block I (entered sc Z.0.bindings) (a_loop l o ∷ ls) (child at 2) x) t' Z.2 in
        let pn = a_pattern p ∷ below_pattern p in
        let l2 = a_block x ∷ below_block x in
        let l1 = an_expression y ∷ below_expression y in
        let P = pattern_part C I N M small S names (child at 0) p u Z.0 (front_of names pn (l1 ++ l2) b) Z.1 in
        let Q = patterned vs (a_loop l o ∷ ls) sc P w0 in
        let w1 = on vs (a_loop l o ∷ ls) sc Q w0 in
        let b1 = behind_of names (length Z.0.tables.vars) pn (l1 ++ l2) Q.count b in
        let A = expression_taken sc vs (a_test ∷ a_loop l o ∷ ls) (child at 1) y Z.0.tables X.0 w1 (front_of names l1 l2 b1) X.1 in
        let ws = Entered p u vs in
        let B = body_taken (entered sc Z.0.bindings) ws (a_loop l o ∷ ls) (child at 2) x X.0 t' (on ws (a_loop l o ∷ ls) (entered sc Z.0.bindings) A (with_pattern vs (a_loop l o ∷ ls) sc P w0)) (behind_of names (length X.0.vars) l1 l2 A.count b1) X.2 in
        let n0 = binds_append pn (l1 ++ l2) in
        let n1 = binds_append (below_expression y) l2 in
        let all : Part N M u t' (binds (pn ++ (l1 ++ l2))) (λ es. (i r : ℕ) (n : Node) → n.number ≡ i → o ≡ r → (Among o (loop_numbers ls) → ⊥)
        → Takes (suc i) (λ j a. Fits (plain.while_let s l p y x) vs ls i j a) u t' es (numbering.and_then numbering.counted (λ a. numbering.and_then (numbering.of_pattern p) (λ c. numbering.and_then numbering.counted (λ v. numbering.and_then (of_expression false Site.Scrutinee y)
        (λ d. numbering.and_then (numbering.known_between a v) (λ _. numbering.and_then (numbering.of_body Site.Value x) (λ b. give (named.while_let n r c d b))))))))) =
        in_turn3 Q A B (omega (arith, n0, n1)) (λ _ _ _ k z r i num n q same new. takes_quiet quiet_counted (λ a _. takes_then (k (suc i)) (λ j1 c g. takes_quiet quiet_counted (λ v _. takes_then (z j1 false Site.Scrutinee) (λ j2 d h.
        takes_quiet (quiet_between a v) (λ _ _. takes_map (named.while_let n num c d) (in_scope (λ us j3 B. StandsBody I names us (a_loop l o ∷ ls) j2 j3 x B) c (from (length u.vars) (bound p)) vs g.1 (r j2 Site.Value))
        (λ j3 b h2. record { stands = subst (λ (v : ℕ). StandsExp I names vs ls i j3 (plain.while_let s l p y x) (named.while_let n v c d b)) same (stands.s_while_let q new g.0 h.stands h2); root = tt }))))))) in
        in_new_loop f all (λ es few k i m q. takes_node s q (λ n h. takes_loop f (λ r is. k i r n h (same_loop r (length t.loops) is few) (new_loop t vs ls sc w few))))
    expression_taken sc vs ls at (plain.break s l) t t' w b e =
        let A = one_part N I at t t' (led s l (target l ls)) e in
        let same = names_keep I at (one (led s l (target l ls))) t t' e in
        let to = led_is s l (target l ls) A.first A.found in
        still_part A.part same (λ es k i m p. takes_node s p (λ n q. takes_last (entry_taken k same (suc i)) (λ j ns h. takes_quiet (quiet_leads (first ns.0)) (λ _ _. takes_give (named.break n (first ns.0)) (record { stands = break_at i j s l n q A.first (first ns.0) to h.0 (ap (λ (z : List ℕ × Bool). first z.0) h.1); root = tt })))))
    expression_taken sc vs ls at (plain.continue s l) t t' w b e =
        let A = one_part N I at t t' (led s l (target l ls)) e in
        let same = names_keep I at (one (led s l (target l ls))) t t' e in
        let to = led_is s l (target l ls) A.first A.found in
        still_part A.part same (λ es k i m p. takes_node s p (λ n q. takes_map (λ ns. named.continue n (first ns.0)) (entry_taken k same (suc i)) (λ j ns h. record { stands = continue_at i j s l n q A.first (first ns.0) to h.0 (ap (λ (z : List ℕ × Bool). first z.0) h.1); root = tt })))
    expression_taken sc vs ls at (plain.return s o) t t' w b e =
        restated (optional_taken sc vs ls (child at 0) o t t' w b e) refl (λ es k i m p. takes_node s p (λ n q. takes_map (named.return n) (k (suc i) Site.Expects) (λ j c h. record { stands = stands.s_return q h; root = tt })))

    all_taken : (sc : Variables) (vs : List ℕ) (ls : List Around) (at : List ℕ) (j : ℕ) (es : Expressions) (t t' : ItemNames) → Scope vs ls sc t → Bound names (length t.vars) (within_expressions es) → in_expressions I sc ls at j es t ≡ Ok t' → AllTaken es vs ls t t'
    all_taken sc vs ls at j plain.no_expression t t' w b e = unchanged N M t t' (λ u fs. (i : ℕ) (p : Site) → Takes i (λ j a. StandsExps I names vs ls i j plain.no_expression a) t u fs (numbering.of_expressions p plain.no_expression)) e (λ i p. takes_give named.no_exp stands.s_no_exp)
    all_taken sc vs ls at j (plain.expression_and x es) t t' w b e =
        let X = named_ok (in_expression I sc ls (child at j) x t) (in_expressions I sc ls at (next j) es) t' e in
        let A = expression_taken sc vs ls (child at j) x t X.0 w (front_of names (below_expression x) (within_expressions es) b) X.1 in
        let B = all_taken sc vs ls at (next j) es X.0 t' (on vs ls sc A w) (behind_of names (length X.0.vars) (below_expression x) (within_expressions es) A.count b) X.2 in
        in_turn A B (binds_append (below_expression x) (within_expressions es)) (λ _ _ k l i p. takes_then (k i false p) (λ j c g. takes_map (named.exp_and c) (l j p) (λ z d h. stands.s_exp_and g.stands h)))

    optional_taken : (sc : Variables) (vs : List ℕ) (ls : List Around) (at : List ℕ) (o : OptionalExpression) (t t' : ItemNames) → Scope vs ls sc t → Bound names (length t.vars) (within_optional o) → in_optional I sc ls at o t ≡ Ok t' → OptionalTaken o vs ls t t'
    optional_taken sc vs ls at plain.absent t t' w b e = unchanged N M t t' (λ u fs. (i : ℕ) (p : Site) → Takes i (λ j a. StandsElse I names vs ls i j plain.absent a) t u fs (numbering.of_optional p plain.absent)) e (λ i p. takes_give named.absent stands.s_absent)
    optional_taken sc vs ls at (plain.present x) t t' w b e = restated (expression_taken sc vs ls at x t t' w b e) refl (λ es k i p. takes_map (λ z. named.present z) (k i false p) (λ j c h. stands.s_present h.stands))

    arguments_taken : (sc : Variables) (vs : List ℕ) (ls : List Around) (at : List ℕ) (o : OptionalExpressions) (t t' : ItemNames) → Scope vs ls sc t → Bound names (length t.vars) (within_arguments o) → in_arguments I sc ls at o t ≡ Ok t' → ArgumentsTaken o vs ls t t'
    arguments_taken sc vs ls at plain.no_list t t' w b e = unchanged N M t t' (λ u fs. (i : ℕ) → Takes i (λ j a. StandsArguments I names vs ls i j plain.no_list a) t u fs (numbering.of_arguments plain.no_list)) e (λ i. takes_give named.no_exp stands.s_no_list)
    arguments_taken sc vs ls at (plain.a_list es) t t' w b e = restated (all_taken sc vs ls at 0 es t t' w b e) refl (λ fs k i. listed_too (k i Site.Expects))

    fields_taken : (sc : Variables) (vs : List ℕ) (ls : List Around) (at : List ℕ) (j : ℕ) (fs : FieldExpressions) (t t' : ItemNames) → Scope vs ls sc t → Bound names (length t.vars) (within_fields fs) → in_fields I sc ls at j fs t ≡ Ok t' → FieldsTaken fs vs ls t t'
    fields_taken sc vs ls at j plain.no_field t t' w b e = unchanged N M t t' (λ u fs. (i : ℕ) → Takes i (λ j a. StandsFields I names vs ls i j plain.no_field a) t u fs (numbering.of_fields plain.no_field)) e (λ i. takes_give named.no_field stands.s_no_field)
    fields_taken sc vs ls at j (plain.field_and y x fs) t t' w b e =
        let X = named_ok (in_expression I sc ls (child at j) x t) (in_fields I sc ls at (next j) fs) t' e in
        let A = expression_taken sc vs ls (child at j) x t X.0 w (front_of names (below_expression x) (within_fields fs) b) X.1 in
        let B = fields_taken sc vs ls at (next j) fs X.0 t' (on vs ls sc A w) (behind_of names (length X.0.vars) (below_expression x) (within_fields fs) A.count b) X.2 in
        in_turn A B (binds_append (below_expression x) (within_fields fs)) (λ _ _ k l i. takes_then (k i false Site.Expects) (λ j c g. takes_map (named.field_and y.name c) (l j) (λ z d h. stands.s_field_and g.stands h)))

    arms_taken : (sc : Variables) (vs : List ℕ) (ls : List Around) (at : List ℕ) (j : ℕ) (l : Arms) (t t' : ItemNames) → Scope vs ls sc t → Bound names (length t.vars) (within_arms l) → in_arms I sc ls at j l t ≡ Ok t' → ArmsTaken l vs ls t t'
    arms_taken sc vs ls at j plain.no_arm t t' w b e = unchanged N M t t' (λ u fs. (i : ℕ) (p : Site) → Takes i (λ j a. StandsArms I names vs ls i j plain.no_arm a) t u fs (numbering.of_arms p plain.no_arm)) e (λ i p. takes_give named.no_arm stands.s_no_arm)
    arms_taken sc vs ls at j (plain.arm_and p x l) t t' w b e =
        let b0 : BoundSoFar = record { bindings = []; tables = t } in
        let V = named_ok (pattern_then I (child at j) p (λ ds. in_expression I (entered sc ds) ls (child at (next j)) x) t) (in_arms I sc ls at (next (next j)) l) t' e in
        let Z = named_ok (in_pattern I (child at j) p b0) (λ b. in_expression I (entered sc b.bindings) ls (child at (next j)) x b.tables) V.0 V.1 in
        let pn = a_pattern p ∷ below_pattern p in
        let l1 = an_expression x ∷ below_expression x in
        let P = pattern_part C I N M small S names (child at j) p t Z.0 (front_of names pn (l1 ++ within_arms l) b) Z.1 in
        let Q = patterned vs ls sc P w in
        let w1 = on vs ls sc Q w in
        let b1 = behind_of names (length Z.0.tables.vars) pn (l1 ++ within_arms l) Q.count b in
        let ws = Entered p t vs in
        let A = expression_taken (entered sc Z.0.bindings) ws ls (child at (next j)) x Z.0.tables V.0 (with_pattern vs ls sc P w) (front_of names l1 (within_arms l) b1) Z.2 in
        let B = arms_taken sc vs ls at (next (next j)) l V.0 t' (on vs ls sc A w1) (behind_of names (length V.0.vars) l1 (within_arms l) A.count b1) V.2 in
        let n0 = binds_append pn (l1 ++ within_arms l) in
        let n1 = binds_append (below_expression x) (within_arms l) in
        in_turn3 Q A B (omega (arith, n0, n1)) (λ _ _ _ k l r i f. takes_quiet quiet_counted (λ u _. takes_then (k i) (λ j1 c g. takes_quiet quiet_counted (λ v _. takes_quiet (quiet_between u v) (λ _ _.
        takes_then (in_scope (λ us j2 a. Fits x us ls j1 j2 a) c (from (length t.vars) (bound p)) vs g.1 (l j1 false f)) (λ j2 d h. takes_map (named.arm_and c d) (r j2 f) (λ j3 f y. stands.s_arm_and g.0 h.stands y)))))))

    pub body_taken : (sc : Variables) (vs : List ℕ) (ls : List Around) (at : List ℕ) (b : Body) (t t' : ItemNames) → Scope vs ls sc t → Bound names (length t.vars) (below_block b) → in_block I sc ls at b t ≡ Ok t' → BodyTaken b vs ls t t'
    body_taken sc vs ls at (plain.body s ss o) t t' w b e =
        let X = named_ok (in_statements I sc ls at 0 ss t) (λ r. in_optional I r.scope ls (child at (number (length (listed ss)))) o r.tables) t' e in
        let A = statements_taken sc vs ls at 0 ss t X.0 w (front_of names (within_statements ss) (within_optional o) b) X.1 in
        let B = optional_taken X.0.scope A.after ls (child at (number (length (listed ss)))) o X.0.tables t' A.scope (behind_of names (length X.0.tables.vars) (within_statements ss) (within_optional o) A.part.count b) X.2 in
        body_comes sc vs ls at s ss o A.after t X.0.tables t' w A.part B (binds_append (within_statements ss) (within_optional o)) e

    statements_taken : (sc : Variables) (vs : List ℕ) (ls : List Around) (at : List ℕ) (j : ℕ) (ss : Statements) (t : ItemNames) (r : Scoped) → Scope vs ls sc t → Bound names (length t.vars) (within_statements ss) → in_statements I sc ls at j ss t ≡ Ok r → StatementsTaken ss vs ls t r
    statements_taken sc vs ls at j plain.no_statement t r w b e =
        subst (λ (z : Scoped). StatementsTaken plain.no_statement vs ls t z) (the_same (record { scope = sc; tables = t }) r e)
        (record { after = vs; scope = w; part = record { added = []; grown = sym (append-nil t.names); count = omega arith; rising = omega arith; numbers = λ _ _ i. takes_give named.no_statement stands.s_no_statement } })
    statements_taken sc vs ls at j (plain.statement_and a ss) t r w b e =
        let X = named_ok (in_statement I sc ls (child at j) a t) (λ r. in_statements I r.scope ls at (next j) ss r.tables) r e in
        let A = statement_taken sc vs ls (child at j) a t X.0 w (front_of names (below_statement a) (within_statements ss) b) X.1 in
        let B = statements_taken X.0.scope A.after ls at (next j) ss X.0.tables r A.scope (behind_of names (length X.0.tables.vars) (below_statement a) (within_statements ss) A.part.count b) X.2 in
        record {
          after = B.after;
          scope = B.scope;
          part = in_turn A.part B.part (binds_append (below_statement a) (within_statements ss)) (λ _ _ k l i. takes_then (k i) (λ j c g. takes_map (named.statement_and c) (l j)
              (λ z d h. stands.s_statement_and g.stands (subst (λ (us : List ℕ). StandsRow I names us ls j z ss d B.after) (sym g.scope) h))));
        }

    statement_taken : (sc : Variables) (vs : List ℕ) (ls : List Around) (at : List ℕ) (a : Statement) (t : ItemNames) (r : Scoped) → Scope vs ls sc t → Bound names (length t.vars) (below_statement a) → in_statement I sc ls at a t ≡ Ok r → StatementTaken a vs ls t r
    statement_taken sc vs ls at (plain.let_statement s p y plain.absent) t r w b e =
        let_part at s p y plain.absent sc vs ls t r w b (λ at t t' w b e. unchanged N M t t' (λ u fs. (i : ℕ) (k : Site) → Takes i (λ j a. StandsElse I names vs ls i j plain.absent a) t u fs (numbering.of_optional k plain.absent)) e (λ i k. takes_give named.absent stands.s_absent)) e
    statement_taken sc vs ls at (plain.let_statement s p y (plain.present x)) t r w b e =
        let_part at s p y (plain.present x) sc vs ls t r w b (λ at t t' w b e. restated (expression_taken sc vs ls at x t t' w b e) refl (λ es k i f. takes_map (λ z. named.present z) (k i false f) (λ j c h. stands.s_present h.stands))) e
    statement_taken sc vs ls at (plain.expression_statement s x m) t r w b e =
        let X = named_ok (in_expression I sc ls (child at 0) x t) (λ t. Ok (record { scope = sc; tables = t })) r e in
        let A = expression_taken sc vs ls (child at 0) x t X.0 w b X.1 in
        subst (λ (z : Scoped). StatementTaken (plain.expression_statement s x m) vs ls t z) (the_same (record { scope = sc; tables = X.0 }) r X.2)
        (record { after = vs; scope = on vs ls sc A w; part = restated A refl (λ _ k i. takes_node s Site.Value (λ n q. takes_map (λ z. named.evaluates n z m) (k (suc i) false Site.Value) (λ j c h. record { stands = stands.s_evaluates q h.stands; scope = refl }))) })
