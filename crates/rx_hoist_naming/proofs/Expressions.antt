-- Expressions, statements and blocks whose names have a meaning: what resolving adds of them numbering takes, and their trees with
-- numbers name structs and enums, and variables that there are.
use Rattle.std.proofs.Common.{◌≡◌, ℕ, zero, suc, ◌-◌, Bool, true, false, ◌&&◌, List, [], ◌∷◌, ◌++◌, length, map, take, drop, slice_set, Option, Some, None, Ok, refl, sym, ap, ◌∙◌, subst, append-nil, arith, codes}
use Rattle.rx_core.specs.declared.types.Span.{Span}
use Rattle.rx_tree.specs.declared.tree.Ident.{Ident}
use Rattle.rx_tree.specs.Lists.{listed}
use Rattle.rx_tree.specs.Plain as plain
use Rattle.rx_tree.specs.Plain.{TypeTree, PatternTree, Expression, Expressions, OptionalExpression, OptionalExpressions, FieldExpressions, Arms, Body, Statement, Statements}
use Rattle.rx_tree.specs.Positions.{a_pattern, an_expression, a_block}
use Rattle.rx_tree.specs.Nodes.{below_pattern, below_expression, below_block, below_statement, within_type, within_expressions, within_optional, within_arguments, within_fields, within_arms, within_statements}
use Rattle.rx_resolve_names.specs.Scopes.{DeclaredNames, Variables, variable_named, entered}
use Rattle.rx_resolve_names.specs.declared.resolved.ItemNames.{ItemNames}
use Rattle.rx_resolve_names.specs.declared.resolved.NodeNames.{NodeNames}
use Rattle.rx_resolve_names.specs.Meant.{number, type_name, function_name, item_named, as_function, as_rt, Around, a_loop, a_test, target}
use Rattle.rx_resolve_names.specs.Steps.{and_then, Naming, ◌>>◌, Inside, known, one, led, child, next, with_loop, with_names, position, numbered, names}
use Rattle.rx_resolve_names.specs.Names.{variant_in, struct_in, Bound, in_pattern, pattern_then, callee, rt_span, in_optional_type, initialiser_at, Scoped, in_expression, in_expressions, in_optional, in_arguments, in_fields, in_arms, in_block, in_statements, in_statement}
use Rattle.rx_typed.specs.declared.nodes.Node.{Node}
use Rattle.rx_typed.specs.declared.nodes.Site.{Site}
use Rattle.rx_typed.specs.declared.nodes.Stage.{Stage}
use Rattle.rx_typed.specs.declared.nodes.Declaration.{Declaration}
use Rattle.rx_typed.specs.declared.nodes.Use.{Use}
use Rattle.rx_typed.specs.Named as named
use Rattle.rx_typed.specs.Named.{Exp, Exps, node_of, root}
use Rattle.rx_typed.specs.Naming as numbering
use Rattle.rx_typed.specs.Naming.{Cursor, Numbering, give, an_entry, first, second, of_expression}
use Rattle.rx_hoist_naming.proofs.Claims.{Claims, OfPattern, OfAnnotation, OfExp, OfExps, OfElse, OfFields, OfArms, OfBody, OfStatement, OfStatements}
use Rattle.rx_hoist_naming.proofs.Steps.{named_ok, the_same, binds, binds_append, Takes, takes_then, takes_last, takes_give, takes_map, takes_node, takes_made, takes_entry, Quiet, takes_quiet, IsEntry, at_entry, Part, in_turn, in_turn3, in_turn4, in_new_loop, takes_in_loop, from_zero, restated, unchanged, entry_part}
use Rattle.rx_hoist_naming.proofs.TypeLemmas.{no_result_binds, ScopeBelow, scope_later, scope_entered, Sees, one_part, optional_type_taken, pattern_taken}

-- ---- steps of numbering that touch no names

abbrev pub Any : {A : Type 0} → A → Type 0
Any a = Unit {0}

among_length : (i k : ℕ) (ds : List Declaration) → length (numbering.known_among i k ds) ≡ length ds
among_length zero k ds = first_length k ds
  where
    first_length : (k : ℕ) (ds : List Declaration) → length (map numbering.as_known (take k ds) ++ drop k ds) ≡ length ds
    first_length zero ds = refl
    first_length (suc k) [] = refl
    first_length (suc k) (d ∷ ds) = ap suc (first_length k ds)
among_length (suc i) zero [] = refl
among_length (suc i) (suc k) [] = refl
among_length (suc i) k (d ∷ ds) = ap suc (among_length i k ds)

set_length : (ds : List Declaration) (x : ℕ) (d : Declaration) → length (slice_set ds x d) ≡ length ds
set_length [] zero d = refl
set_length [] (suc x) d = refl
set_length (e ∷ ds) zero d = refl
set_length (e ∷ ds) (suc x) d = ap suc (set_length ds x d)

pub quiet_counted : Quiet Any numbering.counted
quiet_counted = record { fits = λ c. tt; names = λ c. refl; declared = λ c. (refl, refl) }

pub quiet_between : (i j : ℕ) → Quiet Any (numbering.known_between i j)
quiet_between i j = record { fits = λ c. tt; names = λ c. refl; declared = λ c. (refl, among_length i (j - i) c.variables) }

pub quiet_annotates : (p : PatternTree) (y : Option TypeTree) → Quiet Any (numbering.annotates p y)
quiet_annotates p None = record { fits = λ c. tt; names = λ c. refl; declared = λ c. (refl, refl) }
quiet_annotates p (Some y) = record { fits = λ c. tt; names = λ c. refl; declared = λ c. (refl, refl) }

pub quiet_loop : Quiet Any numbering.a_loop
quiet_loop = record { fits = λ c. tt; names = λ c. refl; declared = λ c. (refl, refl) }

pub quiet_leads : (l : ℕ) → Quiet Any (numbering.leads l)
quiet_leads l = record { fits = λ c. tt; names = λ c. refl; declared = λ c. (refl, refl) }

pub quiet_is_left : (l : ℕ) → Quiet Any (numbering.is_left l)
quiet_is_left l = record { fits = λ c. tt; names = λ c. refl; declared = λ c. (refl, refl) }

quiet_given_here : (x : ℕ) (o : Option (ℕ × ℕ)) → Quiet Any (numbering.given_here x o)
quiet_given_here x None = record { fits = λ c. tt; names = λ c. refl; declared = λ c. (refl, refl) }
quiet_given_here x (Some w) = record { fits = λ c. tt; names = λ c. refl; declared = λ c. (refl, set_length c.variables x (record (numbering.declaration c x) { stage = Stage.Known })) }

pub quiet_gives_here : (x : ℕ) → Quiet Any (numbering.gives_here x)
quiet_gives_here x = record {
  fits = λ c. tt;
  names = λ c. (quiet_given_here x (numbering.waiting x (numbering.declaration c x).stage)).names c;
  declared = λ c. (quiet_given_here x (numbering.waiting x (numbering.declaration c x).stage)).declared c;
}

quiet_waits_at : (n : Node) (o : Option ℕ) → Quiet Any (numbering.waits_at n o)
quiet_waits_at n None = record { fits = λ c. tt; names = λ c. refl; declared = λ c. (refl, refl) }
quiet_waits_at n (Some x) = record { fits = λ c. tt; names = λ c. refl; declared = λ c. (refl, set_length c.variables x (record (numbering.declaration c x) { stage = Stage.Waits n.number n.span })) }

pub quiet_waits : (b : Bool) (p : named.Pattern) → Quiet Any (numbering.waits_if b p)
quiet_waits true p = quiet_waits_at (named.pattern_node p) (named.whole_binding p)
quiet_waits false p = record { fits = λ c. tt; names = λ c. refl; declared = λ c. (refl, refl) }

pub quiet_use : (V : ℕ → Type 0) (x : ℕ) → V x → Quiet (λ (u : Use). V u.number) (numbering.a_use x)
quiet_use V x v = record { fits = λ c. v; names = λ c. refl; declared = λ c. (refl, refl) }

-- the variable that is the whole of a place
abbrev pub RootHas : Claims → Expression → Exp → Type 0
RootHas C (plain.var s x) a = C.variable (root a).number
RootHas C _ a = Unit {0}

-- the one that waits for its type
abbrev pub Waits : Claims → Option (ℕ × ℕ) → Type 0
Waits C None = Unit {0}
Waits C (Some w) = C.variable w.0

waiting_has : (C : Claims) (x : ℕ) (s : Stage) → C.variable x → Waits C (numbering.waiting x s)
waiting_has C x Stage.Known v = tt
waiting_has C x Stage.Given v = tt
waiting_has C x (Stage.Waits p s) v = v

waits_has : (C : Claims) (p : Expression) (q : Exp) (c : Cursor) → RootHas C p q → Waits C (numbering.waits_in p (root q).number c)
waits_has C (plain.var s y) q c v = waiting_has C (root q).number (numbering.declaration c (root q).number).stage v
waits_has C (plain.int s v k) q c h = tt
waits_has C (plain.bool s b) q c h = tt
waits_has C (plain.tuple s es) q c h = tt
waits_has C (plain.field s e x) q c h = tt
waits_has C (plain.part s e i) q c h = tt
waits_has C (plain.deref s e) q c h = tt
waits_has C (plain.negate s e) q c h = tt
waits_has C (plain.invert s e) q c h = tt
waits_has C (plain.borrow s m e) q c h = tt
waits_has C (plain.binary s o a b) q c h = tt
waits_has C (plain.assign s a b) q c h = tt
waits_has C (plain.update s o a b) q c h = tt
waits_has C (plain.call s f es) q c h = tt
waits_has C (plain.next_input s) q c h = tt
waits_has C (plain.variant s a v es) q c h = tt
waits_has C (plain.make s n fs) q c h = tt
waits_has C (plain.print s e) q c h = tt
waits_has C (plain.block s b) q c h = tt
waits_has C (plain.if s c b o) q d h = tt
waits_has C (plain.if_let s p e b o) q c h = tt
waits_has C (plain.match s e l) q c h = tt
waits_has C (plain.loop s l b) q c h = tt
waits_has C (plain.while s l c b) q d h = tt
waits_has C (plain.while_let s l p e b) q c h = tt
waits_has C (plain.break s l) q c h = tt
waits_has C (plain.continue s l) q c h = tt
waits_has C (plain.return s o) q c h = tt

pub quiet_waits_for : (C : Claims) (p : Expression) (q : Exp) → RootHas C p q → Quiet (Waits C) (numbering.waits_for p q)
quiet_waits_for C p q h = record { fits = λ c. waits_has C p q c h; names = λ c. refl; declared = λ c. (refl, refl) }

-- ---- of an expression where it stands

pub record ExpFits (C : Claims) (e : Expression) (i : Site) (a : Exp) : Type 0 where
  pub claims : OfExp C a
  pub site : (node_of a).site ≡ i
  pub root : RootHas C e a

abbrev pub ExpTaken : Claims → ℕ → Expression → ItemNames → ItemNames → Type 0
ExpTaken C N e t t' = Part N t t' (binds (below_expression e)) (λ es. (m : Bool) (i : Site) → Takes (ExpFits C e i) t t' es (of_expression m i e))

abbrev pub AllTaken : Claims → ℕ → Expressions → ItemNames → ItemNames → Type 0
AllTaken C N es t t' = Part N t t' (binds (within_expressions es)) (λ fs. (i : Site) → Takes (OfExps C) t t' fs (numbering.of_expressions i es))

abbrev pub OptionalTaken : Claims → ℕ → OptionalExpression → ItemNames → ItemNames → Type 0
OptionalTaken C N o t t' = Part N t t' (binds (within_optional o)) (λ fs. (i : Site) → Takes (OfElse C) t t' fs (numbering.of_optional i o))

-- an initialiser, at its place
abbrev OfSited : Claims → Site → named.Else → Type 0
OfSited C i named.absent = Unit {0}
OfSited C i (named.present a) = OfExp C a × ((node_of a).site ≡ i)

abbrev pub InitialiserTaken : Claims → ℕ → OptionalExpression → ItemNames → ItemNames → Type 0
InitialiserTaken C N o t t' = Part N t t' (binds (within_optional o)) (λ fs. (i : Site) → Takes (OfSited C i) t t' fs (numbering.of_optional i o))

abbrev pub ArgumentsTaken : Claims → ℕ → OptionalExpressions → ItemNames → ItemNames → Type 0
ArgumentsTaken C N o t t' = Part N t t' (binds (within_arguments o)) (λ fs. Takes (OfExps C) t t' fs (numbering.of_arguments o))

abbrev pub FieldsTaken : Claims → ℕ → FieldExpressions → ItemNames → ItemNames → Type 0
FieldsTaken C N fs t t' = Part N t t' (binds (within_fields fs)) (λ gs. Takes (OfFields C) t t' gs (numbering.of_fields fs))

abbrev pub ArmsTaken : Claims → ℕ → Arms → ItemNames → ItemNames → Type 0
ArmsTaken C N l t t' = Part N t t' (binds (within_arms l)) (λ fs. (i : Site) → Takes (OfArms C) t t' fs (numbering.of_arms i l))

abbrev pub BodyTaken : Claims → ℕ → Body → ItemNames → ItemNames → Type 0
BodyTaken C N b t t' = Part N t t' (binds (below_block b)) (λ fs. (i : Site) → Takes (OfBody C) t t' fs (numbering.of_body i b))

pub record StatementTaken (C : Claims) (N : ℕ) (a : Statement) (t : ItemNames) (r : Scoped) : Type 0 where
  pub scope : ScopeBelow (length r.tables.vars) r.scope
  pub part : Part N t r.tables (binds (below_statement a)) (λ fs. Takes (OfStatement C) t r.tables fs (numbering.of_statement a))

pub record StatementsTaken (C : Claims) (N : ℕ) (ss : Statements) (t : ItemNames) (r : Scoped) : Type 0 where
  pub scope : ScopeBelow (length r.tables.vars) r.scope
  pub part : Part N t r.tables (binds (within_statements ss)) (λ fs. Takes (OfStatements C) t r.tables fs (numbering.of_statements ss))

-- the scope stays one where there are more variables
pub on : {N : ℕ} {t t1 : ItemNames} {k : ℕ} {K : List NodeNames → Type 0} (sc : Variables) → Part N t t1 k K → ScopeBelow (length t.vars) sc → ScopeBelow (length t1.vars) sc
on {t = t} {t1 = t1} sc a h = let c = a.count in scope_later (length t.vars) (length t1.vars) sc (omega (arith, c)) h

module _ (C : Claims) (I : Inside) (N : ℕ) (S : Sees C I N) where
  -- ---- what is no recursion

  called_taken : {t t' : ItemNames} {es : List NodeNames} (n : Node) (i : Site) (a : List ℕ × Bool) (s : Span) (g : Ident) (xs : Expressions) → n.site ≡ i
      → ((k : Site) → Takes (OfExps C) t t' es (numbering.of_expressions k xs)) → Takes (ExpFits C (plain.call s g xs) i) t t' es (numbering.called n a (λ k. numbering.of_expressions k xs))
  called_taken n i (ns, true) s g xs q k = takes_map (named.hidden_call n) (k Site.Value) (λ b h. record { claims = h; site = q; root = tt })
  called_taken n i (ns, false) s g xs q k = takes_map (named.call n (first ns)) (k Site.Expects) (λ b h. record { claims = h; site = q; root = tt })

  assigned_taken : {t t' : ItemNames} {es : List NodeNames} (n : Node) (i : Site) (s : Span) (p e : Expression) (x : Exp) (w : Option (ℕ × ℕ)) → n.site ≡ i → ExpFits C p Site.Place x → Waits C w
      → ((k : Site) → Takes (ExpFits C e k) t t' es (of_expression false k e)) → Takes (ExpFits C (plain.assign s p e) i) t t' es (numbering.assigned n x w (λ k. of_expression false k e))
  assigned_taken n i s p e x None q h w k = takes_map (named.assign n x) (k Site.Expects) (λ a f. record { claims = ((h.claims, h.site), f.claims); site = q; root = tt })
  assigned_taken n i s p e x (Some w) q h v k =
      takes_last (k Site.Reborrows) (λ a f. takes_quiet (quiet_use C.variable w.0 v) (λ u z. takes_quiet (quiet_gives_here w.0) (λ d y.
      takes_give (named.gives n (node_of x) u d a) (record { claims = (z, f.claims); site = q; root = tt }))))

  abbrev CalleeTaken : ItemNames → ItemNames → Type 0
  CalleeTaken t t' = Part N t t' 0 (λ es. Takes (λ a. Unit {0}) t t' es an_entry)

  callee_taken : (at : List ℕ) (x : Ident) (o : Option ℕ) (t t' : ItemNames) → callee I at x o t ≡ Ok t' → CalleeTaken t t'
  callee_taken at x None t t' e = restated (one_part N I at t t' (known (as_function (item_named function_name 0 I.program x.name)) x.span) e).part refl (λ es k. takes_map (λ a. a) k (λ a h. tt))
  callee_taken at x (Some n) t t' e =
      let X : NodeNames = record { node = position I at; numbers = n ∷ []; hidden = true } in
      subst (λ (v : ItemNames). CalleeTaken t v) (the_same (with_names X t) t' e)
      (record { added = X ∷ []; grown = refl; count = omega arith; numbers = λ _. takes_map (λ a. a) (takes_entry X) (λ a h. tt) })

  initialiser : {t t' : ItemNames} {es : List NodeNames} (x : Expression) (k : Site) → Takes (OfSited C k) t t' es (numbering.of_optional k (plain.present x)) → Takes (λ a. OfExp C a × ((node_of a).site ≡ k)) t t' es (of_expression false k x)
  initialiser x k n = record { holds = λ c rest d e. let z = n.holds c rest d e in record { fits = z.fits; declared = z.declared; left = z.left } }

  let_taken : {t t1 t2 t3 : ItemNames} {es fs gs : List NodeNames} (s : Span) (p : PatternTree) (y : Option TypeTree) (o : OptionalExpression)
      → Takes (OfPattern C) t t1 es (numbering.of_pattern p) → Takes (OfAnnotation C) t1 t2 fs (numbering.of_optional_type y) → ((i : Site) → Takes (OfSited C i) t2 t3 gs (numbering.of_optional i o))
      → Takes (OfStatement C) t t3 (es ++ (fs ++ gs)) (numbering.of_statement (plain.let_statement s p y o))
  let_taken s p y plain.absent k l m =
      takes_node s Site.Value (λ n q. takes_quiet (quiet_annotates p y) (λ _ _. takes_quiet quiet_counted (λ i _. takes_then k (λ c v. takes_quiet quiet_counted (λ j _. takes_then l (λ z h.
      takes_last (m Site.Value) (λ _ _. takes_quiet (quiet_between i j) (λ _ _. takes_quiet (quiet_waits (numbering.has_no_type z) c) (λ _ _. takes_give (named.declares n c z) (v, h))))))))))
  let_taken s p y (plain.present x) k l m =
      takes_node s Site.Value (λ n q. takes_quiet (quiet_annotates p y) (λ _ _. takes_quiet quiet_counted (λ i _. takes_then k (λ c v. takes_quiet quiet_counted (λ j _. takes_then l (λ z h.
      takes_last (initialiser x (numbering.initialiser_site z) (m (numbering.initialiser_site z))) (λ a d. takes_quiet (quiet_between i j) (λ _ _. takes_quiet (quiet_waits (numbering.has_no_type z && named.never a) c) (λ _ _. takes_give (named.lets n c z a) (v, h, d.0, d.1))))))))))

  let_part : (at : List ℕ) (s : Span) (p : PatternTree) (y : Option TypeTree) (o : OptionalExpression) (sc : Variables) (ls : List Around) (t : ItemNames) (r : Scoped) → ScopeBelow (length t.vars) sc
      → ((at : List ℕ) (t t' : ItemNames) → ScopeBelow (length t.vars) sc → in_optional I sc ls at o t ≡ Ok t' → InitialiserTaken C N o t t')
      → in_statement I sc ls at (plain.let_statement s p y o) t ≡ Ok r → StatementTaken C N (plain.let_statement s p y o) t r
  let_part at s p y o sc ls t r w h e =
      let b0 : Bound = record { bindings = []; tables = t } in
      let to : DeclaredNames → ItemNames → Scoped = λ ds t. record { scope = entered sc ds; tables = t } in
      let i = initialiser_at y in
      let g = in_optional_type I (child at 1) y in let k = in_optional I sc ls (child at i) o in
      let Z = named_ok (in_pattern I (child at 0) p b0) (λ b. and_then ((g >> k) b.tables) (λ t. Ok (to b.bindings t))) r e in
      let Y = named_ok ((g >> k) Z.0.tables) (λ t. Ok (to Z.0.bindings t)) r Z.2 in
      let X = named_ok (g Z.0.tables) k Y.0 Y.1 in
      let P = pattern_taken C I N S (child at 0) p b0 Z.0 Z.1 tt in
      let T = optional_type_taken C I N S (child at 1) y Z.0.tables X.0 X.1 in
      let w1 = on sc P.part w in
      let D = h (child at i) X.0 Y.0 (on sc T w1) X.2 in
      let bs = scope_entered (length Z.0.tables.vars) sc Z.0.bindings w1 P.below in
      let n1 = binds_append (a_pattern p ∷ below_pattern p) (within_type y ++ within_optional o) in
      let n2 = binds_append (within_type y) (within_optional o) in
      let n3 = no_result_binds y in
      subst (λ (z : Scoped). StatementTaken C N (plain.let_statement s p y o) t z) (the_same (to Z.0.bindings Y.0) r Y.2) (record {
        scope = on (entered sc Z.0.bindings) D (on (entered sc Z.0.bindings) T bs);
        part = in_turn3 P.part T D (omega (arith, n1, n2, n3)) (λ es fs gs x y' z. let_taken s p y o x y' z);
      })

  known_is : (o : Option ℕ) (s : Span) (n : ℕ) → known o s ≡ Ok n → o ≡ Some n
  known_is None s n e = absurd (cc)
  known_is (Some m) s n e = ap (λ (z : ℕ). Some z) (the_same m n e)

  -- a variable
  used : {t t' : ItemNames} {es : List NodeNames} (s : Span) (x : List ℕ) (n : Node) (i : Site) → n.site ≡ i → (k : ℕ) → C.variable k → Takes (IsEntry (k ∷ []) false) t t' es an_entry
      → Takes (ExpFits C (plain.var s x) i) t t' es (numbering.and_then an_entry (λ ns c. (named.var n (numbering.use_of (first ns.0) (numbering.declaration c (first ns.0))), c)))
  used s x n i q k v h = record {
    holds = λ c rest d e.
        let z = h.holds c rest d e in
        let y = at_entry (λ a. C.variable (first a.0)) (k ∷ []) false (an_entry c).0 z.fits v in
        record { fits = record { claims = y; site = q; root = y }; declared = z.declared; left = z.left };
  }

  -- ---- all forms

  mutual
    pub expression_taken : (sc : Variables) (ls : List Around) (at : List ℕ) (e : Expression) (t t' : ItemNames) → ScopeBelow (length t.vars) sc → in_expression I sc ls at e t ≡ Ok t' → ExpTaken C N e t t'
    expression_taken sc ls at (plain.int s v k) t t' w e =
        unchanged N t t' (λ u es. (m : Bool) (i : Site) → Takes (ExpFits C (plain.int s v k) i) t u es (of_expression m i (plain.int s v k))) e (λ m i. takes_made s i (λ n. named.int n m v k) (λ n q. record { claims = tt; site = q; root = tt }))
    expression_taken sc ls at (plain.bool s b) t t' w e =
        unchanged N t t' (λ u es. (m : Bool) (i : Site) → Takes (ExpFits C (plain.bool s b) i) t u es (of_expression m i (plain.bool s b))) e (λ m i. takes_made s i (λ n. named.bool n b) (λ n q. record { claims = tt; site = q; root = tt }))
    expression_taken sc ls at (plain.tuple s es) t t' w e =
        restated (all_taken sc ls at 0 es t t' w e) refl (λ fs k m i. takes_node s i (λ n q. takes_map (named.tuple n) (k Site.Value) (λ c h. record { claims = h; site = q; root = tt })))
    expression_taken sc ls at (plain.var s x) t t' w e =
        let A = one_part N I at t t' (known (variable_named sc x) s) e in
        let v = known_is (variable_named sc x) s A.first A.found in
        let c = A.part.count in
        record {
          added = A.part.added;
          grown = A.part.grown;
          count = c;
          numbers = λ most m i. takes_node s i (λ n q. used s x n i q A.first (S.variables A.first (let l = w x A.first v in omega (arith, l, c, most))) (A.part.numbers most));
        }
    expression_taken sc ls at (plain.field s x f) t t' w e =
        restated (expression_taken sc ls (child at 0) x t t' w e) refl (λ es k m i. takes_node s i (λ n q. takes_map (λ c. named.field n c f.name) (k false Site.Place) (λ c h. record { claims = (h.claims, h.site); site = q; root = tt })))
    expression_taken sc ls at (plain.part s x j) t t' w e =
        restated (expression_taken sc ls (child at 0) x t t' w e) refl (λ es k m i. takes_node s i (λ n q. takes_map (λ c. named.part n c j) (k false Site.Place) (λ c h. record { claims = (h.claims, h.site); site = q; root = tt })))
    expression_taken sc ls at (plain.deref s x) t t' w e =
        restated (expression_taken sc ls (child at 0) x t t' w e) refl (λ es k m i. takes_node s i (λ n q. takes_map (named.deref n) (k false Site.Place) (λ c h. record { claims = (h.claims, h.site); site = q; root = tt })))
    expression_taken sc ls at (plain.negate s x) t t' w e =
        restated (expression_taken sc ls (child at 0) x t t' w e) refl (λ es k m i. takes_node s i (λ n q. takes_map (named.negate n) (k true Site.Value) (λ c h. record { claims = h.claims; site = q; root = tt })))
    expression_taken sc ls at (plain.invert s x) t t' w e =
        restated (expression_taken sc ls (child at 0) x t t' w e) refl (λ es k m i. takes_node s i (λ n q. takes_map (named.invert n) (k false Site.Value) (λ c h. record { claims = h.claims; site = q; root = tt })))
    expression_taken sc ls at (plain.borrow s r x) t t' w e =
        restated (expression_taken sc ls (child at 0) x t t' w e) refl (λ es k m i. takes_node s i (λ n q. takes_map (named.borrow n r) (k false Site.Place) (λ c h. record { claims = (h.claims, h.site); site = q; root = tt })))
    expression_taken sc ls at (plain.binary s o x y) t t' w e =
        let X = named_ok (in_expression I sc ls (child at 0) x t) (in_expression I sc ls (child at 1) y) t' e in
        let A = expression_taken sc ls (child at 0) x t X.0 w X.1 in
        let B = expression_taken sc ls (child at 1) y X.0 t' (on sc A w) X.2 in
        in_turn A B (binds_append (below_expression x) (an_expression y ∷ below_expression y)) (λ es fs k l m i. takes_node s i (λ n q. takes_then (k false Site.Value) (λ c g. takes_map (named.binary n o c) (l false Site.Value) (λ d h. record { claims = (g.claims, h.claims); site = q; root = tt }))))
    expression_taken sc ls at (plain.assign s x y) t t' w e =
        let X = named_ok (in_expression I sc ls (child at 0) x t) (in_expression I sc ls (child at 1) y) t' e in
        let A = expression_taken sc ls (child at 0) x t X.0 w X.1 in
        let B = expression_taken sc ls (child at 1) y X.0 t' (on sc A w) X.2 in
        in_turn A B (binds_append (below_expression x) (an_expression y ∷ below_expression y)) (λ es fs k l m i. takes_node s i (λ n q. takes_then (k false Site.Place) (λ c g. takes_quiet (quiet_waits_for C x c g.root) (λ z v.
        assigned_taken n i s x y c z q g v (λ k. l false k)))))
    expression_taken sc ls at (plain.update s o x y) t t' w e =
        let X = named_ok (in_expression I sc ls (child at 0) x t) (in_expression I sc ls (child at 1) y) t' e in
        let A = expression_taken sc ls (child at 0) x t X.0 w X.1 in
        let B = expression_taken sc ls (child at 1) y X.0 t' (on sc A w) X.2 in
        in_turn A B (binds_append (below_expression x) (an_expression y ∷ below_expression y)) (λ es fs k l m i. takes_node s i (λ n q. takes_then (k false Site.Place) (λ c g. takes_map (named.update n o c) (l false Site.Value) (λ d h. record { claims = ((g.claims, g.site), h.claims); site = q; root = tt }))))
    expression_taken sc ls at (plain.call s f es) t t' w e =
        let X = named_ok (callee I at f (variable_named sc f.name) t) (in_expressions I sc ls at 0 es) t' e in
        let A = callee_taken at f (variable_named sc f.name) t X.0 X.1 in
        let B = all_taken sc ls at 0 es X.0 t' (on sc A w) X.2 in
        in_turn A B (from_zero (binds (within_expressions es))) (λ _ _ k l m i. takes_node s i (λ n q. takes_then k (λ c h. called_taken n i c s f es q l)))
    expression_taken sc ls at (plain.next_input s) t t' w e =
        restated (one_part N I at t t' (known (as_rt (item_named type_name 0 I.program (codes "rt"))) (rt_span s)) e).part refl (λ es k m i. takes_node s i (λ n q. takes_map (λ z. named.next_input n) k (λ c h. record { claims = tt; site = q; root = tt })))
    expression_taken sc ls at (plain.variant s c v es) t t' w e =
        let X = named_ok (names I at (variant_in I c v) t) (in_arguments I sc ls at es) t' e in
        let y = named_ok (variant_in I c v) (λ ns. numbered I at ns t) X.0 X.1 in
        let f = S.variants c v y.0 y.1 in
        let A = entry_part N I at t X.0 f.0 (f.1 ∷ []) (variant_in I c v) (y.1 ∙ ap (λ (l : List ℕ). Ok l) f.2) X.1 in
        let B = arguments_taken sc ls at es X.0 t' (on sc A w) X.2 in
        in_turn A B (from_zero (binds (within_arguments es))) (λ _ _ k l m i. takes_node s i (λ n q. takes_then k (λ y r. takes_map (named.variant n (first y.0) (second y.0)) l (λ es h.
        record { claims = (at_entry (λ z. C.item (first z.0)) (f.0 ∷ f.1 ∷ []) false y r f.3, h); site = q; root = tt }))))
    expression_taken sc ls at (plain.make s x fs) t t' w e =
        let X = named_ok (names I at (one (struct_in I x)) t) (in_fields I sc ls at 0 fs) t' e in
        let A = one_part N I at t X.0 (struct_in I x) X.1 in
        let B = fields_taken sc ls at 0 fs X.0 t' (on sc A.part w) X.2 in
        in_turn A.part B (from_zero (binds (within_fields fs))) (λ _ _ k l m i. takes_node s i (λ n q. takes_then k (λ y r. takes_map (named.make n (first y.0)) l (λ fs h.
        record { claims = (at_entry (λ z. C.item (first z.0)) (A.first ∷ []) false y r (S.structs x A.first A.found), h); site = q; root = tt }))))
    expression_taken sc ls at (plain.print s x) t t' w e =
        restated (expression_taken sc ls (child at 0) x t t' w e) refl (λ es k m i. takes_node s i (λ n q. takes_map (named.print n) (k false Site.Value) (λ c h. record { claims = h.claims; site = q; root = tt })))
    expression_taken sc ls at (plain.block s b) t t' w e =
        restated (body_taken sc ls (child at 0) b t t' w e) refl (λ es k m i. takes_node s i (λ n q. takes_map (named.block n) (k (numbering.passed_on i)) (λ c h. record { claims = h; site = q; root = tt })))
    expression_taken sc ls at (plain.if s c x o) t t' w e =
        let X = named_ok (in_expression I sc ls (child at 0) c t) (in_block I sc ls (child at 1) x >> in_optional I sc ls (child at 2) o) t' e in
        let Y = named_ok (in_block I sc ls (child at 1) x X.0) (in_optional I sc ls (child at 2) o) t' X.2 in
        let A = expression_taken sc ls (child at 0) c t X.0 w X.1 in
        let w1 = on sc A w in
        let B = body_taken sc ls (child at 1) x X.0 Y.0 w1 Y.1 in
        let D = optional_taken sc ls (child at 2) o Y.0 t' (on sc B w1) Y.2 in
        let n1 = binds_append (below_expression c) (a_block x ∷ (below_block x ++ within_optional o)) in
        let n2 = binds_append (below_block x) (within_optional o) in
        in_turn3 A B D (omega (arith, n1, n2)) (λ _ _ _ k l r m i. takes_node s i (λ n q. takes_then (k false Site.Value) (λ c g. takes_then (l (numbering.branch_site i o)) (λ b h. takes_map (named.if n c b) (r (numbering.passed_on i)) (λ z j.
        record { claims = (g.claims, h, j); site = q; root = tt })))))
    expression_taken sc ls at (plain.if_let s p y x o) t t' w e =
        let b0 : Bound = record { bindings = []; tables = t } in
        let g : Bound → Naming = λ b. in_expression I sc ls (child at 1) y >> in_block I (entered sc b.bindings) ls (child at 2) x >> in_optional I sc ls (child at 3) o in
        let Z = named_ok (in_pattern I (child at 0) p b0) (λ b. g b b.tables) t' e in
        let X = named_ok (in_expression I sc ls (child at 1) y Z.0.tables) (in_block I (entered sc Z.0.bindings) ls (child at 2) x >> in_optional I sc ls (child at 3) o) t' Z.2 in
        let Y = named_ok (in_block I (entered sc Z.0.bindings) ls (child at 2) x X.0) (in_optional I sc ls (child at 3) o) t' X.2 in
        let P = pattern_taken C I N S (child at 0) p b0 Z.0 Z.1 tt in
        let w1 = on sc P.part w in
        let A = expression_taken sc ls (child at 1) y Z.0.tables X.0 w1 X.1 in
        let B = body_taken (entered sc Z.0.bindings) ls (child at 2) x X.0 Y.0 (on (entered sc Z.0.bindings) A (scope_entered (length Z.0.tables.vars) sc Z.0.bindings w1 P.below)) Y.1 in
        let D = optional_taken sc ls (child at 3) o Y.0 t' (on sc B (on sc A w1)) Y.2 in
        let n0 = binds_append (a_pattern p ∷ below_pattern p) (an_expression y ∷ (below_expression y ++ (a_block x ∷ (below_block x ++ within_optional o)))) in
        let n1 = binds_append (below_expression y) (a_block x ∷ (below_block x ++ within_optional o)) in
        let n2 = binds_append (below_block x) (within_optional o) in
        in_turn4 P.part A B D (omega (arith, n0, n1, n2)) (λ _ _ _ _ k l r z m i. takes_node s i (λ n q. takes_quiet quiet_counted (λ u _. takes_then k (λ c g. takes_quiet quiet_counted (λ v _. takes_then (l false Site.Scrutinee) (λ d h.
        takes_quiet (quiet_between u v) (λ _ _. takes_then (r (numbering.branch_site i o)) (λ b j. takes_map (named.if_let n c d b) (z (numbering.passed_on i)) (λ f y. record { claims = (g, h.claims, j, y); site = q; root = tt })))))))))
    expression_taken sc ls at (plain.match s x l) t t' w e =
        let X = named_ok (in_expression I sc ls (child at 0) x t) (in_arms I sc ls at 1 l) t' e in
        let A = expression_taken sc ls (child at 0) x t X.0 w X.1 in
        let B = arms_taken sc ls at 1 l X.0 t' (on sc A w) X.2 in
        in_turn A B (binds_append (below_expression x) (within_arms l)) (λ _ _ k l m i. takes_node s i (λ n q. takes_then (k false Site.Scrutinee) (λ c g. takes_map (named.match n c) (l (numbering.passed_on i)) (λ d h. record { claims = (g.claims, h); site = q; root = tt }))))
    expression_taken sc ls at (plain.loop s l b) t t' w e =
        let p = position I at in
        in_new_loop p (body_taken sc (a_loop l (number (length t.loops)) ∷ ls) (child at 0) b (with_loop p t) t' w e)
        (λ es k m i. takes_in_loop p (takes_node s i (λ n q. takes_quiet quiet_loop (λ j _. takes_last (k Site.Value) (λ c h. takes_quiet (quiet_is_left j) (λ z _. takes_give (named.loop n j z c) (record { claims = h; site = q; root = tt })))))))
    expression_taken sc ls at (plain.while s l x b) t t' w e =
        let p = position I at in
        let u = with_loop p t in
        let n = number (length t.loops) in
        let X = named_ok (in_expression I sc (a_test ∷ a_loop l n ∷ ls) (child at 0) x u) (in_block I sc (a_loop l n ∷ ls) (child at 1) b) t' e in
        let A = expression_taken sc (a_test ∷ a_loop l n ∷ ls) (child at 0) x u X.0 w X.1 in
        let B = body_taken sc (a_loop l n ∷ ls) (child at 1) b X.0 t' (on sc A w) X.2 in
        in_new_loop {K = λ es. (m : Bool) (i : Site) → Takes (ExpFits C (plain.while s l x b) i) u t' es (of_expression m i (plain.while s l x b))} p (in_turn A B (binds_append (below_expression x) (a_block b ∷ below_block b)) (λ _ _ k r m i. takes_node s i (λ n q. takes_quiet quiet_loop (λ j _. takes_then (k false Site.Value) (λ c g. takes_map (named.while n j c) (r Site.Value) (λ d h. record { claims = (g.claims, h); site = q; root = tt }))))))
        (λ es k m i. takes_in_loop p (k m i))
    expression_taken sc ls at (plain.while_let s l p y x) t t' w e =
        let q = position I at in
        let u = with_loop q t in
        let n = number (length t.loops) in
        let b0 : Bound = record { bindings = []; tables = u } in
        let g : Bound → Naming = λ b. in_expression I sc (a_test ∷ a_loop l n ∷ ls) (child at 1) y >> in_block I (entered sc b.bindings) (a_loop l n ∷ ls) (child at 2) x in
        let Z = named_ok (in_pattern I (child at 0) p b0) (λ b. g b b.tables) t' e in
        let X = named_ok (in_expression I sc (a_test ∷ a_loop l n ∷ ls) (child at 1) y Z.0.tables) (in_block I (entered sc Z.0.bindings) (a_loop l n ∷ ls) (child at 2) x) t' Z.2 in
        let P = pattern_taken C I N S (child at 0) p b0 Z.0 Z.1 tt in
        let w1 = on sc P.part w in
        let A = expression_taken sc (a_test ∷ a_loop l n ∷ ls) (child at 1) y Z.0.tables X.0 w1 X.1 in
        let B = body_taken (entered sc Z.0.bindings) (a_loop l n ∷ ls) (child at 2) x X.0 t' (on (entered sc Z.0.bindings) A (scope_entered (length Z.0.tables.vars) sc Z.0.bindings w1 P.below)) X.2 in
        let n0 = binds_append (a_pattern p ∷ below_pattern p) (an_expression y ∷ (below_expression y ++ (a_block x ∷ below_block x))) in
        let n1 = binds_append (below_expression y) (a_block x ∷ below_block x) in
        in_new_loop {K = λ es. (m : Bool) (i : Site) → Takes (ExpFits C (plain.while_let s l p y x) i) u t' es (of_expression m i (plain.while_let s l p y x))} q (in_turn3 P.part A B (omega (arith, n0, n1)) (λ _ _ _ k l r m i. takes_node s i (λ n q. takes_quiet quiet_loop (λ j _. takes_quiet quiet_counted (λ u _. takes_then k (λ c g. takes_quiet quiet_counted (λ v _. takes_then (l false Site.Scrutinee) (λ d h.
        takes_quiet (quiet_between u v) (λ _ _. takes_map (named.while_let n j c d) (r Site.Value) (λ b z. record { claims = (g, h.claims, z); site = q; root = tt }))))))))))
        (λ es k m i. takes_in_loop q (k m i))
    expression_taken sc ls at (plain.break s l) t t' w e =
        restated (one_part N I at t t' (led s l (target l ls)) e).part refl (λ es k m i. takes_node s i (λ n q. takes_last k (λ ns h. takes_quiet (quiet_leads (first ns.0)) (λ _ _. takes_give (named.break n (first ns.0)) (record { claims = tt; site = q; root = tt })))))
    expression_taken sc ls at (plain.continue s l) t t' w e =
        restated (one_part N I at t t' (led s l (target l ls)) e).part refl (λ es k m i. takes_node s i (λ n q. takes_map (λ ns. named.continue n (first ns.0)) k (λ ns h. record { claims = tt; site = q; root = tt })))
    expression_taken sc ls at (plain.return s o) t t' w e =
        restated (optional_taken sc ls (child at 0) o t t' w e) refl (λ es k m i. takes_node s i (λ n q. takes_map (named.return n) (k Site.Expects) (λ c h. record { claims = h; site = q; root = tt })))

    pub all_taken : (sc : Variables) (ls : List Around) (at : List ℕ) (j : ℕ) (es : Expressions) (t t' : ItemNames) → ScopeBelow (length t.vars) sc → in_expressions I sc ls at j es t ≡ Ok t' → AllTaken C N es t t'
    all_taken sc ls at j plain.no_expression t t' w e = unchanged N t t' (λ u fs. (i : Site) → Takes (OfExps C) t u fs (numbering.of_expressions i plain.no_expression)) e (λ i. takes_give named.no_exp tt)
    all_taken sc ls at j (plain.expression_and x es) t t' w e =
        let X = named_ok (in_expression I sc ls (child at j) x t) (in_expressions I sc ls at (next j) es) t' e in
        let A = expression_taken sc ls (child at j) x t X.0 w X.1 in
        let B = all_taken sc ls at (next j) es X.0 t' (on sc A w) X.2 in
        in_turn A B (binds_append (below_expression x) (within_expressions es)) (λ _ _ k l i. takes_then (k false i) (λ c g. takes_map (named.exp_and c) (l i) (λ d h. (g.claims, h))))

    pub optional_taken : (sc : Variables) (ls : List Around) (at : List ℕ) (o : OptionalExpression) (t t' : ItemNames) → ScopeBelow (length t.vars) sc → in_optional I sc ls at o t ≡ Ok t' → OptionalTaken C N o t t'
    optional_taken sc ls at plain.absent t t' w e = unchanged N t t' (λ u fs. (i : Site) → Takes (OfElse C) t u fs (numbering.of_optional i plain.absent)) e (λ i. takes_give named.absent tt)
    optional_taken sc ls at (plain.present x) t t' w e = restated (expression_taken sc ls at x t t' w e) refl (λ es k i. takes_map (λ z. named.present z) (k false i) (λ c h. h.claims))

    arguments_taken : (sc : Variables) (ls : List Around) (at : List ℕ) (o : OptionalExpressions) (t t' : ItemNames) → ScopeBelow (length t.vars) sc → in_arguments I sc ls at o t ≡ Ok t' → ArgumentsTaken C N o t t'
    arguments_taken sc ls at plain.no_list t t' w e = unchanged N t t' (λ u fs. Takes (OfExps C) t u fs (numbering.of_arguments plain.no_list)) e (takes_give named.no_exp tt)
    arguments_taken sc ls at (plain.a_list es) t t' w e = restated (all_taken sc ls at 0 es t t' w e) refl (λ fs k. k Site.Expects)

    fields_taken : (sc : Variables) (ls : List Around) (at : List ℕ) (j : ℕ) (fs : FieldExpressions) (t t' : ItemNames) → ScopeBelow (length t.vars) sc → in_fields I sc ls at j fs t ≡ Ok t' → FieldsTaken C N fs t t'
    fields_taken sc ls at j plain.no_field t t' w e = unchanged N t t' (λ u fs. Takes (OfFields C) t u fs (numbering.of_fields plain.no_field)) e (takes_give named.no_field tt)
    fields_taken sc ls at j (plain.field_and y x fs) t t' w e =
        let X = named_ok (in_expression I sc ls (child at j) x t) (in_fields I sc ls at (next j) fs) t' e in
        let A = expression_taken sc ls (child at j) x t X.0 w X.1 in
        let B = fields_taken sc ls at (next j) fs X.0 t' (on sc A w) X.2 in
        in_turn A B (binds_append (below_expression x) (within_fields fs)) (λ _ _ k l. takes_then (k false Site.Expects) (λ c g. takes_map (named.field_and y.name c) l (λ d h. (g.claims, h))))

    arms_taken : (sc : Variables) (ls : List Around) (at : List ℕ) (j : ℕ) (l : Arms) (t t' : ItemNames) → ScopeBelow (length t.vars) sc → in_arms I sc ls at j l t ≡ Ok t' → ArmsTaken C N l t t'
    arms_taken sc ls at j plain.no_arm t t' w e = unchanged N t t' (λ u fs. (i : Site) → Takes (OfArms C) t u fs (numbering.of_arms i plain.no_arm)) e (λ i. takes_give named.no_arm tt)
    arms_taken sc ls at j (plain.arm_and p x l) t t' w e =
        let b0 : Bound = record { bindings = []; tables = t } in
        let V = named_ok (pattern_then I (child at j) p (λ ds. in_expression I (entered sc ds) ls (child at (next j)) x) t) (in_arms I sc ls at (next (next j)) l) t' e in
        let Z = named_ok (in_pattern I (child at j) p b0) (λ b. in_expression I (entered sc b.bindings) ls (child at (next j)) x b.tables) V.0 V.1 in
        let P = pattern_taken C I N S (child at j) p b0 Z.0 Z.1 tt in
        let w1 = on sc P.part w in
        let A = expression_taken (entered sc Z.0.bindings) ls (child at (next j)) x Z.0.tables V.0 (scope_entered (length Z.0.tables.vars) sc Z.0.bindings w1 P.below) Z.2 in
        let B = arms_taken sc ls at (next (next j)) l V.0 t' (on sc A w1) V.2 in
        let n0 = binds_append (a_pattern p ∷ below_pattern p) (an_expression x ∷ (below_expression x ++ within_arms l)) in
        let n1 = binds_append (below_expression x) (within_arms l) in
        in_turn3 P.part A B (omega (arith, n0, n1)) (λ _ _ _ k l r i. takes_quiet quiet_counted (λ u _. takes_then k (λ c g. takes_quiet quiet_counted (λ v _. takes_quiet (quiet_between u v) (λ _ _.
        takes_then (l false i) (λ d h. takes_map (named.arm_and c d) (r i) (λ f y. (g, h.claims, y))))))))

    pub body_taken : (sc : Variables) (ls : List Around) (at : List ℕ) (b : Body) (t t' : ItemNames) → ScopeBelow (length t.vars) sc → in_block I sc ls at b t ≡ Ok t' → BodyTaken C N b t t'
    body_taken sc ls at (plain.body s ss o) t t' w e =
        let X = named_ok (in_statements I sc ls at 0 ss t) (λ r. in_optional I r.scope ls (child at (number (length (listed ss)))) o r.tables) t' e in
        let A = statements_taken sc ls at 0 ss t X.0 w X.1 in
        let B = optional_taken X.0.scope ls (child at (number (length (listed ss)))) o X.0.tables t' A.scope X.2 in
        in_turn A.part B (binds_append (within_statements ss) (within_optional o)) (λ _ _ k l i. takes_node s i (λ n q. takes_then k (λ c g. takes_map (named.body n c) (l i) (λ d h. (g, h)))))

    statements_taken : (sc : Variables) (ls : List Around) (at : List ℕ) (j : ℕ) (ss : Statements) (t : ItemNames) (r : Scoped) → ScopeBelow (length t.vars) sc → in_statements I sc ls at j ss t ≡ Ok r → StatementsTaken C N ss t r
    statements_taken sc ls at j plain.no_statement t r w e =
        subst (λ (z : Scoped). StatementsTaken C N plain.no_statement t z) (the_same (record { scope = sc; tables = t }) r e)
        (record { scope = w; part = record { added = []; grown = sym (append-nil t.names); count = omega arith; numbers = λ _. takes_give named.no_statement tt } })
    statements_taken sc ls at j (plain.statement_and a ss) t r w e =
        let X = named_ok (in_statement I sc ls (child at j) a t) (λ r. in_statements I r.scope ls at (next j) ss r.tables) r e in
        let A = statement_taken sc ls (child at j) a t X.0 w X.1 in
        let B = statements_taken X.0.scope ls at (next j) ss X.0.tables r A.scope X.2 in
        record { scope = B.scope; part = in_turn A.part B.part (binds_append (below_statement a) (within_statements ss)) (λ _ _ k l. takes_then k (λ c g. takes_map (named.statement_and c) l (λ d h. (g, h)))) }

    statement_taken : (sc : Variables) (ls : List Around) (at : List ℕ) (a : Statement) (t : ItemNames) (r : Scoped) → ScopeBelow (length t.vars) sc → in_statement I sc ls at a t ≡ Ok r → StatementTaken C N a t r
    statement_taken sc ls at (plain.let_statement s p y plain.absent) t r w e = let_part at s p y plain.absent sc ls t r w (λ at t t' w e. unchanged N t t' (λ u fs. (i : Site) → Takes (OfSited C i) t u fs (numbering.of_optional i plain.absent)) e (λ i. takes_give named.absent tt)) e
    statement_taken sc ls at (plain.let_statement s p y (plain.present x)) t r w e = let_part at s p y (plain.present x) sc ls t r w (λ at t t' w e. restated (expression_taken sc ls at x t t' w e) refl (λ es k i. takes_map (λ z. named.present z) (k false i) (λ c h. (h.claims, h.site)))) e
    statement_taken sc ls at (plain.expression_statement s x b) t r w e =
        let X = named_ok (in_expression I sc ls (child at 0) x t) (λ t. Ok (record { scope = sc; tables = t })) r e in
        let A = expression_taken sc ls (child at 0) x t X.0 w X.1 in
        subst (λ (z : Scoped). StatementTaken C N (plain.expression_statement s x b) t z) (the_same (record { scope = sc; tables = X.0 }) r X.2)
        (record { scope = on sc A w; part = restated A refl (λ _ k. takes_node s Site.Value (λ n q. takes_map (λ z. named.evaluates n z b) (k false Site.Value) (λ c h. h.claims))) })
