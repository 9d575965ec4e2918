-- Expressions, statements and blocks whose names have a meaning: in their trees with numbers each variable is in the scope of its pattern,
-- each jump in its loop, and each part of a place where a place is wanted.
use Rattle.std.proofs.Common.{◌≡◌, ℕ, Bool, true, false, ◌&&◌, List, [], ◌∷◌, length, Option, Some, None, Ok, refl, sym, ap, ◌∙◌, subst, append-nil, arith, codes, length-set}
use Rattle.rx_core.specs.declared.types.Span.{Span}
use Rattle.rx_tree.specs.declared.tree.Ident.{Ident}
use Rattle.rx_tree.specs.Lists.{listed}
use Rattle.rx_tree.specs.Plain as plain
use Rattle.rx_tree.specs.Plain.{TypeTree, PatternTree, Expression, Expressions, OptionalExpression, OptionalExpressions, FieldExpressions, Arms, Body, Statement, Statements}
use Rattle.rx_resolve_names.specs.Scopes as scopes
use Rattle.rx_resolve_names.specs.Scopes.{DeclaredNames, Variables, Variable, variable_named}
use Rattle.rx_resolve_names.specs.declared.resolved.ItemNames.{ItemNames}
use Rattle.rx_resolve_names.specs.declared.resolved.NodeNames.{NodeNames}
use Rattle.rx_resolve_names.specs.Meant.{number, type_name, function_name, item_named, as_function, as_rt, Around, a_loop, a_test, Target, to_loop, out_of_test, nowhere, target}
use Rattle.rx_resolve_names.specs.Steps.{and_then, Naming, ◌>>◌, Inside, known, one, led, child, next, with_loop, with_names, position, names}
use Rattle.rx_resolve_names.specs.Names.{variant_in, struct_in, Bound, in_pattern, pattern_then, callee, rt_span, in_optional_type, initialiser_at, Scoped, in_expression, in_expressions, in_optional, in_arguments, in_fields, in_arms, in_block, in_statements, in_statement}
use Rattle.rx_typed.specs.declared.nodes.Node.{Node}
use Rattle.rx_typed.specs.declared.nodes.Site.{Site}
use Rattle.rx_typed.specs.declared.nodes.Stage.{Stage}
use Rattle.rx_typed.specs.declared.nodes.Use.{Use}
use Rattle.rx_typed.specs.Named as named
use Rattle.rx_typed.specs.Named.{Exp, Exps, node_of, root}
use Rattle.rx_typed.specs.Naming as numbering
use Rattle.rx_typed.specs.Naming.{Cursor, Numbering, an_entry, first, second, of_expression}
use Rattle.rx_typed.specs.Elaborated.{variables}
use Rattle.rx_typeck_solver.specs.Valid.{IsIn}
use Rattle.rx_engine_typing.specs.Scoped as spec
use Rattle.rx_engine_typing.specs.Scoped.{entered, AllNew, behind, behind_all, IsPlaced, ScopedExp, ScopedExps, ScopedElse, ScopedFields, ScopedArms, ScopedBody, ScopedStatement, ScopedStatements}
use Rattle.rx_engine_typing.proofs.Steps.{named_ok, the_same, Takes, takes_then, takes_last, takes_give, takes_map, takes_node, takes_made, takes_entry, takes_loop, Quiet, takes_quiet, IsEntry, at_entry, few_before, grows_not, Part, in_turn, in_turn3, in_turn4, restated, few_restated, unchanged, in_new_loop}
use Rattle.rx_engine_typing.proofs.ScopedPatterns.{Any, one_part, any_entry, variant_part, optional_type_taken, from_number, pattern_taken}
use Rattle.rx_engine_typing.proofs.InScope.{Stands, later, all_new, stands_entered, stands_in_loop, stands_in_test, new_loop_is}

-- ---- steps of numbering that touch no names

pub quiet_counted : Quiet Any numbering.counted
quiet_counted = record { fits = λ c. tt; names = λ c. refl; still = λ c. (refl, refl) }

pub quiet_between : (i j : ℕ) → Quiet Any (numbering.known_between i j)
quiet_between i j = record { fits = λ c. tt; names = λ c. refl; still = λ c. (refl, refl) }

pub quiet_annotates : (p : PatternTree) (y : Option TypeTree) → Quiet Any (numbering.annotates p y)
quiet_annotates p None = record { fits = λ c. tt; names = λ c. refl; still = λ c. (refl, refl) }
quiet_annotates p (Some y) = record { fits = λ c. tt; names = λ c. refl; still = λ c. (refl, refl) }

pub quiet_leads : (l : ℕ) → Quiet Any (numbering.leads l)
quiet_leads l = record { fits = λ c. tt; names = λ c. refl; still = λ c. (refl, length-set c.loops l true) }

pub quiet_is_left : (l : ℕ) → Quiet Any (numbering.is_left l)
quiet_is_left l = record { fits = λ c. tt; names = λ c. refl; still = λ c. (refl, refl) }

quiet_given_here : (x : ℕ) (o : Option (ℕ × ℕ)) → Quiet Any (numbering.given_here x o)
quiet_given_here x None = record { fits = λ c. tt; names = λ c. refl; still = λ c. (refl, refl) }
quiet_given_here x (Some w) = record { fits = λ c. tt; names = λ c. refl; still = λ c. (refl, refl) }

pub quiet_gives_here : (x : ℕ) → Quiet Any (numbering.gives_here x)
quiet_gives_here x = record {
  fits = λ c. tt;
  names = λ c. (quiet_given_here x (numbering.waiting x (numbering.declaration c x).stage)).names c;
  still = λ c. (quiet_given_here x (numbering.waiting x (numbering.declaration c x).stage)).still c;
}

quiet_waits_at : (n : Node) (o : Option ℕ) → Quiet Any (numbering.waits_at n o)
quiet_waits_at n None = record { fits = λ c. tt; names = λ c. refl; still = λ c. (refl, refl) }
quiet_waits_at n (Some x) = record { fits = λ c. tt; names = λ c. refl; still = λ c. (refl, refl) }

pub quiet_waits : (b : Bool) (p : named.Pattern) → Quiet Any (numbering.waits_if b p)
quiet_waits true p = quiet_waits_at (named.pattern_node p) (named.whole_binding p)
quiet_waits false p = record { fits = λ c. tt; names = λ c. refl; still = λ c. (refl, refl) }

quiet_use : (xs : spec.Around) (x : ℕ) → IsIn x xs → Quiet (λ (u : Use). IsIn u.number xs) (numbering.a_use x)
quiet_use xs x v = record { fits = λ c. v; names = λ c. refl; still = λ c. (refl, refl) }

-- the variable that is the whole of a place is in scope
abbrev RootIn : spec.Around → Expression → Exp → Type 0
RootIn xs (plain.var s x) a = IsIn (root a).number xs
RootIn xs _ a = Unit {0}

abbrev Waits : spec.Around → Option (ℕ × ℕ) → Type 0
Waits xs None = Unit {0}
Waits xs (Some w) = IsIn w.0 xs

waiting_in : (xs : spec.Around) (x : ℕ) (s : Stage) → IsIn x xs → Waits xs (numbering.waiting x s)
waiting_in xs x Stage.Known v = tt
waiting_in xs x Stage.Given v = tt
waiting_in xs x (Stage.Waits p s) v = v

waits_in_scope : (xs : spec.Around) (p : Expression) (q : Exp) (c : Cursor) → RootIn xs p q → Waits xs (numbering.waits_in p (root q).number c)
waits_in_scope xs (plain.var s y) q c v = waiting_in xs (root q).number (numbering.declaration c (root q).number).stage v
waits_in_scope xs _ q c h = tt

quiet_waits_for : (xs : spec.Around) (p : Expression) (q : Exp) → RootIn xs p q → Quiet (Waits xs) (numbering.waits_for p q)
quiet_waits_for xs p q h = record { fits = λ c. waits_in_scope xs p q c h; names = λ c. refl; still = λ c. (refl, refl) }

-- ---- of each kind of part

pub record ExpFits (xs js : spec.Around) (e : Expression) (i : Site) (a : Exp) : Type 0 where
  pub scoped : ScopedExp xs js a
  pub site : (node_of a).site ≡ i
  pub root : RootIn xs e a

abbrev pub ExpTaken : spec.Around → spec.Around → Expression → ItemNames → ItemNames → Type 0
ExpTaken xs js e t t' = Part t t' (λ es. (m : Bool) (i : Site) → Takes (ExpFits xs js e i) t t' es (of_expression m i e))

abbrev pub AllTaken : spec.Around → spec.Around → Expressions → ItemNames → ItemNames → Type 0
AllTaken xs js es t t' = Part t t' (λ fs. (i : Site) → Takes (ScopedExps xs js) t t' fs (numbering.of_expressions i es))

abbrev pub OptionalTaken : spec.Around → spec.Around → OptionalExpression → ItemNames → ItemNames → Type 0
OptionalTaken xs js o t t' = Part t t' (λ fs. (i : Site) → Takes (ScopedElse xs js) t t' fs (numbering.of_optional i o))

abbrev pub ArgumentsTaken : spec.Around → spec.Around → OptionalExpressions → ItemNames → ItemNames → Type 0
ArgumentsTaken xs js o t t' = Part t t' (λ fs. Takes (ScopedExps xs js) t t' fs (numbering.of_arguments o))

abbrev pub FieldsTaken : spec.Around → spec.Around → FieldExpressions → ItemNames → ItemNames → Type 0
FieldsTaken xs js fs t t' = Part t t' (λ gs. Takes (ScopedFields xs js) t t' gs (numbering.of_fields fs))

abbrev pub ArmsTaken : spec.Around → spec.Around → Arms → ItemNames → ItemNames → Type 0
ArmsTaken xs js l t t' = Part t t' (λ fs. (i : Site) → Takes (ScopedArms xs js) t t' fs (numbering.of_arms i l))

abbrev pub BodyTaken : spec.Around → spec.Around → Body → ItemNames → ItemNames → Type 0
BodyTaken xs js b t t' = Part t t' (λ fs. (i : Site) → Takes (ScopedBody xs js) t t' fs (numbering.of_body i b))

-- what is in scope behind a statement, and its tree
pub record StatementTaken (ls : List Around) (xs js : spec.Around) (a : Statement) (t : ItemNames) (r : Scoped) : Type 0 where
  pub further : List ℕ
  pub stands : Stands r.scope ls (entered xs further) js r.tables
  pub part : Part t r.tables (λ fs. Takes (λ x. (behind xs x ≡ entered xs further) × ScopedStatement xs js x) t r.tables fs (numbering.of_statement a))

pub record StatementsTaken (ls : List Around) (xs js : spec.Around) (ss : Statements) (t : ItemNames) (r : Scoped) : Type 0 where
  pub scope : spec.Around
  pub stands : Stands r.scope ls scope js r.tables
  pub part : Part t r.tables (λ fs. Takes (λ x. (behind_all xs x ≡ scope) × ScopedStatements xs js x) t r.tables fs (numbering.of_statements ss))

known_is : (o : Option ℕ) (s : Span) (n : ℕ) → known o s ≡ Ok n → o ≡ Some n
known_is None s n e = absurd (cc)
known_is (Some m) s n e = ap (λ (z : ℕ). Some z) (the_same m n e)

pub led_is : (s : Span) (l : Option Ident) (x : Target) (n : ℕ) → led s l x ≡ Ok n → x ≡ to_loop n
led_is s l (to_loop m) n e = ap to_loop (the_same m n e)
led_is s l out_of_test n e = absurd (cc)
led_is s None nowhere n e = absurd (cc)
led_is s (Some x) nowhere n e = absurd (cc)

module _ (I : Inside) (xs js : spec.Around) where
  called_taken : {t t' : ItemNames} {es : List NodeNames} (n : Node) (i : Site) (a : List ℕ × Bool) (s : Span) (g : Ident) (zs : Expressions) → n.site ≡ i
      → ((k : Site) → Takes (ScopedExps xs js) t t' es (numbering.of_expressions k zs)) → Takes (ExpFits xs js (plain.call s g zs) i) t t' es (numbering.called n a (λ k. numbering.of_expressions k zs))
  called_taken n i (ns, true) s g zs q k = takes_map (named.hidden_call n) (k Site.Value) (λ b h. record { scoped = h; site = q; root = tt })
  called_taken n i (ns, false) s g zs q k = takes_map (named.call n (first ns)) (k Site.Expects) (λ b h. record { scoped = h; site = q; root = tt })

  assigned_taken : {t t' : ItemNames} {es : List NodeNames} (n : Node) (i : Site) (s : Span) (p e : Expression) (x : Exp) (w : Option (ℕ × ℕ)) → n.site ≡ i → ExpFits xs js p Site.Place x → Waits xs w
      → ((k : Site) → Takes (ExpFits xs js e k) t t' es (of_expression false k e)) → Takes (ExpFits xs js (plain.assign s p e) i) t t' es (numbering.assigned n x w (λ k. of_expression false k e))
  assigned_taken n i s p e x None q h w k = takes_map (named.assign n x) (k Site.Expects) (λ a f. record { scoped = ((h.scoped, h.site), f.scoped); site = q; root = tt })
  assigned_taken n i s p e x (Some w) q h v k =
      takes_last (k Site.Reborrows) (λ a f. takes_quiet (quiet_use xs w.0 v) (λ u z. takes_quiet (quiet_gives_here w.0) (λ d y.
      takes_give (named.gives n (node_of x) u d a) (record { scoped = (z, f.scoped); site = q; root = tt }))))

  callee_taken : (at : List ℕ) (x : Ident) (o : Option ℕ) (t t' : ItemNames) → callee I at x o t ≡ Ok t' → Part t t' (λ es. Takes (λ (a : List ℕ × Bool). Unit {0}) t t' es an_entry)
  callee_taken at x None t t' e = any_entry (one_part I at t t' (known (as_function (item_named function_name 0 I.program x.name)) x.span) e).part
  callee_taken at x (Some n) t t' e =
      let X : NodeNames = record { node = position I at; numbers = n ∷ []; hidden = true } in
      subst (λ (v : ItemNames). Part t v (λ es. Takes (λ (a : List ℕ × Bool). Unit {0}) t v es an_entry)) (the_same (with_names X t) t' e)
      (record { added = X ∷ []; grown = refl; grows = record { vars = omega arith; loops = omega arith }; numbers = λ _. takes_map (λ a. a) (takes_entry X) (λ a h. tt) })

  used : {t t' : ItemNames} {es : List NodeNames} (s : Span) (x : List ℕ) (n : Node) (i : Site) → n.site ≡ i → (k : ℕ) → IsIn k xs → Takes (IsEntry (k ∷ []) false) t t' es an_entry
      → Takes (ExpFits xs js (plain.var s x) i) t t' es (numbering.and_then an_entry (λ ns c. (named.var n (numbering.use_of (first ns.0) (numbering.declaration c (first ns.0))), c)))
  used s x n i q k v h = record {
    holds = λ c rest d e.
        let z = h.holds c rest d e in
        let y = at_entry (λ a. IsIn (first a.0) xs) (k ∷ []) false (an_entry c).0 z.fits v in
        record { fits = record { scoped = y; site = q; root = y }; counts = z.counts; left = z.left };
  }

-- a pattern's variables, told by the pattern or by their numbers
module _ (xs js : spec.Around) where
  body_at : (p : named.Pattern) (ys : List ℕ) (b : named.Body) → variables p ≡ ys → ScopedBody (entered xs ys) js b → ScopedBody (entered xs (variables p)) js b
  body_at p ys b e h = subst (λ (z : List ℕ). ScopedBody (entered xs z) js b) (sym e) h

  exp_at : (p : named.Pattern) (ys : List ℕ) (x : Exp) → variables p ≡ ys → ScopedExp (entered xs ys) js x → ScopedExp (entered xs (variables p)) js x
  exp_at p ys x e h = subst (λ (z : List ℕ). ScopedExp (entered xs z) js x) (sym e) h

  new_at : (p : named.Pattern) (ys : List ℕ) → variables p ≡ ys → AllNew xs ys → AllNew xs (variables p)
  new_at p ys e h = subst (λ (z : List ℕ). AllNew xs z) (sym e) h

module _ (I : Inside) where
  mutual
    pub expression_taken : (sc : Variables) (ls : List Around) (at : List ℕ) (e : Expression) (t t' : ItemNames) (xs js : spec.Around) → Stands sc ls xs js t → in_expression I sc ls at e t ≡ Ok t' → ExpTaken xs js e t t'
    expression_taken sc ls at (plain.int s v k) t t' xs js w e =
        unchanged t t' (λ u es. (m : Bool) (i : Site) → Takes (ExpFits xs js (plain.int s v k) i) t u es (of_expression m i (plain.int s v k))) e (λ m i. takes_made s i (λ n. named.int n m v k) (λ n q. record { scoped = tt; site = q; root = tt }))
    expression_taken sc ls at (plain.bool s b) t t' xs js w e =
        unchanged t t' (λ u es. (m : Bool) (i : Site) → Takes (ExpFits xs js (plain.bool s b) i) t u es (of_expression m i (plain.bool s b))) e (λ m i. takes_made s i (λ n. named.bool n b) (λ n q. record { scoped = tt; site = q; root = tt }))
    expression_taken sc ls at (plain.tuple s es) t t' xs js w e =
        restated (all_taken sc ls at 0 es t t' xs js w e) (λ fs k m i. takes_node s i (λ n q. takes_map (named.tuple n) (k Site.Value) (λ c h. record { scoped = h; site = q; root = tt })))
    expression_taken sc ls at (plain.var s x) t t' xs js w e =
        let A = one_part I at t t' (known (variable_named sc x) s) e in
        let v = known_is (variable_named sc x) s A.first A.found in
        few_restated A.part (λ f es k m i. takes_node s i (λ n q. used I xs js s x n i q A.first ((w.here (few_before A.part.grows f)).variables x A.first v) k))
    expression_taken sc ls at (plain.field s x g) t t' xs js w e =
        restated (expression_taken sc ls (child at 0) x t t' xs js w e) (λ es k m i. takes_node s i (λ n q. takes_map (λ c. named.field n c g.name) (k false Site.Place) (λ c h. record { scoped = (h.scoped, h.site); site = q; root = tt })))
    expression_taken sc ls at (plain.part s x j) t t' xs js w e =
        restated (expression_taken sc ls (child at 0) x t t' xs js w e) (λ es k m i. takes_node s i (λ n q. takes_map (λ c. named.part n c j) (k false Site.Place) (λ c h. record { scoped = (h.scoped, h.site); site = q; root = tt })))
    expression_taken sc ls at (plain.deref s x) t t' xs js w e =
        restated (expression_taken sc ls (child at 0) x t t' xs js w e) (λ es k m i. takes_node s i (λ n q. takes_map (named.deref n) (k false Site.Place) (λ c h. record { scoped = (h.scoped, h.site); site = q; root = tt })))
    expression_taken sc ls at (plain.negate s x) t t' xs js w e =
        restated (expression_taken sc ls (child at 0) x t t' xs js w e) (λ es k m i. takes_node s i (λ n q. takes_map (named.negate n) (k true Site.Value) (λ c h. record { scoped = h.scoped; site = q; root = tt })))
    expression_taken sc ls at (plain.invert s x) t t' xs js w e =
        restated (expression_taken sc ls (child at 0) x t t' xs js w e) (λ es k m i. takes_node s i (λ n q. takes_map (named.invert n) (k false Site.Value) (λ c h. record { scoped = h.scoped; site = q; root = tt })))
    expression_taken sc ls at (plain.borrow s r x) t t' xs js w e =
        restated (expression_taken sc ls (child at 0) x t t' xs js w e) (λ es k m i. takes_node s i (λ n q. takes_map (named.borrow n r) (k false Site.Place) (λ c h. record { scoped = (h.scoped, h.site); site = q; root = tt })))
    expression_taken sc ls at (plain.binary s o x y) t t' xs js w e =
        let X = named_ok (in_expression I sc ls (child at 0) x t) (in_expression I sc ls (child at 1) y) t' e in
        let A = expression_taken sc ls (child at 0) x t X.0 xs js w X.1 in
        let B = expression_taken sc ls (child at 1) y X.0 t' xs js (later A.grows w) X.2 in
        in_turn A B (λ es fs k l m i. takes_node s i (λ n q. takes_then (k false Site.Value) (λ c g. takes_map (named.binary n o c) (l false Site.Value) (λ d h. record { scoped = (g.scoped, h.scoped); site = q; root = tt }))))
    expression_taken sc ls at (plain.assign s x y) t t' xs js w e =
        let X = named_ok (in_expression I sc ls (child at 0) x t) (in_expression I sc ls (child at 1) y) t' e in
        let A = expression_taken sc ls (child at 0) x t X.0 xs js w X.1 in
        let B = expression_taken sc ls (child at 1) y X.0 t' xs js (later A.grows w) X.2 in
        in_turn A B (λ es fs k l m i. takes_node s i (λ n q. takes_then (k false Site.Place) (λ c g. takes_quiet (quiet_waits_for xs x c g.root) (λ z v.
        assigned_taken I xs js n i s x y c z q g v (λ k. l false k)))))
    expression_taken sc ls at (plain.update s o x y) t t' xs js w e =
        let X = named_ok (in_expression I sc ls (child at 0) x t) (in_expression I sc ls (child at 1) y) t' e in
        let A = expression_taken sc ls (child at 0) x t X.0 xs js w X.1 in
        let B = expression_taken sc ls (child at 1) y X.0 t' xs js (later A.grows w) X.2 in
        in_turn A B (λ es fs k l m i. takes_node s i (λ n q. takes_then (k false Site.Place) (λ c g. takes_map (named.update n o c) (l false Site.Value) (λ d h. record { scoped = ((g.scoped, g.site), h.scoped); site = q; root = tt }))))
    expression_taken sc ls at (plain.call s f es) t t' xs js w e =
        let X = named_ok (callee I at f (variable_named sc f.name) t) (in_expressions I sc ls at 0 es) t' e in
        let A = callee_taken I xs js at f (variable_named sc f.name) t X.0 X.1 in
        let B = all_taken sc ls at 0 es X.0 t' xs js (later A.grows w) X.2 in
        in_turn A B (λ _ _ k l m i. takes_node s i (λ n q. takes_then k (λ c h. called_taken I xs js n i c s f es q l)))
    expression_taken sc ls at (plain.next_input s) t t' xs js w e =
        restated (one_part I at t t' (known (as_rt (item_named type_name 0 I.program (codes "rt"))) (rt_span s)) e).part (λ es k m i. takes_node s i (λ n q. takes_map (λ z. named.next_input n) k (λ c h. record { scoped = tt; site = q; root = tt })))
    expression_taken sc ls at (plain.variant s c v es) t t' xs js w e =
        let X = named_ok (names I at (variant_in I c v) t) (in_arguments I sc ls at es) t' e in
        let A = variant_part I at c v t X.0 X.1 in
        let B = arguments_taken sc ls at es X.0 t' xs js (later A.grows w) X.2 in
        in_turn A B (λ _ _ k l m i. takes_node s i (λ n q. takes_then k (λ y r. takes_map (named.variant n (first y.0) (second y.0)) l (λ es h. record { scoped = h; site = q; root = tt }))))
    expression_taken sc ls at (plain.make s x fs) t t' xs js w e =
        let X = named_ok (names I at (one (struct_in I x)) t) (in_fields I sc ls at 0 fs) t' e in
        let A = one_part I at t X.0 (struct_in I x) X.1 in
        let B = fields_taken sc ls at 0 fs X.0 t' xs js (later A.part.grows w) X.2 in
        in_turn A.part B (λ _ _ k l m i. takes_node s i (λ n q. takes_then k (λ y r. takes_map (named.make n (first y.0)) l (λ fs h. record { scoped = h; site = q; root = tt }))))
    expression_taken sc ls at (plain.print s x) t t' xs js w e =
        restated (expression_taken sc ls (child at 0) x t t' xs js w e) (λ es k m i. takes_node s i (λ n q. takes_map (named.print n) (k false Site.Value) (λ c h. record { scoped = h.scoped; site = q; root = tt })))
    expression_taken sc ls at (plain.block s b) t t' xs js w e =
        restated (body_taken sc ls (child at 0) b t t' xs js w e) (λ es k m i. takes_node s i (λ n q. takes_map (named.block n) (k (numbering.passed_on i)) (λ c h. record { scoped = h; site = q; root = tt })))
    expression_taken sc ls at (plain.if s x b o) t t' xs js w e =
        let X = named_ok (in_expression I sc ls (child at 0) x t) (in_block I sc ls (child at 1) b >> in_optional I sc ls (child at 2) o) t' e in
        let Y = named_ok (in_block I sc ls (child at 1) b X.0) (in_optional I sc ls (child at 2) o) t' X.2 in
        let A = expression_taken sc ls (child at 0) x t X.0 xs js w X.1 in
        let w1 = later A.grows w in
        let B = body_taken sc ls (child at 1) b X.0 Y.0 xs js w1 Y.1 in
        let D = optional_taken sc ls (child at 2) o Y.0 t' xs js (later B.grows w1) Y.2 in
        in_turn3 A B D (λ _ _ _ k l r m i. takes_node s i (λ n q. takes_then (k false Site.Value) (λ c g. takes_then (l (numbering.branch_site i o)) (λ b h. takes_map (named.if n c b) (r (numbering.passed_on i)) (λ z j.
        record { scoped = (g.scoped, h, j); site = q; root = tt })))))
    expression_taken sc ls at (plain.if_let s p y x o) t t' xs js w e =
        let b0 : Bound = record { bindings = []; tables = t } in
        let g : Bound → Naming = λ b. in_expression I sc ls (child at 1) y >> in_block I (scopes.entered sc b.bindings) ls (child at 2) x >> in_optional I sc ls (child at 3) o in
        let Z = named_ok (in_pattern I (child at 0) p b0) (λ b. g b b.tables) t' e in
        let X = named_ok (in_expression I sc ls (child at 1) y Z.0.tables) (in_block I (scopes.entered sc Z.0.bindings) ls (child at 2) x >> in_optional I sc ls (child at 3) o) t' Z.2 in
        let Y = named_ok (in_block I (scopes.entered sc Z.0.bindings) ls (child at 2) x X.0) (in_optional I sc ls (child at 3) o) t' X.2 in
        let P = pattern_taken I (child at 0) p b0 Z.0 Z.1 in
        let ys = from_number (length t.vars) P.count in
        let w1 = later P.part.grows w in
        let A = expression_taken sc ls (child at 1) y Z.0.tables X.0 xs js w1 X.1 in
        let B = body_taken (scopes.entered sc Z.0.bindings) ls (child at 2) x X.0 Y.0 (entered xs ys) js (later A.grows (stands_entered Z.0 P w)) Y.1 in
        let D = optional_taken sc ls (child at 3) o Y.0 t' xs js (later B.grows (later A.grows w1)) Y.2 in
        in_turn4 P.part A B D (λ _ _ _ _ k l r z m i. takes_node s i (λ n q. takes_quiet quiet_counted (λ u _. takes_then k (λ c g. takes_quiet quiet_counted (λ v _. takes_then (l false Site.Scrutinee) (λ d h.
        takes_quiet (quiet_between u v) (λ _ _. takes_then (r (numbering.branch_site i o)) (λ b j. takes_map (named.if_let n c d b) (z (numbering.passed_on i)) (λ f y.
        record { scoped = (new_at xs js c ys g (all_new xs (length t.vars) P.count w.variables), h.scoped, body_at xs js c ys b g j, y); site = q; root = tt })))))))))
    expression_taken sc ls at (plain.match s x l) t t' xs js w e =
        let X = named_ok (in_expression I sc ls (child at 0) x t) (in_arms I sc ls at 1 l) t' e in
        let A = expression_taken sc ls (child at 0) x t X.0 xs js w X.1 in
        let B = arms_taken sc ls at 1 l X.0 t' xs js (later A.grows w) X.2 in
        in_turn A B (λ _ _ k l m i. takes_node s i (λ n q. takes_then (k false Site.Scrutinee) (λ c g. takes_map (named.match n c) (l (numbering.passed_on i)) (λ d h. record { scoped = (g.scoped, h); site = q; root = tt }))))
    expression_taken sc ls at (plain.loop s l b) t t' xs js w e =
        let p = position I at in let j = length t.loops in
        in_new_loop p (body_taken sc (a_loop l (number j) ∷ ls) (child at 0) b (with_loop p t) t' xs (j ∷ js) (stands_in_loop p l w) e)
        (λ es k m i. takes_node s i (λ n q. takes_then (takes_loop t p) (λ v r. takes_last (k Site.Value) (λ c h. takes_quiet (quiet_is_left v) (λ z _. takes_give (named.loop n v z c)
        (record { scoped = subst (λ (o : ℕ). spec.IsNotIn o js × ScopedBody xs (o ∷ js) c) (sym r) (new_loop_is w, h); site = q; root = tt }))))))
    expression_taken sc ls at (plain.while s l x b) t t' xs js w e =
        let p = position I at in let u = with_loop p t in let j = length t.loops in let n = number j in
        let X = named_ok (in_expression I sc (a_test ∷ a_loop l n ∷ ls) (child at 0) x u) (in_block I sc (a_loop l n ∷ ls) (child at 1) b) t' e in
        let w1 = stands_in_loop p l w in
        let A = expression_taken sc (a_test ∷ a_loop l n ∷ ls) (child at 0) x u X.0 xs (j ∷ js) (stands_in_test w1) X.1 in
        let B = body_taken sc (a_loop l n ∷ ls) (child at 1) b X.0 t' xs (j ∷ js) (later A.grows w1) X.2 in
        in_new_loop p (in_turn {L = λ es. (m : Bool) (i : Site) → Takes (ExpFits xs js (plain.while s l x b) i) t t' es (of_expression m i (plain.while s l x b))} A B (λ es fs k r m i. takes_node s i (λ n q. takes_then (takes_loop t p) (λ v z.
        takes_then (k false Site.Value) (λ c g. takes_map (named.while n v c) (r Site.Value) (λ d h.
        record { scoped = subst (λ (o : ℕ). spec.IsNotIn o js × ScopedExp xs (o ∷ js) c × ScopedBody xs (o ∷ js) d) (sym z) (new_loop_is w, g.scoped, h); site = q; root = tt })))))) (λ es k. k)
    expression_taken sc ls at (plain.while_let s l p y x) t t' xs js w e =
        let o = position I at in let u = with_loop o t in let j = length t.loops in let n = number j in
        let b0 : Bound = record { bindings = []; tables = u } in
        let g : Bound → Naming = λ b. in_expression I sc (a_test ∷ a_loop l n ∷ ls) (child at 1) y >> in_block I (scopes.entered sc b.bindings) (a_loop l n ∷ ls) (child at 2) x in
        let Z = named_ok (in_pattern I (child at 0) p b0) (λ b. g b b.tables) t' e in
        let X = named_ok (in_expression I sc (a_test ∷ a_loop l n ∷ ls) (child at 1) y Z.0.tables) (in_block I (scopes.entered sc Z.0.bindings) (a_loop l n ∷ ls) (child at 2) x) t' Z.2 in
        let P = pattern_taken I (child at 0) p b0 Z.0 Z.1 in
        let ys = from_number (length t.vars) P.count in
        let w1 = stands_in_loop o l w in
        let w2 = later P.part.grows w1 in
        let A = expression_taken sc (a_test ∷ a_loop l n ∷ ls) (child at 1) y Z.0.tables X.0 xs (j ∷ js) (stands_in_test w2) X.1 in
        let B = body_taken (scopes.entered sc Z.0.bindings) (a_loop l n ∷ ls) (child at 2) x X.0 t' (entered xs ys) (j ∷ js) (later A.grows (stands_entered Z.0 P w1)) X.2 in
        in_new_loop o (in_turn3 {P = λ es. (m : Bool) (i : Site) → Takes (ExpFits xs js (plain.while_let s l p y x) i) t t' es (of_expression m i (plain.while_let s l p y x))} P.part A B (λ _ _ _ k r z m i. takes_node s i (λ n q. takes_then (takes_loop t o) (λ v f.
        takes_quiet quiet_counted (λ u _. takes_then k (λ c g. takes_quiet quiet_counted (λ u' _. takes_then (r false Site.Scrutinee) (λ d h. takes_quiet (quiet_between u u') (λ _ _. takes_map (named.while_let n v c d) (z Site.Value) (λ b i.
        record {
          scoped = subst (λ (a : ℕ). spec.IsNotIn a js × AllNew xs (variables c) × ScopedExp xs (a ∷ js) d × ScopedBody (entered xs (variables c)) (a ∷ js) b) (sym f)
              (new_loop_is w, new_at xs js c ys g (all_new xs (length t.vars) P.count w.variables), h.scoped, body_at xs (j ∷ js) c ys b g i);
          site = q;
          root = tt;
        })))))))))) (λ es k. k)
    expression_taken sc ls at (plain.break s l) t t' xs js w e =
        let A = one_part I at t t' (led s l (target l ls)) e in
        let v = led_is s l (target l ls) A.first A.found in
        few_restated A.part (λ f es k m i. takes_node s i (λ n q. takes_last k (λ ns h. takes_quiet (quiet_leads (first ns.0)) (λ _ _. takes_give (named.break n (first ns.0))
        (record { scoped = at_entry (λ a. IsIn (first a.0) js) (A.first ∷ []) false ns h ((w.here (few_before A.part.grows f)).loops l A.first v); site = q; root = tt })))))
    expression_taken sc ls at (plain.continue s l) t t' xs js w e =
        let A = one_part I at t t' (led s l (target l ls)) e in
        let v = led_is s l (target l ls) A.first A.found in
        few_restated A.part (λ f es k m i. takes_node s i (λ n q. takes_map (λ ns. named.continue n (first ns.0)) k
        (λ ns h. record { scoped = at_entry (λ a. IsIn (first a.0) js) (A.first ∷ []) false ns h ((w.here (few_before A.part.grows f)).loops l A.first v); site = q; root = tt })))
    expression_taken sc ls at (plain.return s o) t t' xs js w e =
        restated (optional_taken sc ls (child at 0) o t t' xs js w e) (λ es k m i. takes_node s i (λ n q. takes_map (named.return n) (k Site.Expects) (λ c h. record { scoped = h; site = q; root = tt })))

    all_taken : (sc : Variables) (ls : List Around) (at : List ℕ) (j : ℕ) (es : Expressions) (t t' : ItemNames) (xs js : spec.Around) → Stands sc ls xs js t → in_expressions I sc ls at j es t ≡ Ok t' → AllTaken xs js es t t'
    all_taken sc ls at j plain.no_expression t t' xs js w e = unchanged t t' (λ u fs. (i : Site) → Takes (ScopedExps xs js) t u fs (numbering.of_expressions i plain.no_expression)) e (λ i. takes_give named.no_exp tt)
    all_taken sc ls at j (plain.expression_and x es) t t' xs js w e =
        let X = named_ok (in_expression I sc ls (child at j) x t) (in_expressions I sc ls at (next j) es) t' e in
        let A = expression_taken sc ls (child at j) x t X.0 xs js w X.1 in
        let B = all_taken sc ls at (next j) es X.0 t' xs js (later A.grows w) X.2 in
        in_turn A B (λ _ _ k l i. takes_then (k false i) (λ c g. takes_map (named.exp_and c) (l i) (λ d h. (g.scoped, h))))

    optional_taken : (sc : Variables) (ls : List Around) (at : List ℕ) (o : OptionalExpression) (t t' : ItemNames) (xs js : spec.Around) → Stands sc ls xs js t → in_optional I sc ls at o t ≡ Ok t' → OptionalTaken xs js o t t'
    optional_taken sc ls at plain.absent t t' xs js w e = unchanged t t' (λ u fs. (i : Site) → Takes (ScopedElse xs js) t u fs (numbering.of_optional i plain.absent)) e (λ i. takes_give named.absent tt)
    optional_taken sc ls at (plain.present x) t t' xs js w e = restated (expression_taken sc ls at x t t' xs js w e) (λ es k i. takes_map (λ z. named.present z) (k false i) (λ c h. h.scoped))

    arguments_taken : (sc : Variables) (ls : List Around) (at : List ℕ) (o : OptionalExpressions) (t t' : ItemNames) (xs js : spec.Around) → Stands sc ls xs js t → in_arguments I sc ls at o t ≡ Ok t' → ArgumentsTaken xs js o t t'
    arguments_taken sc ls at plain.no_list t t' xs js w e = unchanged t t' (λ u fs. Takes (ScopedExps xs js) t u fs (numbering.of_arguments plain.no_list)) e (takes_give named.no_exp tt)
    arguments_taken sc ls at (plain.a_list es) t t' xs js w e = restated (all_taken sc ls at 0 es t t' xs js w e) (λ fs k. k Site.Expects)

    fields_taken : (sc : Variables) (ls : List Around) (at : List ℕ) (j : ℕ) (fs : FieldExpressions) (t t' : ItemNames) (xs js : spec.Around) → Stands sc ls xs js t → in_fields I sc ls at j fs t ≡ Ok t' → FieldsTaken xs js fs t t'
    fields_taken sc ls at j plain.no_field t t' xs js w e = unchanged t t' (λ u fs. Takes (ScopedFields xs js) t u fs (numbering.of_fields plain.no_field)) e (takes_give named.no_field tt)
    fields_taken sc ls at j (plain.field_and y x fs) t t' xs js w e =
        let X = named_ok (in_expression I sc ls (child at j) x t) (in_fields I sc ls at (next j) fs) t' e in
        let A = expression_taken sc ls (child at j) x t X.0 xs js w X.1 in
        let B = fields_taken sc ls at (next j) fs X.0 t' xs js (later A.grows w) X.2 in
        in_turn A B (λ _ _ k l. takes_then (k false Site.Expects) (λ c g. takes_map (named.field_and y.name c) l (λ d h. (g.scoped, h))))

    arms_taken : (sc : Variables) (ls : List Around) (at : List ℕ) (j : ℕ) (l : Arms) (t t' : ItemNames) (xs js : spec.Around) → Stands sc ls xs js t → in_arms I sc ls at j l t ≡ Ok t' → ArmsTaken xs js l t t'
    arms_taken sc ls at j plain.no_arm t t' xs js w e = unchanged t t' (λ u fs. (i : Site) → Takes (ScopedArms xs js) t u fs (numbering.of_arms i plain.no_arm)) e (λ i. takes_give named.no_arm tt)
    arms_taken sc ls at j (plain.arm_and p x l) t t' xs js w e =
        let b0 : Bound = record { bindings = []; tables = t } in
        let V = named_ok (pattern_then I (child at j) p (λ ds. in_expression I (scopes.entered sc ds) ls (child at (next j)) x) t) (in_arms I sc ls at (next (next j)) l) t' e in
        let Z = named_ok (in_pattern I (child at j) p b0) (λ b. in_expression I (scopes.entered sc b.bindings) ls (child at (next j)) x b.tables) V.0 V.1 in
        let P = pattern_taken I (child at j) p b0 Z.0 Z.1 in
        let ys = from_number (length t.vars) P.count in
        let A = expression_taken (scopes.entered sc Z.0.bindings) ls (child at (next j)) x Z.0.tables V.0 (entered xs ys) js (stands_entered Z.0 P w) Z.2 in
        let B = arms_taken sc ls at (next (next j)) l V.0 t' xs js (later A.grows (later P.part.grows w)) V.2 in
        in_turn3 P.part A B (λ _ _ _ k l r i. takes_quiet quiet_counted (λ u _. takes_then k (λ c g. takes_quiet quiet_counted (λ v _. takes_quiet (quiet_between u v) (λ _ _.
        takes_then (l false i) (λ d h. takes_map (named.arm_and c d) (r i) (λ f y. (new_at xs js c ys g (all_new xs (length t.vars) P.count w.variables), exp_at xs js c ys d g h.scoped, y))))))))

    pub body_taken : (sc : Variables) (ls : List Around) (at : List ℕ) (b : Body) (t t' : ItemNames) (xs js : spec.Around) → Stands sc ls xs js t → in_block I sc ls at b t ≡ Ok t' → BodyTaken xs js b t t'
    body_taken sc ls at (plain.body s ss o) t t' xs js w e =
        let X = named_ok (in_statements I sc ls at 0 ss t) (λ r. in_optional I r.scope ls (child at (number (length (listed ss)))) o r.tables) t' e in
        let A = statements_taken sc ls at 0 ss t X.0 xs js w X.1 in
        let B = optional_taken X.0.scope ls (child at (number (length (listed ss)))) o X.0.tables t' A.scope js A.stands X.2 in
        in_turn A.part B (λ _ _ k l i. takes_node s i (λ n q. takes_then k (λ c g. takes_map (named.body n c) (l i) (λ d h. (g.1, subst (λ (z : spec.Around). ScopedElse z js d) (sym g.0) h)))))

    statements_taken : (sc : Variables) (ls : List Around) (at : List ℕ) (j : ℕ) (ss : Statements) (t : ItemNames) (r : Scoped) (xs js : spec.Around) → Stands sc ls xs js t → in_statements I sc ls at j ss t ≡ Ok r → StatementsTaken ls xs js ss t r
    statements_taken sc ls at j plain.no_statement t r xs js w e =
        subst (λ (z : Scoped). StatementsTaken ls xs js plain.no_statement t z) (the_same (record { scope = sc; tables = t }) r e)
        (record { scope = xs; stands = w; part = record { added = []; grown = sym (append-nil t.names); grows = grows_not t; numbers = λ _. takes_give named.no_statement (refl, tt) } })
    statements_taken sc ls at j (plain.statement_and a ss) t r xs js w e =
        let X = named_ok (in_statement I sc ls (child at j) a t) (λ r. in_statements I r.scope ls at (next j) ss r.tables) r e in
        let A = statement_taken sc ls (child at j) a t X.0 xs js w X.1 in
        let B = statements_taken X.0.scope ls at (next j) ss X.0.tables r (entered xs A.further) js A.stands X.2 in
        record {
          scope = B.scope;
          stands = B.stands;
          part = in_turn A.part B.part (λ _ _ k l. takes_then k (λ c g. takes_map (named.statement_and c) l (λ d h.
              (ap (λ (z : spec.Around). behind_all z d) g.0 ∙ h.0, (g.1, subst (λ (z : spec.Around). ScopedStatements z js d) (sym g.0) h.1)))));
        }

    statement_taken : (sc : Variables) (ls : List Around) (at : List ℕ) (a : Statement) (t : ItemNames) (r : Scoped) (xs js : spec.Around) → Stands sc ls xs js t → in_statement I sc ls at a t ≡ Ok r → StatementTaken ls xs js a t r
    statement_taken sc ls at (plain.let_statement s p y plain.absent) t r xs js w e =
        let b0 : Bound = record { bindings = []; tables = t } in
        let to : DeclaredNames → ItemNames → Scoped = λ ds t. record { scope = scopes.entered sc ds; tables = t } in
        let g = in_optional_type I (child at 1) y in let k = in_optional I sc ls (child at (initialiser_at y)) plain.absent in
        let Z = named_ok (in_pattern I (child at 0) p b0) (λ b. and_then ((g >> k) b.tables) (λ t. Ok (to b.bindings t))) r e in
        let Y = named_ok ((g >> k) Z.0.tables) (λ t. Ok (to Z.0.bindings t)) r Z.2 in
        let X = named_ok (g Z.0.tables) k Y.0 Y.1 in
        let P = pattern_taken I (child at 0) p b0 Z.0 Z.1 in
        let ys = from_number (length t.vars) P.count in
        let F = optional_type_taken I (child at 1) y Z.0.tables X.0 X.1 in
        let D : Part X.0 Y.0 (λ gs. (i : Site) → Takes (λ (a : named.Else). Unit {0}) X.0 Y.0 gs (numbering.of_optional i plain.absent)) =
        unchanged X.0 Y.0 (λ u gs. (i : Site) → Takes (λ (a : named.Else). Unit {0}) X.0 u gs (numbering.of_optional i plain.absent)) X.2 (λ i. takes_give named.absent tt) in
        subst (λ (z : Scoped). StatementTaken ls xs js (plain.let_statement s p y plain.absent) t z) (the_same (to Z.0.bindings Y.0) r Y.2) (record {
          further = ys;
          stands = later D.grows (later F.grows (stands_entered Z.0 P w));
          part = in_turn3 P.part F D (λ _ _ _ k l m. takes_node s Site.Value (λ n q. takes_quiet (quiet_annotates p y) (λ _ _. takes_quiet quiet_counted (λ i _. takes_then k (λ c v. takes_quiet quiet_counted (λ j _. takes_then l (λ z h.
              takes_last (m Site.Value) (λ _ _. takes_quiet (quiet_between i j) (λ _ _. takes_quiet (quiet_waits (numbering.has_no_type z) c) (λ _ _. takes_give (named.declares n c z)
              (ap (entered xs) v, new_at xs js c ys v (all_new xs (length t.vars) P.count w.variables))))))))))));
        })
    statement_taken sc ls at (plain.let_statement s p y (plain.present x)) t r xs js w e =
        let b0 : Bound = record { bindings = []; tables = t } in
        let to : DeclaredNames → ItemNames → Scoped = λ ds t. record { scope = scopes.entered sc ds; tables = t } in
        let g = in_optional_type I (child at 1) y in let k = in_optional I sc ls (child at (initialiser_at y)) (plain.present x) in
        let Z = named_ok (in_pattern I (child at 0) p b0) (λ b. and_then ((g >> k) b.tables) (λ t. Ok (to b.bindings t))) r e in
        let Y = named_ok ((g >> k) Z.0.tables) (λ t. Ok (to Z.0.bindings t)) r Z.2 in
        let X = named_ok (g Z.0.tables) k Y.0 Y.1 in
        let P = pattern_taken I (child at 0) p b0 Z.0 Z.1 in
        let ys = from_number (length t.vars) P.count in
        let F = optional_type_taken I (child at 1) y Z.0.tables X.0 X.1 in
        let D = expression_taken sc ls (child at (initialiser_at y)) x X.0 Y.0 xs js (later F.grows (later P.part.grows w)) X.2 in
        subst (λ (z : Scoped). StatementTaken ls xs js (plain.let_statement s p y (plain.present x)) t z) (the_same (to Z.0.bindings Y.0) r Y.2) (record {
          further = ys;
          stands = later D.grows (later F.grows (stands_entered Z.0 P w));
          part = in_turn3 P.part F D (λ _ _ _ k l m. takes_node s Site.Value (λ n q. takes_quiet (quiet_annotates p y) (λ _ _. takes_quiet quiet_counted (λ i _. takes_then k (λ c v. takes_quiet quiet_counted (λ j _. takes_then l (λ z h.
              takes_last (m false (numbering.initialiser_site z)) (λ a d. takes_quiet (quiet_between i j) (λ _ _. takes_quiet (quiet_waits (numbering.has_no_type z && named.never a) c) (λ _ _. takes_give (named.lets n c z a)
              (ap (entered xs) v, (new_at xs js c ys v (all_new xs (length t.vars) P.count w.variables), d.scoped))))))))))));
        })
    statement_taken sc ls at (plain.expression_statement s x b) t r xs js w e =
        let X = named_ok (in_expression I sc ls (child at 0) x t) (λ t. Ok (record { scope = sc; tables = t })) r e in
        let A = expression_taken sc ls (child at 0) x t X.0 xs js w X.1 in
        subst (λ (z : Scoped). StatementTaken ls xs js (plain.expression_statement s x b) t z) (the_same (record { scope = sc; tables = X.0 }) r X.2)
        (record { further = []; stands = later A.grows w; part = restated A (λ _ k. takes_node s Site.Value (λ n q. takes_map (λ z. named.evaluates n z b) (k false Site.Value) (λ c h. (refl, h.scoped)))) })
