-- Where a part resolves, its names mean variables and its jumps lead to loops: by induction over all forms.
use Rattle.std.proofs.Common.{◌≡◌, ℕ, Bool, true, false, ◌||◌, if◌then◌else◌, List, [], ◌∷◌, ◌++◌, length, Option, Some, None, Ok, refl, sym, ap, ◌∙◌, subst, bytes_eq}
use Rattle.rx_core.specs.declared.types.Span.{Span}
use Rattle.rx_tree.specs.declared.tree.Ident.{Ident}
use Rattle.rx_tree.specs.Lists.{listed}
use Rattle.rx_tree.specs.Plain as plain
use Rattle.rx_tree.specs.Plain.{PatternTree, Expression, Expressions, OptionalExpression, OptionalExpressions, FieldExpressions, Arms, Body, Statement, Statements}
use Rattle.rx_resolve_names.specs.Scopes.{DeclaredNames, Variables, entered, variable_named}
use Rattle.rx_resolve_names.specs.declared.resolved.ItemNames.{ItemNames}
use Rattle.rx_resolve_names.specs.Meant.{Around, a_loop, a_test, is_meant, number, out_of_test, nowhere, target, Target, through_test, to_loop}
use Rattle.rx_resolve_names.specs.Steps.{and_then, ◌>>◌, child, Inside, known, led, names, next, numbered as entry_of, one, Outcome, position, with_loop}
use Rattle.rx_resolve_names.specs.Names.{Bound, callee, in_arguments, in_arms, in_block, in_expression, in_expressions, in_fields, in_optional, in_optional_type, in_pattern, in_statement, in_statements, initialiser_at, Scoped, struct_in, variant_in}
use Rattle.rx_hoist_extraction.specs.Names.{behind_all, bound, bound_by, is_among, Names}
use Rattle.rx_hoist_extraction.specs.Run.{numbered}
use Rattle.rx_hoist_extraction.specs.Moved.{beyond, leaves}
use Rattle.rx_engine_names.specs.Moves.{labels_of}
use Rattle.rx_engine_names.specs.Within.{AllWithin, ArgumentsWithin, ArmsWithin, BodyWithin, FieldsWithin, OptionalWithin, StatementsWithin, StatementWithin, Within}
use Rattle.rx_engine_names.specs.HandsOver.{MeansOne}
use Rattle.rx_engine_names.proofs.BehindStatements.{Covers, covers_itself, statements_cover}
use Rattle.rx_engine_names.proofs.CopiedPatterns.{pattern_binds}
use Rattle.rx_engine_names.proofs.PlainPlaces.{led_ok}
use Rattle.rx_engine_names.proofs.Scoped.{among_piled, declared_names, piled}
use Rattle.rx_engine_names.proofs.SideBySide.{named_ok, the_same}
use Rattle.rx_engine_called.specs.Found.{found, LeadsThere}

-- ---- scopes

abbrev SinceThen : Bool → Option ℕ → Option ℕ → Type 0
SinceThen b o o0 = (b ≡ true → (n : ℕ) × (o ≡ Some n)) × (b ≡ false → o ≡ o0)

covers_one : (own : Names) (sc0 sc : Variables) (y : List ℕ) (k : ℕ) → Covers own sc0 sc → Covers (y ∷ own) sc0 (record { name = y; number = k } ∷ sc)
covers_one own sc0 sc y k h x = by (bytes_eq x y)
  where
    by : (b : Bool) → SinceThen (b || is_among x own) (if b then Some k else variable_named sc x) (variable_named sc0 x)
    by true = (λ e. (k, refl), λ e. absurd (cc))
    by false = h x

covers_piled : (own : Names) (ds : DeclaredNames) (sc0 sc : Variables) → Covers own sc0 sc → Covers (piled own ds) sc0 (entered sc ds)
covers_piled own [] sc0 sc h = h
covers_piled own (d ∷ ds) sc0 sc h = covers_piled (d.0 ∷ own) ds sc0 (record { name = d.0; number = d.1.number } ∷ sc) (covers_one own sc0 sc d.0 d.1.number h)

-- what a pattern binds is in scope behind it
covers_bound : (I : Inside) (at : List ℕ) (p : PatternTree) (b b1 : Bound) (own : Names) (sc0 sc : Variables) → declared_names b.bindings ≡ [] → in_pattern I at p b ≡ Ok b1 → Covers own sc0 sc → Covers (bound p ++ own) sc0 (entered sc b1.bindings)
covers_bound I at p b b1 own sc0 sc none e h x =
    let is : declared_names b1.bindings ≡ bound p = pattern_binds I at p b b1 e ∙ ap (λ (l : Names). l ++ bound p) none in
    subst (λ (z : Bool). SinceThen z (variable_named (entered sc b1.bindings) x) (variable_named sc0 x)) (among_piled x own b1.bindings ∙ ap (λ (l : Names). is_among x (l ++ own)) is) (covers_piled own b1.bindings sc0 sc h x)

-- and what a statement binds
covers_behind : (I : Inside) (ls : List Around) (at : List ℕ) (i : ℕ) (a : Statement) (own : Names) (sc0 sc : Variables) (t : ItemNames) (m : Scoped) → Covers own sc0 sc → in_statement I sc ls (child at i) a t ≡ Ok m → Covers (bound_by a ++ own) sc0 m.scope
covers_behind I ls at i a own sc0 sc t m c e =
    statements_cover I ls at i (plain.statement_and a plain.no_statement) own sc0 sc t m c (ap (λ (o : Outcome Scoped). and_then o (λ (r : Scoped). Ok (record { scope = r.scope; tables = r.tables }))) e)

known_is : (o : Option ℕ) (s : Span) (n : ℕ) → known o s ≡ Ok n → o ≡ Some n
known_is None s n e = absurd (cc)
known_is (Some m) s n e = ap (λ (z : ℕ). Some z) (the_same m n e)

not_through : (a : Target) (n : ℕ) → through_test a ≡ to_loop n → ⊥
not_through (to_loop m) n e = cc
not_through out_of_test n e = cc
not_through nowhere n e = cc

module _ (I : Inside) (sc0 : Variables) (around : List Around) where
  -- ---- loops: those by which the claim is told, and those that stand there

  abbrev Round : List Around → List Around → Type 0
  Round ls ls' = (l : Option Ident) (n k : ℕ) → target l ls' ≡ to_loop n → leaves l ls ≡ Some k → LeadsThere around l k

  round_loop : (l : Option Ident) (m : ℕ) (ls ls' : List Around) → Round ls ls' → Round (a_loop l 0 ∷ ls) (a_loop l m ∷ ls')
  round_loop l m ls ls' h x n k e f = by (is_meant x l) e f
    where
      by : (b : Bool) → (if b then to_loop m else target x ls') ≡ to_loop n → beyond (if b then to_loop 0 else target x ls) ≡ Some k → LeadsThere around x k
      by true e f = absurd (cc)
      by false e f = h x n k e f

  round_test : (ls ls' : List Around) → Round (a_test ∷ ls) (a_test ∷ ls')
  round_test ls ls' x n k e f = absurd (not_through (target x ls') n e)

  -- ---- leaves of the tree

  used : (own : Names) (sc : Variables) (s : Span) (x : List ℕ) (at : List ℕ) (t t' : ItemNames) → Covers own sc0 sc → names I at (one (known (variable_named sc x) s)) t ≡ Ok t' → is_among x own ≡ false → MeansOne sc0 x
  used own sc s x at t t' c e f =
      let a = named_ok (one (known (variable_named sc x) s)) (λ ns. entry_of I at ns t) t' e in
      let b = named_ok (known (variable_named sc x) s) (λ n. Ok (n ∷ [])) a.0 a.1 in
      let w = (c x).1 f in
      (b.0, sym w ∙ known_is (variable_named sc x) s b.0 b.1)

  jumped : (ls ls' : List Around) (s : Span) (l : Option Ident) (at : List ℕ) (t t' : ItemNames) → Round ls ls' → names I at (one (led s l (target l ls'))) t ≡ Ok t' → (k : ℕ) → leaves l ls ≡ Some k → LeadsThere around l k
  jumped ls ls' s l at t t' r e k f =
      let a = named_ok (one (led s l (target l ls'))) (λ ns. entry_of I at ns t) t' e in
      let b = named_ok (led s l (target l ls')) (λ n. Ok (n ∷ [])) a.0 a.1 in
      r l b.0 k (led_ok s l (target l ls') b.0 b.1) f

  -- ---- all forms

  mutual
    pub exp_found : (own : Names) (ls ls' : List Around) (sc : Variables) (at : List ℕ) (e : Expression) (t t' : ItemNames) → Covers own sc0 sc → Round ls ls' → in_expression I sc ls' at e t ≡ Ok t' → Within (found sc0 around) own ls e
    exp_found own ls ls' sc at (plain.int s v k) t t' c r h = tt
    exp_found own ls ls' sc at (plain.bool s b) t t' c r h = tt
    exp_found own ls ls' sc at (plain.tuple s es) t t' c r h = all_found own ls ls' sc at 0 es t t' c r h
    exp_found own ls ls' sc at (plain.var s x) t t' c r h = used own sc s x at t t' c h
    exp_found own ls ls' sc at (plain.field s e x) t t' c r h = exp_found own ls ls' sc (child at 0) e t t' c r h
    exp_found own ls ls' sc at (plain.part s e i) t t' c r h = exp_found own ls ls' sc (child at 0) e t t' c r h
    exp_found own ls ls' sc at (plain.deref s e) t t' c r h = exp_found own ls ls' sc (child at 0) e t t' c r h
    exp_found own ls ls' sc at (plain.negate s e) t t' c r h = exp_found own ls ls' sc (child at 0) e t t' c r h
    exp_found own ls ls' sc at (plain.invert s e) t t' c r h = exp_found own ls ls' sc (child at 0) e t t' c r h
    exp_found own ls ls' sc at (plain.borrow s m e) t t' c r h = exp_found own ls ls' sc (child at 0) e t t' c r h
    exp_found own ls ls' sc at (plain.binary s o a b) t t' c r h =
        let x = named_ok (in_expression I sc ls' (child at 0) a t) (in_expression I sc ls' (child at 1) b) t' h in
        (exp_found own ls ls' sc (child at 0) a t x.0 c r x.1, exp_found own ls ls' sc (child at 1) b x.0 t' c r x.2)
    exp_found own ls ls' sc at (plain.assign s a b) t t' c r h =
        let x = named_ok (in_expression I sc ls' (child at 0) a t) (in_expression I sc ls' (child at 1) b) t' h in
        (exp_found own ls ls' sc (child at 0) a t x.0 c r x.1, exp_found own ls ls' sc (child at 1) b x.0 t' c r x.2)
    exp_found own ls ls' sc at (plain.update s o a b) t t' c r h =
        let x = named_ok (in_expression I sc ls' (child at 0) a t) (in_expression I sc ls' (child at 1) b) t' h in
        (exp_found own ls ls' sc (child at 0) a t x.0 c r x.1, exp_found own ls ls' sc (child at 1) b x.0 t' c r x.2)
    exp_found own ls ls' sc at (plain.call s f es) t t' c r h =
        let x = named_ok (callee I at f (variable_named sc f.name) t) (in_expressions I sc ls' at 0 es) t' h in (tt, all_found own ls ls' sc at 0 es x.0 t' c r x.2)
    exp_found own ls ls' sc at (plain.next_input s) t t' c r h = tt
    exp_found own ls ls' sc at (plain.variant s a v es) t t' c r h =
        let x = named_ok (names I at (variant_in I a v) t) (in_arguments I sc ls' at es) t' h in arguments_found own ls ls' sc at es x.0 t' c r x.2
    exp_found own ls ls' sc at (plain.make s y fs) t t' c r h =
        let x = named_ok (names I at (one (struct_in I y)) t) (in_fields I sc ls' at 0 fs) t' h in fields_found own ls ls' sc at 0 fs x.0 t' c r x.2
    exp_found own ls ls' sc at (plain.print s e) t t' c r h = exp_found own ls ls' sc (child at 0) e t t' c r h
    exp_found own ls ls' sc at (plain.block s b) t t' c r h = body_found own ls ls' sc (child at 0) b t t' c r h
    exp_found own ls ls' sc at (plain.if s e b o) t t' c r h =
        let x = named_ok (in_expression I sc ls' (child at 0) e t) (in_block I sc ls' (child at 1) b >> in_optional I sc ls' (child at 2) o) t' h in
        let y = named_ok (in_block I sc ls' (child at 1) b x.0) (in_optional I sc ls' (child at 2) o) t' x.2 in
        (exp_found own ls ls' sc (child at 0) e t x.0 c r x.1, body_found own ls ls' sc (child at 1) b x.0 y.0 c r y.1, optional_found own ls ls' sc (child at 2) o y.0 t' c r y.2)
    exp_found own ls ls' sc at (plain.if_let s p e b o) t t' c r h =
        let start : Bound = record { bindings = []; tables = t } in
        let z = named_ok (in_pattern I (child at 0) p start) (λ d. (in_expression I sc ls' (child at 1) e >> in_block I (entered sc d.bindings) ls' (child at 2) b >> in_optional I sc ls' (child at 3) o) d.tables) t' h in
        let x = named_ok (in_expression I sc ls' (child at 1) e z.0.tables) (in_block I (entered sc z.0.bindings) ls' (child at 2) b >> in_optional I sc ls' (child at 3) o) t' z.2 in
        let y = named_ok (in_block I (entered sc z.0.bindings) ls' (child at 2) b x.0) (in_optional I sc ls' (child at 3) o) t' x.2 in (
          exp_found own ls ls' sc (child at 1) e z.0.tables x.0 c r x.1,
          body_found (bound p ++ own) ls ls' (entered sc z.0.bindings) (child at 2) b x.0 y.0 (covers_bound I (child at 0) p start z.0 own sc0 sc refl z.1 c) r y.1,
          optional_found own ls ls' sc (child at 3) o y.0 t' c r y.2,
        )
    exp_found own ls ls' sc at (plain.match s e l) t t' c r h =
        let x = named_ok (in_expression I sc ls' (child at 0) e t) (in_arms I sc ls' at 1 l) t' h in
        (exp_found own ls ls' sc (child at 0) e t x.0 c r x.1, arms_found own ls ls' sc at 1 l x.0 t' c r x.2)
    exp_found own ls ls' sc at (plain.loop s l b) t t' c r h =
        let n = number (length t.loops) in
        body_found own (a_loop l 0 ∷ ls) (a_loop l n ∷ ls') sc (child at 0) b (with_loop (position I at) t) t' c (round_loop l n ls ls' r) h
    exp_found own ls ls' sc at (plain.while s l e b) t t' c r h =
        let n = number (length t.loops) in let u = with_loop (position I at) t in
        let x = named_ok (in_expression I sc (a_test ∷ a_loop l n ∷ ls') (child at 0) e u) (in_block I sc (a_loop l n ∷ ls') (child at 1) b) t' h in (
          exp_found own (a_test ∷ a_loop l 0 ∷ ls) (a_test ∷ a_loop l n ∷ ls') sc (child at 0) e u x.0 c (round_test (a_loop l 0 ∷ ls) (a_loop l n ∷ ls')) x.1,
          body_found own (a_loop l 0 ∷ ls) (a_loop l n ∷ ls') sc (child at 1) b x.0 t' c (round_loop l n ls ls' r) x.2,
        )
    exp_found own ls ls' sc at (plain.while_let s l p e b) t t' c r h =
        let n = number (length t.loops) in let u = with_loop (position I at) t in
        let start : Bound = record { bindings = []; tables = u } in
        let z = named_ok (in_pattern I (child at 0) p start) (λ d. (in_expression I sc (a_test ∷ a_loop l n ∷ ls') (child at 1) e >> in_block I (entered sc d.bindings) (a_loop l n ∷ ls') (child at 2) b) d.tables) t' h in
        let x = named_ok (in_expression I sc (a_test ∷ a_loop l n ∷ ls') (child at 1) e z.0.tables) (in_block I (entered sc z.0.bindings) (a_loop l n ∷ ls') (child at 2) b) t' z.2 in (
          exp_found own (a_test ∷ a_loop l 0 ∷ ls) (a_test ∷ a_loop l n ∷ ls') sc (child at 1) e z.0.tables x.0 c (round_test (a_loop l 0 ∷ ls) (a_loop l n ∷ ls')) x.1,
          body_found (bound p ++ own) (a_loop l 0 ∷ ls) (a_loop l n ∷ ls') (entered sc z.0.bindings) (child at 2) b x.0 t' (covers_bound I (child at 0) p start z.0 own sc0 sc refl z.1 c) (round_loop l n ls ls' r) x.2,
        )
    exp_found own ls ls' sc at (plain.break s l) t t' c r h = jumped ls ls' s l at t t' r h
    exp_found own ls ls' sc at (plain.continue s l) t t' c r h = jumped ls ls' s l at t t' r h
    exp_found own ls ls' sc at (plain.return s o) t t' c r h = (tt, optional_found own ls ls' sc (child at 0) o t t' c r h)

    all_found : (own : Names) (ls ls' : List Around) (sc : Variables) (at : List ℕ) (i : ℕ) (es : Expressions) (t t' : ItemNames) → Covers own sc0 sc → Round ls ls' → in_expressions I sc ls' at i es t ≡ Ok t' → AllWithin (found sc0 around) own ls es
    all_found own ls ls' sc at i plain.no_expression t t' c r h = tt
    all_found own ls ls' sc at i (plain.expression_and e es) t t' c r h =
        let x = named_ok (in_expression I sc ls' (child at i) e t) (in_expressions I sc ls' at (next i) es) t' h in
        (exp_found own ls ls' sc (child at i) e t x.0 c r x.1, all_found own ls ls' sc at (next i) es x.0 t' c r x.2)

    pub optional_found : (own : Names) (ls ls' : List Around) (sc : Variables) (at : List ℕ) (o : OptionalExpression) (t t' : ItemNames) → Covers own sc0 sc → Round ls ls' → in_optional I sc ls' at o t ≡ Ok t' → OptionalWithin (found sc0 around) own ls o
    optional_found own ls ls' sc at plain.absent t t' c r h = tt
    optional_found own ls ls' sc at (plain.present e) t t' c r h = exp_found own ls ls' sc at e t t' c r h

    arguments_found : (own : Names) (ls ls' : List Around) (sc : Variables) (at : List ℕ) (o : OptionalExpressions) (t t' : ItemNames) → Covers own sc0 sc → Round ls ls' → in_arguments I sc ls' at o t ≡ Ok t' → ArgumentsWithin (found sc0 around) own ls o
    arguments_found own ls ls' sc at plain.no_list t t' c r h = tt
    arguments_found own ls ls' sc at (plain.a_list es) t t' c r h = all_found own ls ls' sc at 0 es t t' c r h

    fields_found : (own : Names) (ls ls' : List Around) (sc : Variables) (at : List ℕ) (i : ℕ) (fs : FieldExpressions) (t t' : ItemNames) → Covers own sc0 sc → Round ls ls' → in_fields I sc ls' at i fs t ≡ Ok t' → FieldsWithin (found sc0 around) own ls fs
    fields_found own ls ls' sc at i plain.no_field t t' c r h = tt
    fields_found own ls ls' sc at i (plain.field_and y e fs) t t' c r h =
        let x = named_ok (in_expression I sc ls' (child at i) e t) (in_fields I sc ls' at (next i) fs) t' h in
        (exp_found own ls ls' sc (child at i) e t x.0 c r x.1, fields_found own ls ls' sc at (next i) fs x.0 t' c r x.2)

    arms_found : (own : Names) (ls ls' : List Around) (sc : Variables) (at : List ℕ) (i : ℕ) (l : Arms) (t t' : ItemNames) → Covers own sc0 sc → Round ls ls' → in_arms I sc ls' at i l t ≡ Ok t' → ArmsWithin (found sc0 around) own ls l
    arms_found own ls ls' sc at i plain.no_arm t t' c r h = tt
    arms_found own ls ls' sc at i (plain.arm_and p e rest) t t' c r h =
        let start : Bound = record { bindings = []; tables = t } in
        let x = named_ok (and_then (in_pattern I (child at i) p start) (λ b. in_expression I (entered sc b.bindings) ls' (child at (next i)) e b.tables)) (in_arms I sc ls' at (next (next i)) rest) t' h in
        let y = named_ok (in_pattern I (child at i) p start) (λ b. in_expression I (entered sc b.bindings) ls' (child at (next i)) e b.tables) x.0 x.1 in (
          exp_found (bound p ++ own) ls ls' (entered sc y.0.bindings) (child at (next i)) e y.0.tables x.0 (covers_bound I (child at i) p start y.0 own sc0 sc refl y.1 c) r y.2,
          arms_found own ls ls' sc at (next (next i)) rest x.0 t' c r x.2,
        )

    body_found : (own : Names) (ls ls' : List Around) (sc : Variables) (at : List ℕ) (b : Body) (t t' : ItemNames) → Covers own sc0 sc → Round ls ls' → in_block I sc ls' at b t ≡ Ok t' → BodyWithin (found sc0 around) own ls b
    body_found own ls ls' sc at (plain.body s ss o) t t' c r h =
        let x = named_ok (in_statements I sc ls' at 0 ss t) (λ m. in_optional I m.scope ls' (child at (number (length (listed ss)))) o m.tables) t' h in (
          tt,
          statements_found own ls ls' sc at 0 ss t x.0 c r x.1,
          optional_found (behind_all own ss) ls ls' x.0.scope (child at (number (length (listed ss)))) o x.0.tables t' (statements_cover I ls' at 0 ss own sc0 sc t x.0 c x.1) r x.2,
        )

    statement_found : (own : Names) (ls ls' : List Around) (sc : Variables) (at : List ℕ) (a : Statement) (t : ItemNames) (m : Scoped) → Covers own sc0 sc → Round ls ls' → in_statement I sc ls' at a t ≡ Ok m → StatementWithin (found sc0 around) own ls a
    statement_found own ls ls' sc at (plain.let_statement s p y o) t m c r h =
        let start : Bound = record { bindings = []; tables = t } in
        let z = named_ok (in_pattern I (child at 0) p start) (λ b. and_then ((in_optional_type I (child at 1) y >> in_optional I sc ls' (child at (initialiser_at y)) o) b.tables) (λ t. Ok (record { scope = entered sc b.bindings; tables = t }))) m h in
        let x = named_ok ((in_optional_type I (child at 1) y >> in_optional I sc ls' (child at (initialiser_at y)) o) z.0.tables) (λ t. Ok (record { scope = entered sc z.0.bindings; tables = t })) m z.2 in
        let w = named_ok (in_optional_type I (child at 1) y z.0.tables) (in_optional I sc ls' (child at (initialiser_at y)) o) x.0 x.1 in
        (tt, optional_found own ls ls' sc (child at (initialiser_at y)) o w.0 x.0 c r w.2)
    statement_found own ls ls' sc at (plain.expression_statement s e b) t m c r h =
        let x = named_ok (in_expression I sc ls' (child at 0) e t) (λ t. Ok (record { scope = sc; tables = t })) m h in
        exp_found own ls ls' sc (child at 0) e t x.0 c r x.1

    -- behind a statement its names are in scope
    pub statements_found : (own : Names) (ls ls' : List Around) (sc : Variables) (at : List ℕ) (i : ℕ) (ss : Statements) (t : ItemNames) (m : Scoped) → Covers own sc0 sc → Round ls ls' → in_statements I sc ls' at i ss t ≡ Ok m → StatementsWithin (found sc0 around) own ls ss
    statements_found own ls ls' sc at i plain.no_statement t m c r h = tt
    statements_found own ls ls' sc at i (plain.statement_and a ss) t m c r h =
        let x = named_ok (in_statement I sc ls' (child at i) a t) (λ m. in_statements I m.scope ls' at (next i) ss m.tables) m h in (
          statement_found own ls ls' sc (child at i) a t x.0 c r x.1,
          statements_found (bound_by a ++ own) ls ls' x.0.scope at (next i) ss x.0.tables m (covers_behind I ls' at i a own sc0 sc t x.0 c x.1) r x.2,
        )

-- statements, and a tail behind them, where they begin
pub all_found_there : (I : Inside) (sc : Variables) (around : List Around) (at : List ℕ) (i : ℕ) (ss : Statements) (t : ItemNames) (m : Scoped) → in_statements I sc around at i ss t ≡ Ok m
    → StatementsWithin (found sc around) [] (numbered 1 (labels_of around)) ss × Covers (behind_all [] ss) sc m.scope
all_found_there I sc around at i ss t m h =
    (statements_found I sc around [] (numbered 1 (labels_of around)) around sc at i ss t m (covers_itself sc) (λ l n k e f. (n, e, f)) h, statements_cover I around at i ss [] sc sc t m (covers_itself sc) h)

pub tail_found_there : (I : Inside) (sc sc' : Variables) (around : List Around) (at : List ℕ) (own : Names) (o : OptionalExpression) (t t' : ItemNames) → Covers own sc sc' → in_optional I sc' around at o t ≡ Ok t'
    → OptionalWithin (found sc around) own (numbered 1 (labels_of around)) o
tail_found_there I sc sc' around at own o t t' c h = optional_found I sc around own (numbered 1 (labels_of around)) around sc' at o t t' c (λ l n k e f. (n, e, f)) h
