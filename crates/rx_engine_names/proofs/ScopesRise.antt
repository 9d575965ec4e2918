-- Variables that statements bind have numbers of their own, from where the statements begin on.
use Rattle.std.proofs.Common.{◌≡◌, ℕ, suc, ◌≤◌, ◌<◌, Bool, true, false, ◌||◌, if◌then◌else◌, List, [], ◌∷◌, ◌++◌, length, Option, Some, None, Ok, refl, sym, ap, ◌∙◌, subst, arith, append_assoc, append-nil, bytes_eq}
use Rattle.std.proofs.lemmas.Slice.Eq.{bytes_eq-Decides}
use Rattle.rx_tree.specs.declared.tree.Ident.{Ident}
use Rattle.rx_tree.specs.Plain as plain
use Rattle.rx_tree.specs.Plain.{PatternTree, PatternTrees, FieldPatterns, Statement, Statements}
use Rattle.rx_resolve_names.specs.declared.table.NumberedName.{NumberedName}
use Rattle.rx_resolve_names.specs.Scopes.{DeclaredNames, declared_as, Variables, variable_named, entered}
use Rattle.rx_resolve_names.specs.declared.resolved.ItemNames.{ItemNames}
use Rattle.rx_resolve_names.specs.Meant.{number, Around}
use Rattle.rx_resolve_names.specs.Steps.{and_then, ◌>>◌, Naming, nothing, Inside, declare, declared_behind, child, next, entry, with_names, with_variable, names}
use Rattle.rx_resolve_names.specs.Names.{Bound, Binding, binds, also, in_order, in_pattern, in_patterns, in_field_patterns, in_optional_type, initialiser_at, in_expression, in_optional, in_statement, in_statements, Scoped}
use Rattle.rx_hoist_extraction.specs.Names.{Names, is_among, bound, bound_by, behind_all}
use Rattle.rx_engine_names.specs.Apart.{Few}
use Rattle.rx_engine_names.proofs.SideBySide.{named_ok, the_same, one_more}
use Rattle.rx_engine_names.proofs.Scoped.{piled, among_piled}
use Rattle.rx_engine_names.proofs.CopiedPatterns.{pattern_binds}
use Rattle.rx_engine_names.proofs.ResolvingGrows.{Grows, names_grow, optional_type_grows, optional_grows, statements_grow, statement_grows, then_grows, expression_grows, nothing_grows}

-- ---- what patterns bind

-- numbers that rise, of variables between these
abbrev pub Rising : DeclaredNames → ℕ → ℕ → Type 0
Rising [] lo hi = lo ≤ hi
Rising (d ∷ ds) lo hi = (k : ℕ) × (d.1.number ≡ number k) × (lo ≤ k) × Rising ds (suc k) hi

rising_far : (ds : DeclaredNames) (lo hi far : ℕ) → hi ≤ far → Rising ds lo hi → Rising ds lo far
rising_far [] lo hi far h r = omega (arith, h, r)
rising_far (d ∷ ds) lo hi far h r = (r.0, r.1, r.2, rising_far ds (suc r.0) hi far h r.3)

rising_near : (ds : DeclaredNames) (near lo hi : ℕ) → near ≤ lo → Rising ds lo hi → Rising ds near hi
rising_near [] near lo hi h r = omega (arith, h, r)
rising_near (d ∷ ds) near lo hi h r = (r.0, r.1, omega (arith, h, r.2), r.3)

rising_append : (ds es : DeclaredNames) (lo mid hi : ℕ) → Rising ds lo mid → Rising es mid hi → Rising (ds ++ es) lo hi
rising_append [] es lo mid hi r q = rising_near es lo mid hi r q
rising_append (d ∷ ds) es lo mid hi r q = (r.0, r.1, r.2, rising_append ds es (suc r.0) mid hi r.3 q)

abbrev BindingRises : Binding → Type 0
BindingRises f = (b b' : Bound) → f b ≡ Ok b' → (ds : DeclaredNames) × (b'.bindings ≡ b.bindings ++ ds) × Rising ds (length b.tables.vars) (length b'.tables.vars)

also_rises : (f : Naming) → Grows f → BindingRises (also f)
also_rises f g b b' e =
    let to : ItemNames → Bound = λ t. record { bindings = b.bindings; tables = t } in
    let a = named_ok (f b.tables) (λ t. Ok (to t)) b' e in
    subst (λ (z : Bound). (ds : DeclaredNames) × (z.bindings ≡ b.bindings ++ ds) × Rising ds (length b.tables.vars) (length z.tables.vars)) (the_same (to a.0) b' a.2) ([], sym (append-nil b.bindings), (g b.tables a.0 a.1).0)

order_rises : (f g : Binding) → BindingRises f → BindingRises g → BindingRises (in_order f g)
order_rises f g p q b b' e =
    let a = named_ok (f b) g b' e in let x = p b a.0 a.1 in let y = q a.0 b' a.2 in
    (x.0 ++ y.0, y.1 ∙ ap (λ (l : DeclaredNames). l ++ y.0) x.1 ∙ append_assoc b.bindings x.0 y.0, rising_append x.0 y.0 (length b.tables.vars) (length a.0.tables.vars) (length b'.tables.vars) x.2 y.2)

declared_one : (ds new : DeclaredNames) (x : Ident) (n : ℕ) (o : Option NumberedName) → declared_behind ds x n o ≡ Ok new → new ≡ ds ++ (x.name, record { number = number n; span = x.span }) ∷ []
declared_one ds new x n None e = sym (the_same _ _ e)
declared_one ds new x n (Some k) e = absurd (cc)

binds_rises : (I : Inside) (at : List ℕ) (x : Ident) → BindingRises (binds I at x)
binds_rises I at x b b' e =
    let n = length b.tables.vars in
    let to : DeclaredNames → Bound = λ ds. record { bindings = ds; tables = with_names (entry I at (number n ∷ [])) (with_variable x.span b.tables) } in
    let a = named_ok (declare b.bindings x n) (λ ds. Ok (to ds)) b' e in
    subst (λ (z : Bound). (ds : DeclaredNames) × (z.bindings ≡ b.bindings ++ ds) × Rising ds n (length z.tables.vars)) (the_same (to a.0) b' a.2)
    ((x.name, record { number = number n; span = x.span }) ∷ [], declared_one b.bindings a.0 x n (declared_as b.bindings x.name) a.1, (n, refl, omega arith, omega (arith, one_more b.tables.vars x.span)))

mutual
  pattern_rises : (I : Inside) (at : List ℕ) (p : PatternTree) → BindingRises (in_pattern I at p)
  pattern_rises I at (plain.wild s) = also_rises nothing nothing_grows
  pattern_rises I at (plain.bind s x m) = binds_rises I at x
  pattern_rises I at (plain.int_pattern s g v k) = also_rises nothing nothing_grows
  pattern_rises I at (plain.bool_pattern s b) = also_rises nothing nothing_grows
  pattern_rises I at (plain.tuple_pattern s ps) = patterns_rise I at 0 ps
  pattern_rises I at (plain.variant_pattern s a v ps) = order_rises _ _ (also_rises _ (names_grow I at _)) (patterns_rise I at 0 ps)
  pattern_rises I at (plain.make_pattern s x fs) = order_rises _ _ (also_rises _ (names_grow I at _)) (field_patterns_rise I at 0 fs)

  patterns_rise : (I : Inside) (at : List ℕ) (i : ℕ) (ps : PatternTrees) → BindingRises (in_patterns I at i ps)
  patterns_rise I at i plain.no_pattern = also_rises nothing nothing_grows
  patterns_rise I at i (plain.pattern_and p ps) = order_rises _ _ (pattern_rises I (child at i) p) (patterns_rise I at (next i) ps)

  field_patterns_rise : (I : Inside) (at : List ℕ) (i : ℕ) (fs : FieldPatterns) → BindingRises (in_field_patterns I at i fs)
  field_patterns_rise I at i plain.no_field_pattern = also_rises nothing nothing_grows
  field_patterns_rise I at i (plain.field_pattern_and x p fs) = order_rises _ _ (pattern_rises I (child at i) p) (field_patterns_rise I at (next i) fs)

-- ---- scopes

number_kept : (k : ℕ) → Few k → number k ≡ k
number_kept k h = omega (arith, h)

-- each name that was bound since means a variable between these, and no two the same
pub record Rises (own : Names) (sc : Variables) (lo hi : ℕ) : Type 0 where
  pub means : (x : List ℕ) → is_among x own ≡ true → (n : ℕ) × (variable_named sc x ≡ Some n) × (lo ≤ n) × (n < hi)
  pub apart : (x y : List ℕ) (n : ℕ) → is_among x own ≡ true → is_among y own ≡ true → variable_named sc x ≡ Some n → variable_named sc y ≡ Some n → x ≡ y

rises_far : (own : Names) (sc : Variables) (lo hi far : ℕ) → hi ≤ far → Rises own sc lo hi → Rises own sc lo far
rises_far own sc lo hi far h r = record { means = λ x e. let y = r.means x e in (y.0, y.1, y.2, omega (arith, h, y.3)); apart = r.apart }

some_same : (n m : ℕ) → Some n ≡ Some m → n ≡ m
some_same n m e = cc

module _ (own : Names) (sc : Variables) (lo hi k : ℕ) (y : List ℕ) (above : hi ≤ k) (start : lo ≤ k) (r : Rises own sc lo hi) where
  one_means : (x : List ℕ) (b : Bool) → (b || is_among x own) ≡ true → (n : ℕ) × ((if b then Some k else variable_named sc x) ≡ Some n) × (lo ≤ n) × (n < suc k)
  one_means x true e = (k, refl, start, omega arith)
  one_means x false e = let z = r.means x e in (z.0, z.1, z.2, omega (arith, above, z.3))

  old_below : (x : List ℕ) (n : ℕ) → is_among x own ≡ true → variable_named sc x ≡ Some n → n < k
  old_below x n e f = let z = r.means x e in let same = some_same n z.0 (sym f ∙ z.1) in omega (arith, above, z.3, same)

  one_apart : (x z : List ℕ) (n : ℕ) (b c : Bool) → bytes_eq x y ≡ b → bytes_eq z y ≡ c → (b || is_among x own) ≡ true → (c || is_among z own) ≡ true → (if b then Some k else variable_named sc x) ≡ Some n → (if c then Some k else variable_named sc z) ≡ Some n → x ≡ z
  one_apart x z n true true d d' e e' f f' = (bytes_eq-Decides x y).0 d ∙ sym ((bytes_eq-Decides z y).0 d')
  one_apart x z n true false d d' e e' f f' = absurd (let l = old_below z n e' f' in let s = some_same k n f in omega (arith, l, s))
  one_apart x z n false true d d' e e' f f' = absurd (let l = old_below x n e f in let s = some_same k n f' in omega (arith, l, s))
  one_apart x z n false false d d' e e' f f' = r.apart x z n e e' f f'

  rises_one : Rises (y ∷ own) (record { name = y; number = k } ∷ sc) lo (suc k)
  rises_one = record { means = λ x e. one_means x (bytes_eq x y) e; apart = λ x z n e e' f f'. one_apart x z n (bytes_eq x y) (bytes_eq z y) refl refl e e' f f' }

rising_above : (ds : DeclaredNames) (lo hi : ℕ) → Rising ds lo hi → lo ≤ hi
rising_above [] lo hi r = r
rising_above (d ∷ ds) lo hi r = let h = rising_above ds (suc r.0) hi r.3 in omega (arith, h, r.2)

rises_piled : (own : Names) (ds : DeclaredNames) (sc : Variables) (lo mid hi : ℕ) → Few hi → lo ≤ mid → Rises own sc lo mid → Rising ds mid hi → Rises (piled own ds) (entered sc ds) lo hi
rises_piled own [] sc lo mid hi few start r q = rises_far own sc lo mid hi q r
rises_piled own (d ∷ ds) sc lo mid hi few start r q =
    let up = rising_above ds (suc q.0) hi q.3 in
    rises_piled (d.0 ∷ own) ds (record { name = d.0; number = d.1.number } ∷ sc) lo (suc q.0) hi few (omega (arith, start, q.2))
    (subst (λ (n : ℕ). Rises (d.0 ∷ own) (record { name = d.0; number = n } ∷ sc) lo (suc q.0)) (sym (q.1 ∙ number_kept q.0 (omega (arith, up, few)))) (rises_one own sc lo mid q.0 d.0 q.2 (omega (arith, start, q.2)) r)) q.3

same_among : (own names : Names) (sc : Variables) (lo hi : ℕ) → ((x : List ℕ) → is_among x own ≡ is_among x names) → Rises own sc lo hi → Rises names sc lo hi
same_among own names sc lo hi s r = record { means = λ x e. r.means x (s x ∙ e); apart = λ x y n e e' f f'. r.apart x y n (s x ∙ e) (s y ∙ e') f f' }

statement_rises : (I : Inside) (ls : List Around) (at : List ℕ) (a : Statement) (own : Names) (sc : Variables) (t : ItemNames) (r : Scoped) (lo : ℕ) → lo ≤ length t.vars → Few (length r.tables.vars) → Rises own sc lo (length t.vars) → in_statement I sc ls at a t ≡ Ok r
    → Rises (bound_by a ++ own) r.scope lo (length r.tables.vars)
statement_rises I ls at (plain.let_statement s p y o) own sc t r lo start few h e =
    let b0 : Bound = record { bindings = []; tables = t } in
    let Z = named_ok (in_pattern I (child at 0) p b0) (λ b. and_then ((in_optional_type I (child at 1) y >> in_optional I sc ls (child at (initialiser_at y)) o) b.tables) (λ t. Ok (record { scope = entered sc b.bindings; tables = t }))) r e in
    let to : ItemNames → Scoped = λ t. record { scope = entered sc Z.0.bindings; tables = t } in
    let W = named_ok ((in_optional_type I (child at 1) y >> in_optional I sc ls (child at (initialiser_at y)) o) Z.0.tables) (λ t. Ok (to t)) r Z.2 in
    let same = the_same (to W.0) r W.2 in
    let few1 : Few (length W.0.vars) = subst (λ (z : Scoped). Few (length z.tables.vars)) (sym same) few in
    let up = (then_grows (in_optional_type I (child at 1) y) (in_optional I sc ls (child at (initialiser_at y)) o) (optional_type_grows I (child at 1) y) (optional_grows I sc ls (child at (initialiser_at y)) o) Z.0.tables W.0 W.1).0 in
    let R = pattern_rises I (child at 0) p b0 Z.0 Z.1 in
    let rising : Rising Z.0.bindings (length t.vars) (length W.0.vars) = subst (λ (ds : DeclaredNames). Rising ds (length t.vars) (length W.0.vars)) (sym R.1) (rising_far R.0 (length t.vars) (length Z.0.tables.vars) (length W.0.vars) up R.2) in
    let ds = Z.0.bindings in
    subst (λ (z : Scoped). Rises (bound p ++ own) z.scope lo (length z.tables.vars)) same
    (same_among (piled own ds) (bound p ++ own) (entered sc ds) lo (length W.0.vars) (λ x. among_piled x own ds ∙ ap (λ (l : Names). is_among x (l ++ own)) (pattern_binds I (child at 0) p b0 Z.0 Z.1))
    (rises_piled own ds sc lo (length t.vars) (length W.0.vars) few1 start h rising))
statement_rises I ls at (plain.expression_statement s x b) own sc t r lo start few h e =
    let to : ItemNames → Scoped = λ t. record { scope = sc; tables = t } in
    let X = named_ok (in_expression I sc ls (child at 0) x t) (λ t. Ok (to t)) r e in
    subst (λ (z : Scoped). Rises own z.scope lo (length z.tables.vars)) (the_same (to X.0) r X.2) (rises_far own sc lo (length t.vars) (length X.0.vars) (expression_grows I sc ls (child at 0) x t X.0 X.1).0 h)

pub statements_rise : (I : Inside) (ls : List Around) (at : List ℕ) (i : ℕ) (ss : Statements) (own : Names) (sc : Variables) (t : ItemNames) (r : Scoped) (lo : ℕ) → lo ≤ length t.vars → Few (length r.tables.vars) → Rises own sc lo (length t.vars) → in_statements I sc ls at i ss t ≡ Ok r
    → Rises (behind_all own ss) r.scope lo (length r.tables.vars)
statements_rise I ls at i plain.no_statement own sc t r lo start few h e =
    let to : ItemNames → Scoped = λ t. record { scope = sc; tables = t } in subst (λ (z : Scoped). Rises own z.scope lo (length z.tables.vars)) (the_same (to t) r e) h
statements_rise I ls at i (plain.statement_and a ss) own sc t r lo start few h e =
    let X = named_ok (in_statement I sc ls (child at i) a t) (λ r. in_statements I r.scope ls at (next i) ss r.tables) r e in
    let up = (statements_grow I X.0.scope ls at (next i) ss X.0.tables r X.2).0 in
    let few1 : Few (length X.0.tables.vars) = omega (arith, up, few) in
    let H = statement_rises I ls (child at i) a own sc t X.0 lo start few1 h X.1 in
    let grown = (statement_grows I sc ls (child at i) a t X.0 X.1).0 in
    statements_rise I ls at (next i) ss (bound_by a ++ own) X.0.scope X.0.tables r lo (omega (arith, start, grown)) few H X.2

pub rises_itself : (sc : Variables) (n : ℕ) → Rises [] sc n n
rises_itself sc n = record { means = λ x e. absurd (cc); apart = λ x y n e e' f f'. absurd (cc) }

-- ---- whatever is few: each name that was bound since means a variable below the next

abbrev pub BoundBelow : Names → Variables → ℕ → Type 0
BoundBelow own sc hi = (x : List ℕ) (n : ℕ) → is_among x own ≡ true → variable_named sc x ≡ Some n → (n < hi) × Few n

below_far : (own : Names) (sc : Variables) (hi far : ℕ) → hi ≤ far → BoundBelow own sc hi → BoundBelow own sc far
below_far own sc hi far h b x n e f = let y = b x n e f in (omega (arith, h, y.0), y.1)

below_one : (own : Names) (sc : Variables) (hi k : ℕ) (y : List ℕ) → hi ≤ k → BoundBelow own sc hi → BoundBelow (y ∷ own) (record { name = y; number = number k } ∷ sc) (suc k)
below_one own sc hi k y up b x n = by (bytes_eq x y)
  where
    by : (c : Bool) → (c || is_among x own) ≡ true → (if c then Some (number k) else variable_named sc x) ≡ Some n → (n < suc k) × Few n
    by true e f = let s = some_same (number k) n f in (omega (arith, s), omega (arith, s))
    by false e f = let z = b x n e f in (omega (arith, up, z.0), z.1)

below_piled : (own : Names) (ds : DeclaredNames) (sc : Variables) (mid hi : ℕ) → BoundBelow own sc mid → Rising ds mid hi → BoundBelow (piled own ds) (entered sc ds) hi
below_piled own [] sc mid hi b q = below_far own sc mid hi q b
below_piled own (d ∷ ds) sc mid hi b q =
    below_piled (d.0 ∷ own) ds (record { name = d.0; number = d.1.number } ∷ sc) (suc q.0) hi
    (subst (λ (n : ℕ). BoundBelow (d.0 ∷ own) (record { name = d.0; number = n } ∷ sc) (suc q.0)) (sym q.1) (below_one own sc mid q.0 d.0 q.2 b)) q.3

statement_below : (I : Inside) (ls : List Around) (at : List ℕ) (a : Statement) (own : Names) (sc : Variables) (t : ItemNames) (r : Scoped) → BoundBelow own sc (length t.vars) → in_statement I sc ls at a t ≡ Ok r
    → BoundBelow (bound_by a ++ own) r.scope (length r.tables.vars)
statement_below I ls at (plain.let_statement s p y o) own sc t r h e =
    let b0 : Bound = record { bindings = []; tables = t } in
    let Z = named_ok (in_pattern I (child at 0) p b0) (λ b. and_then ((in_optional_type I (child at 1) y >> in_optional I sc ls (child at (initialiser_at y)) o) b.tables) (λ t. Ok (record { scope = entered sc b.bindings; tables = t }))) r e in
    let to : ItemNames → Scoped = λ t. record { scope = entered sc Z.0.bindings; tables = t } in
    let W = named_ok ((in_optional_type I (child at 1) y >> in_optional I sc ls (child at (initialiser_at y)) o) Z.0.tables) (λ t. Ok (to t)) r Z.2 in
    let up = (then_grows (in_optional_type I (child at 1) y) (in_optional I sc ls (child at (initialiser_at y)) o) (optional_type_grows I (child at 1) y) (optional_grows I sc ls (child at (initialiser_at y)) o) Z.0.tables W.0 W.1).0 in
    let R = pattern_rises I (child at 0) p b0 Z.0 Z.1 in
    let rising : Rising Z.0.bindings (length t.vars) (length W.0.vars) = subst (λ (ds : DeclaredNames). Rising ds (length t.vars) (length W.0.vars)) (sym R.1) (rising_far R.0 (length t.vars) (length Z.0.tables.vars) (length W.0.vars) up R.2) in
    let ds = Z.0.bindings in
    subst (λ (z : Scoped). BoundBelow (bound p ++ own) z.scope (length z.tables.vars)) (the_same (to W.0) r W.2)
    (λ x n f. below_piled own ds sc (length t.vars) (length W.0.vars) h rising x n (among_piled x own ds ∙ ap (λ (l : Names). is_among x (l ++ own)) (pattern_binds I (child at 0) p b0 Z.0 Z.1) ∙ f))
statement_below I ls at (plain.expression_statement s x b) own sc t r h e =
    let to : ItemNames → Scoped = λ t. record { scope = sc; tables = t } in
    let X = named_ok (in_expression I sc ls (child at 0) x t) (λ t. Ok (to t)) r e in
    subst (λ (z : Scoped). BoundBelow own z.scope (length z.tables.vars)) (the_same (to X.0) r X.2) (below_far own sc (length t.vars) (length X.0.vars) (expression_grows I sc ls (child at 0) x t X.0 X.1).0 h)

statements_bind_below : (I : Inside) (ls : List Around) (at : List ℕ) (i : ℕ) (ss : Statements) (own : Names) (sc : Variables) (t : ItemNames) (r : Scoped) → BoundBelow own sc (length t.vars) → in_statements I sc ls at i ss t ≡ Ok r
    → BoundBelow (behind_all own ss) r.scope (length r.tables.vars)
statements_bind_below I ls at i plain.no_statement own sc t r h e =
    let to : ItemNames → Scoped = λ t. record { scope = sc; tables = t } in subst (λ (z : Scoped). BoundBelow own z.scope (length z.tables.vars)) (the_same (to t) r e) h
statements_bind_below I ls at i (plain.statement_and a ss) own sc t r h e =
    let X = named_ok (in_statement I sc ls (child at i) a t) (λ r. in_statements I r.scope ls at (next i) ss r.tables) r e in
    statements_bind_below I ls at (next i) ss (bound_by a ++ own) X.0.scope X.0.tables r (statement_below I ls (child at i) a own sc t X.0 h X.1) X.2

pub bound_below : (I : Inside) (ls : List Around) (at : List ℕ) (i : ℕ) (ss : Statements) (sc : Variables) (t : ItemNames) (r : Scoped) → in_statements I sc ls at i ss t ≡ Ok r → BoundBelow (behind_all [] ss) r.scope (length r.tables.vars)
bound_below I ls at i ss sc t r e = statements_bind_below I ls at i ss [] sc t r (λ x n f g. absurd (cc)) e
