-- What a name means behind statements: what they bind, or what it meant in front. So names behind a run and behind what stands for it
-- mean what corresponds, where both bind them or neither does.
use Rattle.std.proofs.Common.{◌≡◌, ℕ, Bool, true, false, not, ◌&&◌, ◌||◌, if◌then◌else◌, List, [], ◌∷◌, ◌++◌, Option, Some, None, Ok, inl, inr, refl, sym, ap, ◌∙◌, subst, bytes_eq}
use Rattle.std.proofs.lemmas.Slice.Eq.{bytes_eq-Decides}
use Rattle.rx_tree.specs.Plain as plain
use Rattle.rx_tree.specs.Plain.{Statement, Statements}
use Rattle.rx_resolve_names.specs.Scopes.{DeclaredNames, Variables, variable_named, entered}
use Rattle.rx_resolve_names.specs.declared.resolved.ItemNames.{ItemNames}
use Rattle.rx_resolve_names.specs.Meant.{Around}
use Rattle.rx_resolve_names.specs.Steps.{and_then, ◌>>◌, Inside, child, next}
use Rattle.rx_resolve_names.specs.Names.{Bound, in_pattern, in_optional_type, initialiser_at, in_expression, in_optional, in_statement, in_statements, Scoped}
use Rattle.rx_hoist_extraction.specs.Names.{Names, is_among, bound, bound_by, behind_all}
use Rattle.rx_hoist_extraction.specs.Run.{as_statements}
use Rattle.rx_engine_names.specs.Renaming.{Pairs, Has}
use Rattle.rx_engine_names.specs.Placed.{Meet, AllMeet, Agree}
use Rattle.rx_engine_names.proofs.SideBySide.{named_ok, the_same}
use Rattle.rx_engine_names.proofs.Scoped.{declared_names, piled, among_piled}
use Rattle.rx_engine_names.proofs.CopiedPatterns.{pattern_binds}

-- ---- one scope

-- what is said of a name by whether it was bound since
abbrev Since : Bool → Option ℕ → Option ℕ → Type 0
Since b o o0 = (b ≡ true → (n : ℕ) × (o ≡ Some n)) × (b ≡ false → o ≡ o0)

-- each name that was bound since the first scope means a variable, others mean what they did there
abbrev pub Covers : Names → Variables → Variables → Type 0
Covers own sc0 sc = (x : List ℕ) → Since (is_among x own) (variable_named sc x) (variable_named sc0 x)

covers_one : (own : Names) (sc0 sc : Variables) (y : List ℕ) (k : ℕ) → Covers own sc0 sc → Covers (y ∷ own) sc0 (record { name = y; number = k } ∷ sc)
covers_one own sc0 sc y k h x = by (bytes_eq x y)
  where
    by : (b : Bool) → Since (b || is_among x own) (if b then Some k else variable_named sc x) (variable_named sc0 x)
    by true = (λ e. (k, refl), λ e. absurd (cc))
    by false = h x

covers_piled : (own : Names) (ds : DeclaredNames) (sc0 sc : Variables) → Covers own sc0 sc → Covers (piled own ds) sc0 (entered sc ds)
covers_piled own [] sc0 sc h = h
covers_piled own (d ∷ ds) sc0 sc h = covers_piled (d.0 ∷ own) ds sc0 (record { name = d.0; number = d.1.number } ∷ sc) (covers_one own sc0 sc d.0 d.1.number h)

covers_entered : (own names : Names) (ds : DeclaredNames) (sc0 sc : Variables) → declared_names ds ≡ names → Covers own sc0 sc → Covers (names ++ own) sc0 (entered sc ds)
covers_entered own names ds sc0 sc e h x =
    subst (λ (z : Bool). Since z (variable_named (entered sc ds) x) (variable_named sc0 x)) (among_piled x own ds ∙ ap (λ (l : Names). is_among x (l ++ own)) e) (covers_piled own ds sc0 sc h x)

statement_covers : (I : Inside) (ls : List Around) (at : List ℕ) (a : Statement) (own : Names) (sc0 sc : Variables) (t : ItemNames) (r : Scoped) → Covers own sc0 sc → in_statement I sc ls at a t ≡ Ok r → Covers (bound_by a ++ own) sc0 r.scope
statement_covers I ls at (plain.let_statement s p y o) own sc0 sc t r h e =
    let start : Bound = record { bindings = []; tables = t } in
    let Z = named_ok (in_pattern I (child at 0) p start) (λ b. and_then ((in_optional_type I (child at 1) y >> in_optional I sc ls (child at (initialiser_at y)) o) b.tables) (λ t. Ok (record { scope = entered sc b.bindings; tables = t }))) r e in
    let to : ItemNames → Scoped = λ t. record { scope = entered sc Z.0.bindings; tables = t } in
    let W = named_ok ((in_optional_type I (child at 1) y >> in_optional I sc ls (child at (initialiser_at y)) o) Z.0.tables) (λ t. Ok (to t)) r Z.2 in
    subst (λ (z : Scoped). Covers (bound p ++ own) sc0 z.scope) (the_same (to W.0) r W.2) (covers_entered own (bound p) Z.0.bindings sc0 sc (pattern_binds I (child at 0) p start Z.0 Z.1) h)
statement_covers I ls at (plain.expression_statement s x b) own sc0 sc t r h e =
    let to : ItemNames → Scoped = λ t. record { scope = sc; tables = t } in
    let X = named_ok (in_expression I sc ls (child at 0) x t) (λ t. Ok (to t)) r e in
    subst (λ (z : Scoped). Covers own sc0 z.scope) (the_same (to X.0) r X.2) h

pub statements_cover : (I : Inside) (ls : List Around) (at : List ℕ) (i : ℕ) (ss : Statements) (own : Names) (sc0 sc : Variables) (t : ItemNames) (r : Scoped) → Covers own sc0 sc → in_statements I sc ls at i ss t ≡ Ok r → Covers (behind_all own ss) sc0 r.scope
statements_cover I ls at i plain.no_statement own sc0 sc t r h e =
    let to : ItemNames → Scoped = λ t. record { scope = sc; tables = t } in
    subst (λ (z : Scoped). Covers own sc0 z.scope) (the_same (to t) r e) h
statements_cover I ls at i (plain.statement_and a ss) own sc0 sc t r h e =
    let X = named_ok (in_statement I sc ls (child at i) a t) (λ r. in_statements I r.scope ls at (next i) ss r.tables) r e in
    statements_cover I ls at (next i) ss (bound_by a ++ own) sc0 X.0.scope X.0.tables r (statement_covers I ls (child at i) a own sc0 sc t X.0 h X.1) X.2

pub covers_itself : (sc : Variables) → Covers [] sc sc
covers_itself sc x = (λ e. absurd (cc), λ e. refl)

-- ---- two scopes

pub meet_weaker : (V W : ℕ → ℕ → Type 0) → ((n m : ℕ) → V n m → W n m) → (o o' : Option ℕ) → Meet V o o' → Meet W o o'
meet_weaker V W f None None h = tt
meet_weaker V W f (Some n) (Some m) h = f n m h
meet_weaker V W f None (Some m) h = absurd h
meet_weaker V W f (Some n) None h = absurd h

-- what names mean in both corresponds from here on
abbrev pub pair_if : Option ℕ → Option ℕ → Pairs → Pairs
pair_if None None ps = ps
pair_if None (Some m) ps = ps
pair_if (Some n) None ps = ps
pair_if (Some n) (Some m) ps = (n, m) ∷ ps

-- names that are among the old; each once
abbrev pub pairs_onto : Names → Names → Variables → Variables → Pairs → Pairs
pairs_onto old [] sc sc' ps = ps
pairs_onto old (x ∷ xs) sc sc' ps = if is_among x old && not (is_among x xs) then pair_if (variable_named sc x) (variable_named sc' x) (pairs_onto old xs sc sc' ps) else pairs_onto old xs sc sc' ps

if_kept : (o o' : Option ℕ) (ps : Pairs) (n m : ℕ) → Has ps n m → Has (pair_if o o' ps) n m
if_kept None None ps n m h = h
if_kept None (Some k) ps n m h = h
if_kept (Some j) None ps n m h = h
if_kept (Some j) (Some k) ps n m h = inr h

choice_kept : (b : Bool) (o o' : Option ℕ) (ps : Pairs) (n m : ℕ) → Has ps n m → Has (if b then pair_if o o' ps else ps) n m
choice_kept true o o' ps n m h = if_kept o o' ps n m h
choice_kept false o o' ps n m h = h

pub onto_kept : (old xs : Names) (sc sc' : Variables) (ps : Pairs) (n m : ℕ) → Has ps n m → Has (pairs_onto old xs sc sc' ps) n m
onto_kept old [] sc sc' ps n m h = h
onto_kept old (x ∷ xs) sc sc' ps n m h = choice_kept (is_among x old && not (is_among x xs)) (variable_named sc x) (variable_named sc' x) (pairs_onto old xs sc sc' ps) n m (onto_kept old xs sc sc' ps n m h)

has_pair : (o o' : Option ℕ) (ps : Pairs) (n m : ℕ) → o ≡ Some n → o' ≡ Some m → Has (pair_if o o' ps) n m
has_pair o o' ps n m e f =
    subst (λ (z : Option ℕ). Has (pair_if z o' ps) n m) (sym e) (subst (λ (z : Option ℕ). Has (pair_if (Some n) z ps) n m) (sym f) (inl (inl (refl, refl))))

and_both : (a b : Bool) → a ≡ true → b ≡ false → (a && not b) ≡ true
and_both true false e f = refl
and_both true true e f = absurd (cc)
and_both false b e f = absurd (cc)

clash : true ≡ false → ⊥
clash e = cc

onto_has : (x : List ℕ) (old xs : Names) (sc sc' : Variables) (ps : Pairs) (n m : ℕ) → is_among x old ≡ true → is_among x xs ≡ true → variable_named sc x ≡ Some n → variable_named sc' x ≡ Some m → Has (pairs_onto old xs sc sc' ps) n m
onto_has x old [] sc sc' ps n m a b e f = absurd (cc)
onto_has x old (y ∷ ys) sc sc' ps n m a b e f = by (is_among x ys) refl (bytes_eq x y) refl b (λ c. onto_has x old ys sc sc' ps n m a c e f)
  where
    by : (c : Bool) → is_among x ys ≡ c → (d : Bool) → bytes_eq x y ≡ d → (d || is_among x ys) ≡ true → (is_among x ys ≡ true → Has (pairs_onto old ys sc sc' ps) n m) → Has (pairs_onto old (y ∷ ys) sc sc' ps) n m
    by true k d g b r = choice_kept (is_among y old && not (is_among y ys)) (variable_named sc y) (variable_named sc' y) (pairs_onto old ys sc sc' ps) n m (r k)
    by false k true g b r =
        let same = (bytes_eq-Decides x y).0 g in
        subst (λ (c : Bool). Has (if c then pair_if (variable_named sc y) (variable_named sc' y) (pairs_onto old ys sc sc' ps) else pairs_onto old ys sc sc' ps) n m)
        (sym (and_both (is_among y old) (is_among y ys) (ap (λ (z : List ℕ). is_among z old) (sym same) ∙ a) (ap (λ (z : List ℕ). is_among z ys) (sym same) ∙ k)))
        (has_pair (variable_named sc y) (variable_named sc' y) (pairs_onto old ys sc sc' ps) n m (ap (variable_named sc) (sym same) ∙ e) (ap (variable_named sc') (sym same) ∙ f))
    by false k false g b r = absurd (clash (sym b ∙ k))

-- behind a run and behind what stands for it
pub meet_behind : (run call : List Statement) (ps : Pairs) (front middle behind scope : Variables) → AllMeet (Has ps) front middle
    → Covers (behind_all [] (as_statements run)) front behind → Covers (behind_all [] (as_statements call)) middle scope → (x : List ℕ) → Agree run call x
    → Meet (Has (pairs_onto (behind_all [] (as_statements run)) (behind_all [] (as_statements call)) behind scope ps)) (variable_named behind x) (variable_named scope x)
meet_behind run call ps front middle behind scope h c d x a = by (is_among x (behind_all [] (as_statements call))) refl
  where
    by : (b : Bool) → is_among x (behind_all [] (as_statements call)) ≡ b
        → Meet (Has (pairs_onto (behind_all [] (as_statements run)) (behind_all [] (as_statements call)) behind scope ps)) (variable_named behind x) (variable_named scope x)
    by true k =
        let y = (c x).0 (a ∙ k) in let z = (d x).0 k in
        subst (λ (o : Option ℕ). Meet (Has (pairs_onto (behind_all [] (as_statements run)) (behind_all [] (as_statements call)) behind scope ps)) o (variable_named scope x)) (sym y.1)
        (subst (λ (o : Option ℕ). Meet (Has (pairs_onto (behind_all [] (as_statements run)) (behind_all [] (as_statements call)) behind scope ps)) (Some y.0) o) (sym z.1)
        (onto_has x (behind_all [] (as_statements run)) (behind_all [] (as_statements call)) behind scope ps y.0 z.0 (a ∙ k) k y.1 z.1))
    by false k =
        subst (λ (o : Option ℕ). Meet (Has (pairs_onto (behind_all [] (as_statements run)) (behind_all [] (as_statements call)) behind scope ps)) o (variable_named scope x)) (sym ((c x).1 (a ∙ k)))
        (subst (λ (o : Option ℕ). Meet (Has (pairs_onto (behind_all [] (as_statements run)) (behind_all [] (as_statements call)) behind scope ps)) (variable_named front x) o) (sym ((d x).1 k))
        (meet_weaker (Has ps) (Has (pairs_onto (behind_all [] (as_statements run)) (behind_all [] (as_statements call)) behind scope ps)) (onto_kept (behind_all [] (as_statements run)) (behind_all [] (as_statements call)) behind scope ps) (variable_named front x) (variable_named middle x) (h x)))
