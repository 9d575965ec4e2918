-- Operands for each field: a tuple's and a variant's stand in order; a struct literal's names are as many as those that are declared, and
-- each of these is among them (Rust Reference, "Struct expressions", "Tuple expressions").
use Rattle.std.proofs.Common.{◌≡◌, ℕ, zero, suc, ◌+◌, ◌<◌, Bool, true, false, ◌&&◌, ◌||◌, List, [], ◌∷◌, length, Some, slice_get, inl, inr, refl, sym, ap, ◌∙◌, subst, arith, eq-eqb, eqb-true}
use Rattle.std.specs.Prelude.{nat_eq}
use Rattle.std.specs.Str.{bytes_eq}
use Rattle.std.proofs.lemmas.Slice.Eq.{bytes_eq-Decides}
use Rattle.rx_typed.specs.Types as types
use Rattle.rx_typed.specs.Types.{FieldDeclared, fields_declared, field_number}
use Rattle.rx_typed.specs.Named as named
use Rattle.rx_typed.specs.Named.{Exps, Fields}
use Rattle.rx_typed.specs.Tree.{fields_of}
use Rattle.rx_typed.specs.Elaborated as elaborated
use Rattle.rx_typed.specs.Elaborated.{Assigned}
use Rattle.rx_typeck_solver.specs.Facts.{names_of, is_among, all_among, exactly}
use Rattle.rx_typeck_typed.specs.Demands as rules
use Rattle.rx_engine_simulation.specs.Fits.{Has, HasAll, Complete}
use Rattle.rx_engine_typing.specs.Corresponding.{FieldsApart}

has_all : (js : List ℕ) (n i : ℕ) → ((k : ℕ) → k < i + n → Has js k) → HasAll js n i
has_all js zero i h = tt
has_all js (suc n) i h = (h i (omega arith), has_all js n (suc i) (λ k l. h k (omega (arith, l))))

complete : (js : List ℕ) → ((k : ℕ) → k < length js → Has js k) → Complete js
complete js h = has_all js (length js) 0 (λ k l. h k (omega (arith, l)))

both_first : (a b : Bool) → (a && b) ≡ true → a ≡ true
both_first true b e = refl
both_first false b e = e

both_second : (a b : Bool) → (a && b) ≡ true → b ≡ true
both_second true b e = e
both_second false b e = absurd (cc)

-- ---- in order

operands_has : (T : Assigned) (es : Exps) (k i : ℕ) → i < length (fields_of (elaborated.operands T k es)) → Has (fields_of (elaborated.operands T k es)) (k + i)
operands_has T named.no_exp k i l = absurd (omega (arith, l))
operands_has T (named.exp_and e es) k zero l = inl (eq-eqb (k + zero) k (omega arith))
operands_has T (named.exp_and e es) k (suc i) l = inr (subst (λ (n : ℕ). Has (fields_of (elaborated.operands T (suc k) es)) n) (let h : suc k + i ≡ k + suc i = omega arith in h) (operands_has T es (suc k) i (omega (arith, l))))

pub operands_complete : (T : Assigned) (es : Exps) → Complete (fields_of (elaborated.operands T 0 es))
operands_complete T es = complete (fields_of (elaborated.operands T 0 es)) (λ i l. subst (λ (n : ℕ). Has (fields_of (elaborated.operands T 0 es)) n) (let h : 0 + i ≡ i = omega arith in h) (operands_has T es 0 i l))

-- ---- by name

given_among : (x : List ℕ) (fs : Fields) → is_among x (rules.names_given fs) ≡ true → (T : Assigned) (i k : ℕ) → elaborated.field_in T.items (types.named i) x ≡ k → Has (fields_of (elaborated.fields T i fs)) k
given_among x named.no_field h T i k e = absurd (cc)
given_among x (named.field_and y v fs) h T i k e = by (bytes_eq y x) refl h (λ g. given_among x fs g T i k e)
  where
    by : (b : Bool) → bytes_eq y x ≡ b → (b || is_among x (rules.names_given fs)) ≡ true → (is_among x (rules.names_given fs) ≡ true → Has (fields_of (elaborated.fields T i fs)) k) → Has (fields_of (elaborated.fields T i (named.field_and y v fs))) k
    by true q h g = inl (eq-eqb k (elaborated.field_in T.items (types.named i) y) (sym (ap (λ (z : List ℕ). elaborated.field_in T.items (types.named i) z) ((bytes_eq-Decides y x).0 q) ∙ e)))
    by false q h g = inr (g h)

as_given : (T : Assigned) (i : ℕ) (fs : Fields) → length (fields_of (elaborated.fields T i fs)) ≡ length (rules.names_given fs)
as_given T i named.no_field = refl
as_given T i (named.field_and x e fs) = ap suc (as_given T i fs)

all_among_at : (ds : List FieldDeclared) (xs : List (List ℕ)) → all_among (names_of ds) xs ≡ true → (k : ℕ) → k < length (names_of ds) → (f : FieldDeclared) × (slice_get ds k ≡ Some f) × (is_among f.name xs ≡ true)
all_among_at [] xs h k l = absurd (omega (arith, l))
all_among_at (d ∷ ds) xs h zero l = (d, refl, both_first (is_among d.name xs) (all_among (names_of ds) xs) h)
all_among_at (d ∷ ds) xs h (suc k) l = all_among_at ds xs (both_second (is_among d.name xs) (all_among (names_of ds) xs) h) k (omega (arith, l))

pub fields_complete : (T : Assigned) → FieldsApart T.items → (i : ℕ) (fs : Fields) → exactly (names_of (fields_declared (slice_get T.items i))) (rules.names_given fs) ≡ true → Complete (fields_of (elaborated.fields T i fs))
fields_complete T apart i fs h =
    let ds = fields_declared (slice_get T.items i) in
    let c = eqb-true (length (names_of ds)) (length (rules.names_given fs)) (both_first (nat_eq (length (names_of ds)) (length (rules.names_given fs))) _ h) in
    let g = as_given T i fs in
    complete (fields_of (elaborated.fields T i fs)) (λ k l.
    let f = all_among_at ds (rules.names_given fs) (both_second (nat_eq (length (names_of ds)) (length (rules.names_given fs))) _ h) k (omega (arith, c, g, l)) in
    given_among f.0.name fs f.2 T i k (apart i k f.0 f.1))
