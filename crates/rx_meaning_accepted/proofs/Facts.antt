-- What the facts of the rules say of types and of the fields of a struct literal.
use Rattle.std.proofs.Common.{◌≡◌, ℕ, zero, suc, ◌+◌, ◌<◌, Bool, true, false, ◌&&◌, ◌||◌, List, [], ◌∷◌, ◌++◌, length, Option, Some, None, slice_get, refl, sym, ap, ◌∙◌, subst, arith}
use Rattle.std.specs.Prelude.{nat_eq}
use Rattle.std.specs.Str.{bytes_eq}
use Rattle.std.proofs.lemmas.Bool.{eqb-true}
use Rattle.std.proofs.lemmas.Slice.Eq.{bytes_eq-Decides}
use Rattle.rx_core.specs.declared.types.Kind.{Kind}
use Rattle.rx_tree.specs.Lists.{Every}
use Rattle.rx_typed.specs.Types as types
use Rattle.rx_typed.specs.Types.{Declared, rt_declared, struct_declared, enum_declared, function_declared, parameters_declared, result_declared, Shapes, Typ, integer, boolean, tuple_of, reference, no_shape, shape_and, shape_map, shapes_map, shapes_listed, outline, peeled, FieldDeclared, fields_declared, field_typ, field_number, variant_parts}
use Rattle.rx_typed.specs.Named as named
use Rattle.rx_typed.specs.Named.{Written, WrittenTypes, Pattern, Patterns, FieldPatterns, Exp, Exps, Else, Fields, Arms, Body, Statement, Statements, Parameter, Function, written_node, pattern_node, whole_binding, node_of, body_node, is_place, is_variable, root, never, body_never, else_never, some_diverges}
use Rattle.rx_typed.specs.Elaborated as elaborated
use Rattle.rx_typed.specs.Elaborated.{Assigned, Coercion, Met}
use Rattle.rx_typed.specs.Tree.{Temporary, temporaries_of, fields_of}
use Rattle.rx_typeck_solver.specs.Facts.{coerced, fixed, is_item, names_of, is_among, all_among, exactly}
use Rattle.rx_typeck_typed.specs.Demands as rules
use Rattle.rx_meaning_accepted.proofs.Making as making
use Rattle.rx_meaning_accepted.proofs.Making.{Has, Complete, Makes}

-- the n-th of the declared fields is found at n by its name
abbrev pub NamedApart : List FieldDeclared → Type 0
NamedApart ds = (k : ℕ) (f : FieldDeclared) → slice_get ds k ≡ Some f → field_number ds f.name ≡ k

-- ---- types

pub some_same : (t u : Typ) → ◌≡◌ {A = Option Typ} (Some t) (Some u) → t ≡ u
some_same t u e = cc

mutual
  mapped_same : (t : Typ) → shape_map (λ k. k) t ≡ t
  mapped_same (integer k) = refl
  mapped_same boolean = refl
  mapped_same (tuple_of ts) = ap tuple_of (all_mapped_same ts)
  mapped_same (reference m t) = ap (reference m) (mapped_same t)
  mapped_same (types.named i) = refl

  all_mapped_same : (ts : Shapes Kind) → shapes_map (λ k. k) ts ≡ ts
  all_mapped_same no_shape = refl
  all_mapped_same (shape_and t ts) = ap (λ (x : Typ). shape_and x (shapes_map (λ k. k) ts)) (mapped_same t) ∙ ap (shape_and t) (all_mapped_same ts)

pub fixed_same : (o : Option Typ) (u : Typ) → fixed (λ k. k) o ≡ Some u → o ≡ Some u
fixed_same None u e = absurd (cc)
fixed_same (Some t) u e = ap (λ (x : Typ). Some x) (sym (mapped_same t) ∙ some_same (shape_map (λ k. k) t) u e)

pub item_of : (i : ℕ) (t : Typ) → is_item i (peeled (outline t)) ≡ true → peeled t ≡ types.named i
item_of i (integer k) e = absurd (cc)
item_of i boolean e = absurd (cc)
item_of i (tuple_of ts) e = absurd (cc)
item_of i (reference m t) e = item_of i t e
item_of i (types.named j) e = ap types.named (sym (eqb-true i j e))

pub same_if_plain : (a b : Typ) → elaborated.coercion a b ≡ elaborated.plain → coerced a b ≡ a → a ≡ b
same_if_plain (reference true t) (reference true u) c e = absurd (cc)
same_if_plain (reference true t) (reference false u) c e = absurd (cc)
same_if_plain _ _ c e = sym e

-- ---- fields

pub given_among : (x : List ℕ) (fs : Fields) → is_among x (rules.names_given fs) ≡ true → (D : types.Declarations) (T : Assigned) (i k : ℕ) → elaborated.field_in T.items (types.named i) x ≡ k → Has k (fields_of (elaborated.fields T i fs))
given_among x named.no_field h D T i k e = absurd (cc)
given_among x (named.field_and y v fs) h D T i k e = by (bytes_eq y x) refl h (λ g. given_among x fs g D T i k e)
  where
    by : (b : Bool) → bytes_eq y x ≡ b → (b || is_among x (rules.names_given fs)) ≡ true → (is_among x (rules.names_given fs) ≡ true → Has k (fields_of (elaborated.fields T i fs))) → Has k (fields_of (elaborated.fields T i (named.field_and y v fs)))
    by true q h g = subst (λ (n : ℕ). Has n (fields_of (elaborated.fields T i (named.field_and y v fs)))) (ap (λ (z : List ℕ). elaborated.field_in T.items (types.named i) z) ((bytes_eq-Decides y x).0 q) ∙ e) making.here
    by false q h g = making.there (g h)

pub as_given : (T : Assigned) (i : ℕ) (fs : Fields) → length (fields_of (elaborated.fields T i fs)) ≡ length (rules.names_given fs)
as_given T i named.no_field = refl
as_given T i (named.field_and x e fs) = ap suc (as_given T i fs)

pub all_among_at : (ds : List FieldDeclared) (xs : List (List ℕ)) → all_among (names_of ds) xs ≡ true → (k : ℕ) → k < length (names_of ds) → (f : FieldDeclared) × (slice_get ds k ≡ Some f) × (is_among f.name xs ≡ true)
all_among_at [] xs h k l = absurd (omega (arith, l))
all_among_at (d ∷ ds) xs h zero l = (d, refl, both_first (is_among d.name xs) (all_among (names_of ds) xs) h)
  where
    both_first : (a b : Bool) → (a && b) ≡ true → a ≡ true
    both_first true b e = refl
    both_first false b e = e
all_among_at (d ∷ ds) xs h (suc k) l = all_among_at ds xs (both_second (is_among d.name xs) (all_among (names_of ds) xs) h) k (omega (arith, l))
  where
    both_second : (a b : Bool) → (a && b) ≡ true → b ≡ true
    both_second true b e = e
    both_second false b e = absurd (cc)

pub fields_complete : (T : Assigned) (i : ℕ) (fs : Fields) → NamedApart (fields_declared (slice_get T.items i)) → exactly (names_of (fields_declared (slice_get T.items i))) (rules.names_given fs) ≡ true → Complete (fields_of (elaborated.fields T i fs))
fields_complete T i fs apart h k l =
    let ds = fields_declared (slice_get T.items i) in
    let c = eqb-true (length (names_of ds)) (length (rules.names_given fs)) (front (nat_eq (length (names_of ds)) (length (rules.names_given fs))) _ h) in
    let g = as_given T i fs in
    let f = all_among_at ds (rules.names_given fs) (behind (nat_eq (length (names_of ds)) (length (rules.names_given fs))) _ h) k (omega (arith, c, g, l)) in
    given_among f.0.name fs f.2 T.items T i k (apart k f.0 f.1)
  where
    front : (a b : Bool) → (a && b) ≡ true → a ≡ true
    front true b e = refl
    front false b e = e

    behind : (a b : Bool) → (a && b) ≡ true → b ≡ true
    behind true b e = e
    behind false b e = absurd (cc)

pub operands_has : (T : Assigned) (es : Exps) (k i : ℕ) → i < length (fields_of (elaborated.operands T k es)) → Has (k + i) (fields_of (elaborated.operands T k es))
operands_has T named.no_exp k i l = absurd (omega (arith, l))
operands_has T (named.exp_and e es) k zero l = subst (λ (n : ℕ). Has n (fields_of (elaborated.operands T k (named.exp_and e es)))) (let h : k ≡ k + zero = omega arith in h) making.here
operands_has T (named.exp_and e es) k (suc i) l = making.there (subst (λ (n : ℕ). Has n (fields_of (elaborated.operands T (suc k) es))) (let h : suc k + i ≡ k + suc i = omega arith in h) (operands_has T es (suc k) i (omega (arith, l))))

pub operands_complete : (T : Assigned) (es : Exps) → Complete (fields_of (elaborated.operands T 0 es))
operands_complete T es i l = subst (λ (n : ℕ). Has n (fields_of (elaborated.operands T 0 es))) (let h : 0 + i ≡ i = omega arith in h) (operands_has T es 0 i l)

pub every_both : {A : Type 0} (Q : A → Type 0) (a b : List A) → Every Q a → Every Q b → Every Q (a ++ b)
every_both Q [] b g h = h
every_both Q (x ∷ a) b g h = (g.0, every_both Q a b g.1 h)

-- ---- calls

-- what is called is declared as a function, and each of its parameters has an argument
abbrev pub CallFits : types.Declarations → ℕ → List Temporary → Type 0
CallFits D g ts = (ps : List Typ) × (u : Typ) × (slice_get D g ≡ Some (function_declared ps u)) × (length ts ≡ length ps)

pub call_fits : (D : types.Declarations) (g k : ℕ) (u : Typ) (ts : List Temporary) → nat_eq (length (parameters_declared (slice_get D g))) k ≡ true → fixed (λ k. k) (result_declared (slice_get D g)) ≡ Some u → length ts ≡ k → CallFits D g ts
call_fits D g k u ts c r l = by (slice_get D g) refl c r
  where
    by : (o : Option Declared) → slice_get D g ≡ o → nat_eq (length (parameters_declared o)) k ≡ true → fixed (λ k. k) (result_declared o) ≡ Some u → CallFits D g ts
    by None q c r = absurd (cc)
    by (Some rt_declared) q c r = absurd (cc)
    by (Some (struct_declared a b fs)) q c r = absurd (cc)
    by (Some (enum_declared a b vs)) q c r = absurd (cc)
    by (Some (function_declared ps v)) q c r = (ps, v, q, l ∙ sym (eqb-true (length ps) k c))

pub arguments_count : (T : Assigned) (k : ℕ) (es : Exps) → length (temporaries_of (elaborated.operands T k es)) ≡ rules.argument_count es
arguments_count T k named.no_exp = refl
arguments_count T k (named.exp_and e es) = ap suc (arguments_count T (suc k) es)
