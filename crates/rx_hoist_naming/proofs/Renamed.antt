-- Types in which what is no struct or enum has another number, that of none either. What the rules of types ask is met by these too,
-- where they speak of structs and enums alone.
use Rattle.std.proofs.Common.{◌≡◌, ℕ, zero, suc, ◌≤◌, nat_le, Bool, true, false, not, ◌&&◌, ◌||◌, List, [], ◌∷◌, ◌++◌, length, map, Option, Some, None, option_map, slice_get, refl, sym, ap, ◌∙◌, subst, arith}
use Rattle.std.specs.Prelude.{IsTrue, nat_eq}
use Rattle.std.proofs.lemmas.Bool.{le-leb, leb-true, eqb-true}
use Rattle.rx_core.specs.declared.types.Kind.{Kind}
use Rattle.rx_tree.specs.Lists.{Every}
use Rattle.rx_typed.specs.Types.{Shape, Shapes, Typ, Outline, integer, boolean, tuple_of, reference, named, no_shape, shape_and, shape_map, shapes_map, outline, shapes_listed, shapes_of, peeled, references, outermost, Declared, struct_declared, enum_declared, rt_declared, function_declared, Declarations, fields_declared, parameters_declared, result_declared, field_typ, variant_parts, derives_copy, copies, all_copy, levels, most_levels, at_least_one, parts, sum_of_parts, keeps_limits}
use Rattle.rx_typed_declarations.specs.WellFormed.{is_adt}
use Rattle.rx_typeck_solver.specs.declared.facts.Subject.{Subject}
use Rattle.rx_typeck_solver.specs.declared.facts.Subject.TheVariants as subject
use Rattle.rx_typeck_solver.specs.declared.facts.Passing.{Passing}
use Rattle.rx_typeck_solver.specs.declared.facts.Op.{Op}
use Rattle.rx_typeck_solver.specs.declared.facts.Op.TheVariants as op
use Rattle.rx_typeck_solver.specs.declared.facts.Test.{Test}
use Rattle.rx_typeck_solver.specs.declared.facts.Test.TheVariants as test
use Rattle.rx_typeck_solver.specs.declared.facts.Fact.{Fact}
use Rattle.rx_typeck_solver.specs.declared.facts.Fact.TheVariants as fact
use Rattle.rx_typeck_solver.specs.declared.facts.Demand.{Demand}
use Rattle.rx_typeck_solver.specs.Facts.{Assignment, KnownItems, bound, coerced, fixed, field_of, part_of, pointee, of_one, of_two, made, is_plain, is_integer, is_truth, is_tuple, is_item, is_mutable_reference, is_lent, binding_kept, binding_writable, test_one, test_two, all_mutable, is_none, holds, gone_through, passed, types_at, outlines_at, Meets, MeetsAll, MeetsEach}
use Rattle.rx_typeck_solver.specs.Valid.{Task, PrefersI32, Valid, Told}
use Rattle.rx_hoist_naming.proofs.Good.{GoodOp, GoodTest, GoodFact, GoodDemands}

-- ---- other numbers

abbrev mutual
  pub renamed : {K : Type 0} → (ℕ → ℕ) → Shape K → Shape K
  renamed r (integer k) = integer k
  renamed r boolean = boolean
  renamed r (tuple_of ts) = tuple_of (all_renamed r ts)
  renamed r (reference m t) = reference m (renamed r t)
  renamed r (named i) = named (r i)

  pub all_renamed : {K : Type 0} → (ℕ → ℕ) → Shapes K → Shapes K
  all_renamed r no_shape = no_shape
  all_renamed r (shape_and t ts) = shape_and (renamed r t) (all_renamed r ts)

-- what holds of the numbers in a type
abbrev mutual
  pub Names : {K : Type 0} → (ℕ → Type 0) → Shape K → Type 0
  Names Q (integer k) = Unit {0}
  Names Q boolean = Unit {0}
  Names Q (tuple_of ts) = AllNames Q ts
  Names Q (reference m t) = Names Q t
  Names Q (named i) = Q i

  pub AllNames : {K : Type 0} → (ℕ → Type 0) → Shapes K → Type 0
  AllNames Q no_shape = Unit {0}
  AllNames Q (shape_and t ts) = Names Q t × AllNames Q ts

mutual
  pub names_more : {K : Type 0} (Q P : ℕ → Type 0) → ((i : ℕ) → Q i → P i) → (t : Shape K) → Names Q t → Names P t
  names_more Q P f (integer k) h = tt
  names_more Q P f boolean h = tt
  names_more Q P f (tuple_of ts) h = all_names_more Q P f ts h
  names_more Q P f (reference m t) h = names_more Q P f t h
  names_more Q P f (named i) h = f i h

  pub all_names_more : {K : Type 0} (Q P : ℕ → Type 0) → ((i : ℕ) → Q i → P i) → (ts : Shapes K) → AllNames Q ts → AllNames P ts
  all_names_more Q P f no_shape h = tt
  all_names_more Q P f (shape_and t ts) h = (names_more Q P f t h.0, all_names_more Q P f ts h.1)

-- which integer type is meant
abbrev forget : Kind → Unit {0}
forget k = tt

module _ (r : ℕ → ℕ) where
  mutual
    map_kept : (t : Typ) → Names (λ i. r i ≡ i) t → renamed r (shape_map (λ (k : Kind). k) t) ≡ shape_map (λ (k : Kind). k) t
    map_kept (integer k) h = refl
    map_kept boolean h = refl
    map_kept (tuple_of ts) h = ap (λ (x : Shapes Kind). tuple_of x) (all_map_kept ts h)
    map_kept (reference m t) h = ap (λ (x : Typ). reference m x) (map_kept t h)
    map_kept (named i) h = ap (λ (x : ℕ). named x) h

    all_map_kept : (ts : Shapes Kind) → AllNames (λ i. r i ≡ i) ts → all_renamed r (shapes_map (λ (k : Kind). k) ts) ≡ shapes_map (λ (k : Kind). k) ts
    all_map_kept no_shape h = refl
    all_map_kept (shape_and t ts) h = ap (λ (x : Typ). shape_and x (all_renamed r (shapes_map (λ (k : Kind). k) ts))) (map_kept t h.0) ∙ ap (λ (x : Shapes Kind). shape_and (shape_map (λ (k : Kind). k) t) x) (all_map_kept ts h.1)

  shape_inner : (m n : Bool) (t u : Typ) → ◌≡◌ {A = Typ} (reference m t) (reference n u) → t ≡ u
  shape_inner m n t u e = cc

  tuple_inner : (ts us : Shapes Kind) → ◌≡◌ {A = Typ} (tuple_of ts) (tuple_of us) → ts ≡ us
  tuple_inner ts us e = cc

  name_inner : (i j : ℕ) → ◌≡◌ {A = Typ} (named i) (named j) → i ≡ j
  name_inner i j e = cc

  and_first : (t u : Typ) (ts us : Shapes Kind) → ◌≡◌ {A = Shapes Kind} (shape_and t ts) (shape_and u us) → t ≡ u
  and_first t u ts us e = cc

  and_rest : (t u : Typ) (ts us : Shapes Kind) → ◌≡◌ {A = Shapes Kind} (shape_and t ts) (shape_and u us) → ts ≡ us
  and_rest t u ts us e = cc

  mutual
    pub kept_names : (t : Typ) → renamed r t ≡ t → Names (λ i. r i ≡ i) t
    kept_names (integer k) e = tt
    kept_names boolean e = tt
    kept_names (tuple_of ts) e = all_kept_names ts (tuple_inner (all_renamed r ts) ts e)
    kept_names (reference m t) e = kept_names t (shape_inner m m (renamed r t) t e)
    kept_names (named i) e = name_inner (r i) i e

    all_kept_names : (ts : Shapes Kind) → all_renamed r ts ≡ ts → AllNames (λ i. r i ≡ i) ts
    all_kept_names no_shape e = tt
    all_kept_names (shape_and t ts) e = (kept_names t (and_first (renamed r t) t (all_renamed r ts) ts e), all_kept_names ts (and_rest (renamed r t) t (all_renamed r ts) ts e))

  -- ---- what is looked at in a type

  peeled_renamed : {K : Type 0} (t : Shape K) → peeled (renamed r t) ≡ renamed r (peeled t)
  peeled_renamed (integer k) = refl
  peeled_renamed boolean = refl
  peeled_renamed (tuple_of ts) = refl
  peeled_renamed (reference m t) = peeled_renamed t
  peeled_renamed (named i) = refl

  references_renamed : {K : Type 0} (t : Shape K) → references (renamed r t) ≡ references t
  references_renamed (integer k) = refl
  references_renamed boolean = refl
  references_renamed (tuple_of ts) = refl
  references_renamed (reference m t) = ap (λ (l : List Bool). m ∷ l) (references_renamed t)
  references_renamed (named i) = refl

  outermost_renamed : {K : Type 0} (t : Shape K) → outermost (renamed r t) ≡ outermost t
  outermost_renamed (integer k) = refl
  outermost_renamed boolean = refl
  outermost_renamed (tuple_of ts) = refl
  outermost_renamed (reference m t) = refl
  outermost_renamed (named i) = refl

  gone_renamed : (all : Bool) (t : Typ) → gone_through all (renamed r t) ≡ gone_through all t
  gone_renamed true t = references_renamed t
  gone_renamed false t = outermost_renamed t

  listed_renamed : {K : Type 0} (ts : Shapes K) → shapes_listed (all_renamed r ts) ≡ map (renamed r) (shapes_listed ts)
  listed_renamed no_shape = refl
  listed_renamed (shape_and t ts) = ap (λ (l : List (Shape _)). renamed r t ∷ l) (listed_renamed ts)

  of_renamed : (ts : List Typ) → shapes_of (map (renamed r) ts) ≡ all_renamed r (shapes_of ts)
  of_renamed [] = refl
  of_renamed (t ∷ ts) = ap (λ (x : Shapes Kind). shape_and (renamed r t) x) (of_renamed ts)

  mutual
    outline_renamed : (t : Typ) → outline (renamed r t) ≡ renamed r (outline t)
    outline_renamed (integer k) = refl
    outline_renamed boolean = refl
    outline_renamed (tuple_of ts) = ap (λ (x : Shapes (Unit {0})). tuple_of x) (all_outlined ts)
    outline_renamed (reference m t) = ap (λ (x : Outline). reference m x) (outline_renamed t)
    outline_renamed (named i) = refl

    all_outlined : (ts : Shapes Kind) → shapes_map forget (all_renamed r ts) ≡ all_renamed r (shapes_map forget ts)
    all_outlined no_shape = refl
    all_outlined (shape_and t ts) = ap (λ (x : Outline). shape_and x (shapes_map forget (all_renamed r ts))) (outline_renamed t) ∙ ap (λ (x : Shapes (Unit {0})). shape_and (renamed r (outline t)) x) (all_outlined ts)

  picked : {A B : Type 0} (f : A → B) (l : List A) (k : ℕ) → slice_get (map f l) k ≡ option_map f (slice_get l k)
  picked f [] k = refl
  picked f (x ∷ l) zero = refl
  picked f (x ∷ l) (suc k) = picked f l k

  pointee_renamed : (t : Typ) → pointee (renamed r t) ≡ option_map (renamed r) (pointee t)
  pointee_renamed (integer k) = refl
  pointee_renamed boolean = refl
  pointee_renamed (tuple_of ts) = refl
  pointee_renamed (reference m t) = refl
  pointee_renamed (named i) = refl

  part_in : (k : ℕ) (t : Typ) → part_of k (renamed r t) ≡ option_map (renamed r) (part_of k t)
  part_in k (integer j) = refl
  part_in k boolean = refl
  part_in k (tuple_of ts) = ap (λ (l : List Typ). slice_get l k) (listed_renamed ts) ∙ picked (renamed r) (shapes_listed ts) k
  part_in k (reference m t) = refl
  part_in k (named i) = refl

  bound_renamed : (ms : List Bool) (t : Typ) → bound ms (renamed r t) ≡ renamed r (bound ms t)
  bound_renamed [] t = refl
  bound_renamed (m ∷ ms) t = refl

  coerced_from : (t u : Typ) → coerced (reference true (renamed r t)) (renamed r u) ≡ renamed r (coerced (reference true t) u)
  coerced_from t (integer k) = refl
  coerced_from t boolean = refl
  coerced_from t (tuple_of ts) = refl
  coerced_from t (reference true u) = refl
  coerced_from t (reference false u) = refl
  coerced_from t (named i) = refl

  coerced_renamed : (t u : Typ) → coerced (renamed r t) (renamed r u) ≡ renamed r (coerced t u)
  coerced_renamed (integer k) u = refl
  coerced_renamed boolean u = refl
  coerced_renamed (tuple_of ts) u = refl
  coerced_renamed (reference true t) u = coerced_from t u
  coerced_renamed (reference false t) u = refl
  coerced_renamed (named i) u = refl

  one_renamed : (f : Typ → Option Typ) → ((t : Typ) → f (renamed r t) ≡ option_map (renamed r) (f t)) → (ts : List Typ) → of_one f (map (renamed r) ts) ≡ option_map (renamed r) (of_one f ts)
  one_renamed f h [] = refl
  one_renamed f h (t ∷ []) = h t
  one_renamed f h (t ∷ u ∷ ts) = refl

  two_renamed : (ts : List Typ) → of_two (λ (t u : Typ). Some (coerced t u)) (map (renamed r) ts) ≡ option_map (renamed r) (of_two (λ (t u : Typ). Some (coerced t u)) ts)
  two_renamed [] = refl
  two_renamed (t ∷ []) = refl
  two_renamed (t ∷ u ∷ []) = ap (λ (x : Typ). Some x) (coerced_renamed t u)
  two_renamed (t ∷ u ∷ v ∷ ts) = refl

  fixed_kept : (o : Option Typ) → ((t : Typ) → o ≡ Some t → Names (λ i. r i ≡ i) t) → fixed (λ (k : Kind). k) o ≡ option_map (renamed r) (fixed (λ (k : Kind). k) o)
  fixed_kept None h = refl
  fixed_kept (Some t) h = ap (λ (x : Typ). Some x) (sym (map_kept t (h t refl)))

-- ---- declarations

-- what is declared names structs and enums alone
pub record DeclaredWell (D : Declarations) : Type 0 where
  pub fields : (i : ℕ) (x : List ℕ) (t : Typ) → field_typ (fields_declared (slice_get D i)) x ≡ Some t → Names (λ i. is_adt (slice_get D i) ≡ true) t
  pub parts : (i v k : ℕ) (t : Typ) → slice_get (variant_parts D i v) k ≡ Some t → Names (λ i. is_adt (slice_get D i) ≡ true) t
  pub parameters : (f k : ℕ) (t : Typ) → slice_get (parameters_declared (slice_get D f)) k ≡ Some t → Names (λ i. is_adt (slice_get D i) ≡ true) t
  pub results : (f : ℕ) (t : Typ) → result_declared (slice_get D f) ≡ Some t → Names (λ i. is_adt (slice_get D i) ≡ true) t

-- other numbers for what is no struct or enum
pub record Renames (K : KnownItems) (r : ℕ → ℕ) : Type 0 where
  pub kept : (i : ℕ) → is_adt (slice_get K.items i) ≡ true → r i ≡ i
  pub gone : (i : ℕ) → is_adt (slice_get K.items i) ≡ false → is_adt (slice_get K.items (r i)) ≡ false
  pub other : (i : ℕ) → r i ≡ i → is_adt (slice_get K.items i) ≡ true
  pub sizes : (i : ℕ) → K.sizes (r i) ≤ K.sizes i

no_fields : (o : Option Declared) → is_adt o ≡ false → fields_declared o ≡ []
no_fields None e = refl
no_fields (Some rt_declared) e = refl
no_fields (Some (struct_declared c l fs)) e = absurd (cc)
no_fields (Some (enum_declared c l vs)) e = absurd (cc)
no_fields (Some (function_declared ps t)) e = refl

no_copy : (o : Option Declared) → is_adt o ≡ false → derives_copy o ≡ false
no_copy None e = refl
no_copy (Some rt_declared) e = refl
no_copy (Some (struct_declared c l fs)) e = absurd (cc)
no_copy (Some (enum_declared c l vs)) e = absurd (cc)
no_copy (Some (function_declared ps t)) e = refl

true_by : (b c : Bool) → b ≡ c → IsTrue c → IsTrue b
true_by b c e h = subst IsTrue (sym e) h

module _ (K : KnownItems) (r : ℕ → ℕ) (W : DeclaredWell K.items) (R : Renames K r) where
  abbrev D : Declarations
  D = K.items

  abbrev IsAdt : ℕ → Type 0
  IsAdt i = is_adt (slice_get D i) ≡ true

  kept_in : {L : Type 0} (t : Shape L) → Names IsAdt t → Names (λ i. r i ≡ i) t
  kept_in t h = names_more IsAdt (λ i. r i ≡ i) R.kept t h

  field_named : (x : List ℕ) (i : ℕ) (b : Bool) → is_adt (slice_get D i) ≡ b → field_of (λ (k : Kind). k) D x (named (r i)) ≡ option_map (renamed r) (field_of (λ (k : Kind). k) D x (named i))
  field_named x i true e =
      ap (λ (j : ℕ). fixed (λ (k : Kind). k) (field_typ (fields_declared (slice_get D j)) x)) (R.kept i e) ∙ fixed_kept r (field_typ (fields_declared (slice_get D i)) x) (λ t q. kept_in t (W.fields i x t q))
  field_named x i false e =
      ap (λ (l : List _). fixed (λ (k : Kind). k) (field_typ l x)) (no_fields (slice_get D (r i)) (R.gone i e))
      ∙ ap (λ (l : List _). option_map (renamed r) (fixed (λ (k : Kind). k) (field_typ l x))) (sym (no_fields (slice_get D i) e))

  field_renamed : (x : List ℕ) (t : Typ) → field_of (λ (k : Kind). k) D x (renamed r t) ≡ option_map (renamed r) (field_of (λ (k : Kind). k) D x t)
  field_renamed x (integer k) = refl
  field_renamed x boolean = refl
  field_renamed x (tuple_of ts) = refl
  field_renamed x (reference m t) = refl
  field_renamed x (named i) = field_named x i (is_adt (slice_get D i)) refl

  made_renamed : (o : Op) → GoodOp IsAdt o → (ts : List Typ) (ms : List Bool) → made (λ (k : Kind). k) D o (map (renamed r) ts) ms ≡ option_map (renamed r) (made (λ (k : Kind). k) D o ts ms)
  made_renamed op.Same g ts ms = one_renamed r (λ t. Some t) (λ t. refl) ts
  made_renamed op.Pointee g ts ms = one_renamed r pointee (pointee_renamed r) ts
  made_renamed (op.Referring m) g ts ms = one_renamed r (λ t. Some (reference m t)) (λ t. refl) ts
  made_renamed op.Tuple g ts ms = ap (λ (x : Shapes Kind). Some (tuple_of x)) (of_renamed r ts)
  made_renamed (op.Field x) g ts ms = one_renamed r (λ t. field_of (λ (k : Kind). k) D x (peeled t)) (λ t. ap (λ (u : Typ). field_of (λ (k : Kind). k) D x u) (peeled_renamed r t) ∙ field_renamed x (peeled t)) ts
  made_renamed (op.Part k) g ts ms = one_renamed r (λ t. part_of k (peeled t)) (λ t. ap (λ (u : Typ). part_of k u) (peeled_renamed r t) ∙ part_in r k (peeled t)) ts
  made_renamed (op.Integer k) g ts ms = refl
  made_renamed op.Truth g ts ms = refl
  made_renamed op.Unit g ts ms = refl
  made_renamed (op.Item i) g ts ms = ap (λ (j : ℕ). Some (named j)) (sym (R.kept i g))
  made_renamed (op.Parameter f k) g ts ms = fixed_kept r (slice_get (parameters_declared (slice_get D f)) k) (λ t q. kept_in t (W.parameters f k t q))
  made_renamed (op.Result f) g ts ms = fixed_kept r (result_declared (slice_get D f)) (λ t q. kept_in t (W.results f t q))
  made_renamed (op.FieldOf i x) g ts ms = fixed_kept r (field_typ (fields_declared (slice_get D i)) x) (λ t q. kept_in t (W.fields i x t q))
  made_renamed (op.PartOf i v k) g ts ms = fixed_kept r (slice_get (variant_parts D i v) k) (λ t q. kept_in t (W.parts i v k t q))
  made_renamed op.Bound g ts ms = one_renamed r (λ t. Some (bound ms t)) (λ t. ap (λ (x : Typ). Some x) (bound_renamed r ms t)) ts
  made_renamed op.Coerced g ts ms = two_renamed r ts

  -- ---- tests

  copy_named : (i : ℕ) (b : Bool) → is_adt (slice_get D i) ≡ b → derives_copy (slice_get D (r i)) ≡ derives_copy (slice_get D i)
  copy_named i true e = ap (λ (j : ℕ). derives_copy (slice_get D j)) (R.kept i e)
  copy_named i false e = no_copy (slice_get D (r i)) (R.gone i e) ∙ sym (no_copy (slice_get D i) e)

  mutual
    copies_renamed : {L : Type 0} (t : Shape L) → copies D (renamed r t) ≡ copies D t
    copies_renamed (integer k) = refl
    copies_renamed boolean = refl
    copies_renamed (tuple_of ts) = all_copy_renamed ts
    copies_renamed (reference m t) = refl
    copies_renamed (named i) = copy_named i (is_adt (slice_get D i)) refl

    all_copy_renamed : {L : Type 0} (ts : Shapes L) → all_copy D (all_renamed r ts) ≡ all_copy D ts
    all_copy_renamed no_shape = refl
    all_copy_renamed (shape_and t ts) = ap (λ (b : Bool). b && all_copy D (all_renamed r ts)) (copies_renamed t) ∙ ap (λ (b : Bool). copies D t && b) (all_copy_renamed ts)

  mutual
    levels_renamed : {L : Type 0} (t : Shape L) → levels (renamed r t) ≡ levels t
    levels_renamed (integer k) = refl
    levels_renamed boolean = refl
    levels_renamed (tuple_of ts) = ap suc (most_renamed ts)
    levels_renamed (reference m t) = ap suc (levels_renamed t)
    levels_renamed (named i) = refl

    most_renamed : {L : Type 0} (ts : Shapes L) → most_levels (all_renamed r ts) ≡ most_levels ts
    most_renamed no_shape = refl
    most_renamed (shape_and t ts) = let a = levels_renamed t in let b = most_renamed ts in cc

  at_least : (m n : ℕ) → m ≤ n → at_least_one m ≤ at_least_one n
  at_least zero zero h = omega arith
  at_least zero (suc n) h = omega arith
  at_least (suc m) zero h = omega (arith, h)
  at_least (suc m) (suc n) h = h

  mutual
    parts_renamed : {L : Type 0} (t : Shape L) → parts K.sizes (renamed r t) ≤ parts K.sizes t
    parts_renamed (integer k) = omega arith
    parts_renamed boolean = omega arith
    parts_renamed (tuple_of ts) = at_least (sum_of_parts K.sizes (all_renamed r ts)) (sum_of_parts K.sizes ts) (sum_renamed ts)
    parts_renamed (reference m t) = let a = parts_renamed t in omega (arith, a)
    parts_renamed (named i) = R.sizes i

    sum_renamed : {L : Type 0} (ts : Shapes L) → sum_of_parts K.sizes (all_renamed r ts) ≤ sum_of_parts K.sizes ts
    sum_renamed no_shape = omega arith
    sum_renamed (shape_and t ts) = let a = parts_renamed t in let b = sum_renamed ts in omega (arith, a, b)

  both_less : (a b c d : ℕ) → b ≤ a → d ≡ c → IsTrue (nat_le a 4096 && nat_le c 128) → IsTrue (nat_le b 4096 && nat_le d 128)
  both_less a b c d l e h = by (nat_le a 4096) refl h
    where
      by : (x : Bool) → nat_le a 4096 ≡ x → IsTrue (x && nat_le c 128) → IsTrue (nat_le b 4096 && nat_le d 128)
      by true q h = let m : a ≤ 4096 = leb-true a 4096 q in let n : b ≤ 4096 = omega (arith, l, m) in
          subst (λ (y : Bool). IsTrue (y && nat_le d 128)) (sym (le-leb b 4096 n)) (subst (λ (y : ℕ). IsTrue (nat_le y 128)) (sym e) h)
      by false q h = absurd (cc)

  limits_renamed : (t : Outline) → IsTrue (keeps_limits K.sizes t) → IsTrue (keeps_limits K.sizes (renamed r t))
  limits_renamed t h = both_less (parts K.sizes t) (parts K.sizes (renamed r t)) (levels t) (levels (renamed r t)) (parts_renamed t) (levels_renamed t) h

  plain_renamed : (t : Outline) → is_plain (renamed r t) ≡ is_plain t
  plain_renamed (integer k) = refl
  plain_renamed boolean = refl
  plain_renamed (tuple_of ts) = refl
  plain_renamed (reference m t) = refl
  plain_renamed (named i) = refl

  integer_renamed : (t : Outline) → is_integer (renamed r t) ≡ is_integer t
  integer_renamed (integer k) = refl
  integer_renamed boolean = refl
  integer_renamed (tuple_of ts) = refl
  integer_renamed (reference m t) = refl
  integer_renamed (named i) = refl

  truth_renamed : (t : Outline) → is_truth (renamed r t) ≡ is_truth t
  truth_renamed (integer k) = refl
  truth_renamed boolean = refl
  truth_renamed (tuple_of ts) = refl
  truth_renamed (reference m t) = refl
  truth_renamed (named i) = refl

  map_length : {A B : Type 0} (f : A → B) (l : List A) → length (map f l) ≡ length l
  map_length f [] = refl
  map_length f (x ∷ l) = ap suc (map_length f l)

  tuple_renamed : (n : ℕ) (t : Outline) → is_tuple n (renamed r t) ≡ is_tuple n t
  tuple_renamed n (integer k) = refl
  tuple_renamed n boolean = refl
  tuple_renamed n (tuple_of ts) = ap (λ (k : ℕ). nat_eq k n) (ap length (listed_renamed r ts) ∙ map_length (renamed r) (shapes_listed ts))
  tuple_renamed n (reference m t) = refl
  tuple_renamed n (named i) = refl

  mutable_renamed : (t : Outline) → is_mutable_reference (renamed r t) ≡ is_mutable_reference t
  mutable_renamed (integer k) = refl
  mutable_renamed boolean = refl
  mutable_renamed (tuple_of ts) = refl
  mutable_renamed (reference m t) = refl
  mutable_renamed (named i) = refl

  lent_from : (t u : Outline) → is_lent (reference true (renamed r t)) (renamed r u) ≡ is_lent (reference true t) u
  lent_from t (integer k) = refl
  lent_from t boolean = refl
  lent_from t (tuple_of ts) = refl
  lent_from t (reference true u) = refl
  lent_from t (reference false u) = refl
  lent_from t (named i) = refl

  lent_renamed : (t u : Outline) → is_lent (renamed r t) (renamed r u) ≡ is_lent t u
  lent_renamed (integer k) u = refl
  lent_renamed boolean u = refl
  lent_renamed (tuple_of ts) u = refl
  lent_renamed (reference true t) u = lent_from t u
  lent_renamed (reference false t) u = refl
  lent_renamed (named i) u = refl

  kept_renamed : (ms qs : List Bool) (t : Outline) → binding_kept D (renamed r t) ms qs ≡ binding_kept D t ms qs
  kept_renamed [] qs t = ap (λ (b : Bool). b || is_none qs) (copies_renamed t)
  kept_renamed (m ∷ ms) qs t = refl

  is_true : (b : Bool) → IsTrue b → b ≡ true
  is_true b h = h

  nat_same : (i j : ℕ) → IsTrue (nat_eq i j) → i ≡ j
  nat_same i j h = eqb-true i j (is_true (nat_eq i j) h)

  item_same : (i : ℕ) → IsAdt i → (t : Outline) → IsTrue (is_item i t) → IsTrue (is_item i (renamed r t))
  item_same i g (integer k) h = absurd (cc)
  item_same i g boolean h = absurd (cc)
  item_same i g (tuple_of ts) h = absurd (cc)
  item_same i g (reference m t) h = absurd (cc)
  item_same i g (named j) h = let e = nat_same i j h in subst (λ (k : ℕ). IsTrue (nat_eq i k)) (sym (R.kept j (subst IsAdt e g))) h

  one_test : (f : Outline → Bool) → ((t : Outline) → IsTrue (f t) → IsTrue (f (renamed r t))) → (ts : List Outline) → IsTrue (test_one f ts) → IsTrue (test_one f (map (renamed r) ts))
  one_test f h [] x = x
  one_test f h (t ∷ []) x = h t x
  one_test f h (t ∷ u ∷ ts) x = x

  two_test : (f : Outline → Outline → Bool) → ((t u : Outline) → IsTrue (f t u) → IsTrue (f (renamed r t) (renamed r u))) → (ts : List Outline) → IsTrue (test_two f ts) → IsTrue (test_two f (map (renamed r) ts))
  two_test f h [] x = x
  two_test f h (t ∷ []) x = x
  two_test f h (t ∷ u ∷ []) x = h t u x
  two_test f h (t ∷ u ∷ v ∷ ts) x = x

  behind_same : (f : Outline → Bool) → ((t : Outline) → f (renamed r t) ≡ f t) → (t : Outline) → IsTrue (f (peeled t)) → IsTrue (f (peeled (renamed r t)))
  behind_same f h t x = true_by (f (peeled (renamed r t))) (f (peeled t)) (ap f (peeled_renamed r t) ∙ h (peeled t)) x

  holds_renamed : (t : Test) → GoodTest IsAdt t → (ts : List Outline) (ms qs : List Bool) → IsTrue (holds K t ts ms qs) → IsTrue (holds K t (map (renamed r) ts) ms qs)
  holds_renamed test.Plain g ts ms qs x = one_test is_plain (λ t y. true_by (is_plain (renamed r t)) (is_plain t) (plain_renamed t) y) ts x
  holds_renamed test.IntegerBehind g ts ms qs x = one_test (λ t. is_integer (peeled t)) (behind_same is_integer integer_renamed) ts x
  holds_renamed test.TruthBehind g ts ms qs x = one_test (λ t. is_truth (peeled t)) (behind_same is_truth truth_renamed) ts x
  holds_renamed (test.TupleBehind n) g ts ms qs x = one_test (λ t. is_tuple n (peeled t)) (behind_same (is_tuple n) (tuple_renamed n)) ts x
  holds_renamed (test.ItemBehind i) g ts ms qs x = one_test (λ t. is_item i (peeled t)) (λ t y. subst (λ (u : Outline). IsTrue (is_item i u)) (sym (peeled_renamed r t)) (item_same i g (peeled t) y)) ts x
  holds_renamed test.Kept g ts ms qs x = one_test (λ t. copies D t || is_none qs) (λ t y. subst (λ (b : Bool). IsTrue (b || is_none qs)) (sym (copies_renamed t)) y) ts x
  holds_renamed test.KeptOrLent g ts ms qs x = one_test (λ t. copies D t || is_mutable_reference t || is_none qs)
      (λ t y. true_by (copies D (renamed r t) || is_mutable_reference (renamed r t) || is_none qs) (copies D t || is_mutable_reference t || is_none qs)
      (let a = copies_renamed t in let b = mutable_renamed t in cc) y) ts x
  holds_renamed (test.Writable own) g ts ms qs x = x
  holds_renamed test.Lendable g ts ms qs x = two_test (λ t u. not (is_lent t u) || all_mutable qs) (λ t u y. subst (λ (b : Bool). IsTrue (not b || all_mutable qs)) (sym (lent_renamed t u)) y) ts x
  holds_renamed test.Direct g ts ms qs x = x
  holds_renamed test.BindingKept g ts ms qs x = one_test (λ t. binding_kept D t ms qs) (λ t y. true_by (binding_kept D (renamed r t) ms qs) (binding_kept D t ms qs) (kept_renamed ms qs t) y) ts x
  holds_renamed test.BindingWritable g ts ms qs x = x
  holds_renamed test.BindingKeptOrLent g ts ms qs x = two_test (λ t e. is_mutable_reference e || binding_kept D t ms qs)
      (λ t e y. true_by (is_mutable_reference (renamed r e) || binding_kept D (renamed r t) ms qs) (is_mutable_reference e || binding_kept D t ms qs)
      (let a = kept_renamed ms qs t in let b = mutable_renamed e in cc) y) ts x
  holds_renamed test.BindingWritableOrLent g ts ms qs x = one_test (λ e. is_mutable_reference e || binding_writable ms qs) (λ e y. subst (λ (b : Bool). IsTrue (b || binding_writable ms qs)) (sym (mutable_renamed e)) y) ts x
  holds_renamed test.Limits g ts ms qs x = one_test (keeps_limits K.sizes) limits_renamed ts x
  holds_renamed (test.Takes f n) g ts ms qs x = x
  holds_renamed (test.Holds i v n) g ts ms qs x = x
  holds_renamed (test.HasFields i xs) g ts ms qs x = x
  holds_renamed (test.HasLifetimes i n) g ts ms qs x = x
  holds_renamed (test.GivesUnit f) g ts ms qs x = x

  -- ---- facts

  abbrev others : Assignment → Assignment
  others A = λ x. renamed r (A x)

  passed_others : (A : Assignment) (ps : List Passing) → passed (others A) ps ≡ passed A ps
  passed_others A [] = refl
  passed_others A (p ∷ ps) = ap (λ (l : List Bool). l ++ passed (others A) ps) (gone_renamed r p.all (A (subject.Node p.node))) ∙ ap (λ (l : List Bool). gone_through p.all (A (subject.Node p.node)) ++ l) (passed_others A ps)

  types_others : (A : Assignment) (xs : List Subject) → types_at (others A) xs ≡ map (renamed r) (types_at A xs)
  types_others A [] = refl
  types_others A (x ∷ xs) = ap (λ (l : List Typ). renamed r (A x) ∷ l) (types_others A xs)

  outlines_others : (A : Assignment) (xs : List Subject) → outlines_at (others A) xs ≡ map (renamed r) (outlines_at A xs)
  outlines_others A [] = refl
  outlines_others A (x ∷ xs) = ap (λ (o : Outline). o ∷ outlines_at (others A) xs) (outline_renamed r (A x)) ∙ ap (λ (l : List Outline). renamed r (outline (A x)) ∷ l) (outlines_others A xs)

  meets_others : (A : Assignment) (f : Fact) → GoodFact IsAdt f → Meets K A f → Meets K (others A) f
  meets_others A (fact.Equals x o xs ps) g e =
      ap (λ (ts : List Typ). made (λ (k : Kind). k) D o ts (passed (others A) ps)) (types_others A xs) ∙ ap (λ (ms : List Bool). made (λ (k : Kind). k) D o (map (renamed r) (types_at A xs)) ms) (passed_others A ps)
      ∙ made_renamed o g (types_at A xs) (passed A ps) ∙ ap (λ (t : Option Typ). option_map (renamed r) t) e
  meets_others A (fact.Integer n s) g h = (h.0, ap (λ (t : Typ). renamed r t) h.1, h.2)
  meets_others A (fact.IntegerBehind n s) g h = (h.0, peeled_renamed r (A (subject.Node n)) ∙ ap (λ (t : Typ). renamed r t) h.1, h.2)
  meets_others A (fact.Passes t xs ps qs) g h =
      subst (λ (ts : List Outline). IsTrue (holds K t ts (passed (others A) ps) (passed (others A) qs))) (sym (outlines_others A xs))
      (subst (λ (ms : List Bool). IsTrue (holds K t (map (renamed r) (outlines_at A xs)) ms (passed (others A) qs))) (sym (passed_others A ps))
      (subst (λ (ms : List Bool). IsTrue (holds K t (map (renamed r) (outlines_at A xs)) (passed A ps) ms)) (sym (passed_others A qs)) (holds_renamed t g (outlines_at A xs) (passed A ps) (passed A qs) h)))
  meets_others A fact.Never g h = h

  all_others : (A : Assignment) (fs : List Fact) → Every (GoodFact IsAdt) fs → MeetsAll K A fs → MeetsAll K (others A) fs
  all_others A [] g h = h
  all_others A (f ∷ fs) g h = (meets_others A f g.0 h.0, all_others A fs g.1 h.1)

  each_others : (A : Assignment) (ds : List Demand) → GoodDemands IsAdt ds → MeetsEach K A ds → MeetsEach K (others A) ds
  each_others A [] g h = h
  each_others A (d ∷ ds) g h = (all_others A d.facts g.0 h.0, each_others A ds g.1 h.1)

  -- a valid assignment is the only one, so it names structs and enums alone
  pub told_named : (task : Task) (A : Assignment) → GoodDemands IsAdt task.demands → Valid K task A → (x : Subject) → Told task.demands x → Names IsAdt (A x)
  told_named task A g v x t =
      let p = v.prefers in
      let other : PrefersI32 K task (others A) = record {
        typed = each_others A task.demands g p.typed;
        prefers = λ n o. peeled_renamed r (A (subject.Node n)) ∙ ap (λ (t : Typ). renamed r t) (p.prefers n o);
      } in
      names_more (λ i. r i ≡ i) IsAdt R.other (A x) (kept_names r (A x) (sym (v.only_one (others A) other x t)))
