-- Declarations by other numbers have the same parts, levels and Copy. By induction on types.
use Rattle.std.proofs.Common.{◌≡◌, ℕ, zero, suc, ◌+◌, ◌≤◌, nat_le, max, Bool, true, false, ◌&&◌, List, [], ◌∷◌, map, Option, Some, None, Ok, Err, option_map, slice_get, refl, ap, ◌∙◌, subst, arith}
use Rattle.std.proofs.lemmas.Bool.{le-leb}
use Rattle.rx_core.specs.declared.types.Kind.{Kind}
use Rattle.rx_tree.specs.Lists.{Every}
use Rattle.rx_tree.specs.Plain.{ItemTree, ProgramTree}
use Rattle.rx_resolve_names.specs.Holding.{name_span}
use Rattle.rx_typed.specs.Types.{Shape, Shapes, Typ, integer, boolean, tuple_of, reference, named, no_shape, shape_and, shapes_of, levels, most_levels, copies, all_copy, derives_copy, sum_of_parts, FieldDeclared, VariantDeclared, Declared, Declarations, rt_declared, struct_declared, enum_declared, function_declared}
use Rattle.rx_typed_declarations.specs.Held.{variant_types}
use Rattle.rx_typeck_typed.specs.Steps as steps
use Rattle.rx_typeck_typed.specs.Steps.{on_ok}
use Rattle.rx_typeck_typed.specs.Limits.{parts_fit, fields_fit, variants_fit, item_fits, fits_at, all_fit}
use Rattle.rx_typeck_typed.specs.Programs.{parts_copy, fields_copy, variants_copy, holds_copies, derived, all_derived}
use Rattle.rx_hoist_extraction.specs.Plan.{Leaving, Plan}
use Rattle.rx_hoist_extraction.specs.NewEnum.{fields_at, all_fields}
use Rattle.rx_engine_names.proofs.ExtractionItems.{every_front}
use Rattle.rx_engine_blocks.specs.Renumbering.{Renumbering, shape_at, shapes_at, field_at, variant_at, declared_at}
use Rattle.rx_engine_declared.specs.NewItems.{declared_exit}
use Rattle.rx_engine_declared.proofs.Sizes.{types_part}

-- ---- what is kept of each item

ok_first : (o : steps.Outcome (Unit {0})) (q : steps.Outcome (Unit {0})) → on_ok o (λ _. q) ≡ Ok tt → (o ≡ Ok tt) × (q ≡ Ok tt)
ok_first (Ok tt) q e = (refl, e)
ok_first (Err x) q e = absurd (cc)

-- limits are kept where each item keeps them, and each does where they are
pub fit_each : (W : ℕ → ℕ) (D : Declarations) (n : ℕ) (is : ProgramTree) → ((j : ℕ) → item_fits (W j) (slice_get D j) ≡ true) → all_fit W D n is ≡ Ok tt
fit_each W D n [] h = refl
fit_each W D n (i ∷ is) h = ap (λ (b : Bool). on_ok (fits_at (name_span i) b) (λ _. all_fit W D (suc n) is)) (h n) ∙ fit_each W D (suc n) is h

pub each_fits : (W : ℕ → ℕ) (D : Declarations) (n : ℕ) (is : ProgramTree) → all_fit W D n is ≡ Ok tt → (j : ℕ) (i : ItemTree) → slice_get is j ≡ Some i → item_fits (W (n + j)) (slice_get D (n + j)) ≡ true
each_fits W D n [] e j i at = absurd (cc)
each_fits W D n (x ∷ is) e zero i at =
    let here : n ≡ n + 0 = omega arith in
    subst (λ (k : ℕ). item_fits (W k) (slice_get D k) ≡ true) here (by (item_fits (W n) (slice_get D n)) e)
  where
    by : (b : Bool) → on_ok (fits_at (name_span x) b) (λ _. all_fit W D (suc n) is) ≡ Ok tt → b ≡ true
    by true e = refl
    by false e = absurd (cc)
each_fits W D n (x ∷ is) e (suc j) i at =
    let on : suc n + j ≡ n + suc j = omega arith in
    subst (λ (k : ℕ). item_fits (W k) (slice_get D k) ≡ true) on (each_fits W D (suc n) is (ok_first (fits_at (name_span x) (item_fits (W n) (slice_get D n))) (all_fit W D (suc n) is) e).1 j i at)

-- what is derived is right where it is of each item
pub derive_each : (D : Declarations) (n : ℕ) (is : ProgramTree) → ((j : ℕ) (i : ItemTree) → slice_get is j ≡ Some i → derived D (slice_get D (n + j)) i ≡ Ok tt) → all_derived D n is ≡ Ok tt
derive_each D n [] h = refl
derive_each D n (i ∷ is) h =
    let here : n + 0 ≡ n = omega arith in
    ap (λ (o : steps.Outcome (Unit {0})). on_ok o (λ _. all_derived D (suc n) is)) (subst (λ (k : ℕ). derived D (slice_get D k) i ≡ Ok tt) here (h 0 i refl))
    ∙ derive_each D (suc n) is (λ j x e. let on : n + suc j ≡ suc n + j = omega arith in subst (λ (k : ℕ). derived D (slice_get D k) x ≡ Ok tt) on (h (suc j) x e))

pub each_derived : (D : Declarations) (n : ℕ) (is : ProgramTree) → all_derived D n is ≡ Ok tt → (j : ℕ) (i : ItemTree) → slice_get is j ≡ Some i → derived D (slice_get D (n + j)) i ≡ Ok tt
each_derived D n [] e j i at = absurd (cc)
each_derived D n (x ∷ is) e zero i at =
    let here : n ≡ n + 0 = omega arith in
    let same : x ≡ i = cc in
    subst (λ (k : ℕ). derived D (slice_get D k) i ≡ Ok tt) here (subst (λ (z : ItemTree). derived D (slice_get D n) z ≡ Ok tt) same (ok_first (derived D (slice_get D n) x) (all_derived D (suc n) is) e).0)
each_derived D n (x ∷ is) e (suc j) i at =
    let on : suc n + j ≡ n + suc j = omega arith in
    subst (λ (k : ℕ). derived D (slice_get D k) i ≡ Ok tt) on (each_derived D (suc n) is (ok_first (derived D (slice_get D n) x) (all_derived D (suc n) is) e).1 j i at)

-- ---- levels and Copy by other numbers

module _ (r : Renumbering) where
  mutual
    pub levels_stay : (t : Shape Kind) → levels (shape_at r t) ≡ levels t
    levels_stay (integer k) = refl
    levels_stay boolean = refl
    levels_stay (tuple_of ts) = ap suc (most_stay ts)
    levels_stay (reference m t) = ap suc (levels_stay t)
    levels_stay (named i) = refl

    most_stay : (ts : Shapes Kind) → most_levels (shapes_at r ts) ≡ most_levels ts
    most_stay no_shape = refl
    most_stay (shape_and t ts) = ap (λ (n : ℕ). max n (most_levels (shapes_at r ts))) (levels_stay t) ∙ ap (λ (n : ℕ). max (levels t) n) (most_stay ts)

  level_stays : (t : Typ) → nat_le (levels (shape_at r t)) 128 ≡ nat_le (levels t) 128
  level_stays t = ap (λ (n : ℕ). nat_le n 128) (levels_stay t)

  parts_stay : (ts : List Typ) → parts_fit (map (shape_at r) ts) ≡ parts_fit ts
  parts_stay [] = refl
  parts_stay (t ∷ ts) = ap (λ (b : Bool). b && parts_fit (map (shape_at r) ts)) (level_stays t) ∙ ap (λ (b : Bool). nat_le (levels t) 128 && b) (parts_stay ts)

  fields_stay : (fs : List FieldDeclared) → fields_fit (map (field_at r) fs) ≡ fields_fit fs
  fields_stay [] = refl
  fields_stay (f ∷ fs) = ap (λ (b : Bool). b && fields_fit (map (field_at r) fs)) (level_stays f.typ) ∙ ap (λ (b : Bool). nat_le (levels f.typ) 128 && b) (fields_stay fs)

  variants_stay : (vs : List VariantDeclared) → variants_fit (map (variant_at r) vs) ≡ variants_fit vs
  variants_stay [] = refl
  variants_stay (v ∷ vs) = ap (λ (b : Bool). b && variants_fit (map (variant_at r) vs)) (parts_stay v.parts) ∙ ap (λ (b : Bool). parts_fit v.parts && b) (variants_stay vs)

  pub fits_stay : (w : ℕ) (o : Option Declared) → item_fits w (option_map (declared_at r) o) ≡ item_fits w o
  fits_stay w None = refl
  fits_stay w (Some rt_declared) = refl
  fits_stay w (Some (struct_declared c l fs)) = ap (λ (b : Bool). nat_le w 4096 && b) (fields_stay fs)
  fits_stay w (Some (enum_declared c l vs)) = ap (λ (b : Bool). nat_le w 4096 && b) (variants_stay vs)
  fits_stay w (Some (function_declared ps t)) = refl

  -- ---- an enum with these variants

  pub exits_parts : (W : ℕ → ℕ) (pl : Plan) (xs : List Leaving) → sum_of_parts W (shapes_of (variant_types (map (declared_exit r pl) xs))) ≡ sum_of_parts (λ i. W (r.items i)) (shapes_of (all_fields pl xs))
  exits_parts W pl [] = refl
  exits_parts W pl (x ∷ xs) = types_part r W (fields_at pl x) (variant_types (map (declared_exit r pl) xs)) (all_fields pl xs) (exits_parts W pl xs)

  low : (ts : List Typ) → Every (λ (t : Typ). levels t ≤ 128) ts → parts_fit (map (shape_at r) ts) ≡ true
  low [] h = refl
  low (t ∷ ts) h = ap (λ (b : Bool). b && parts_fit (map (shape_at r) ts)) (level_stays t ∙ le-leb (levels t) 128 h.0) ∙ low ts h.1

  pub exits_low : (pl : Plan) (xs : List Leaving) → Every (λ (t : Typ). levels t ≤ 128) (all_fields pl xs) → variants_fit (map (declared_exit r pl) xs) ≡ true
  exits_low pl [] h = refl
  exits_low pl (x ∷ xs) h =
      let a = every_front (λ (t : Typ). levels t ≤ 128) (fields_at pl x) (all_fields pl xs) h in
      ap (λ (b : Bool). b && variants_fit (map (declared_exit r pl) xs)) (low (fields_at pl x) a.0) ∙ exits_low pl xs a.1

  -- ---- Copy

  module _ (D E : Declarations) (same : (i : ℕ) → slice_get E (r.items i) ≡ option_map (declared_at r) (slice_get D i)) where
    derives_stays : (o : Option Declared) → derives_copy (option_map (declared_at r) o) ≡ derives_copy o
    derives_stays None = refl
    derives_stays (Some rt_declared) = refl
    derives_stays (Some (struct_declared c l fs)) = refl
    derives_stays (Some (enum_declared c l vs)) = refl
    derives_stays (Some (function_declared ps t)) = refl

    mutual
      copies_stay : (t : Shape Kind) → copies E (shape_at r t) ≡ copies D t
      copies_stay (integer k) = refl
      copies_stay boolean = refl
      copies_stay (tuple_of ts) = all_stay ts
      copies_stay (reference m t) = refl
      copies_stay (named i) = ap derives_copy (same i) ∙ derives_stays (slice_get D i)

      all_stay : (ts : Shapes Kind) → all_copy E (shapes_at r ts) ≡ all_copy D ts
      all_stay no_shape = refl
      all_stay (shape_and t ts) = ap (λ (b : Bool). b && all_copy E (shapes_at r ts)) (copies_stay t) ∙ ap (λ (b : Bool). copies D t && b) (all_stay ts)

    parts_copied : (ts : List Typ) → parts_copy E (map (shape_at r) ts) ≡ parts_copy D ts
    parts_copied [] = refl
    parts_copied (t ∷ ts) = ap (λ (b : Bool). b && parts_copy E (map (shape_at r) ts)) (copies_stay t) ∙ ap (λ (b : Bool). copies D t && b) (parts_copied ts)

    fields_copied : (fs : List FieldDeclared) → fields_copy E (map (field_at r) fs) ≡ fields_copy D fs
    fields_copied [] = refl
    fields_copied (f ∷ fs) = ap (λ (b : Bool). b && fields_copy E (map (field_at r) fs)) (copies_stay f.typ) ∙ ap (λ (b : Bool). copies D f.typ && b) (fields_copied fs)

    variants_copied : (vs : List VariantDeclared) → variants_copy E (map (variant_at r) vs) ≡ variants_copy D vs
    variants_copied [] = refl
    variants_copied (v ∷ vs) = ap (λ (b : Bool). b && variants_copy E (map (variant_at r) vs)) (parts_copied v.parts) ∙ ap (λ (b : Bool). parts_copy D v.parts && b) (variants_copied vs)

    pub holds_stay : (o : Option Declared) → holds_copies E (option_map (declared_at r) o) ≡ holds_copies D o
    holds_stay None = refl
    holds_stay (Some rt_declared) = refl
    holds_stay (Some (struct_declared c l fs)) = fields_copied fs
    holds_stay (Some (enum_declared c l vs)) = variants_copied vs
    holds_stay (Some (function_declared ps t)) = refl
