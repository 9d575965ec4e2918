-- Structs and enums that are declared alike have as many parts.
use Rattle.std.proofs.Common.{◌≡◌, ℕ, zero, suc, ◌+◌, ◌<◌, ◌≤◌, List, [], ◌∷◌, ◌++◌, length, map, get_or, Option, Some, None, option_map, slice_get, inl, inr, ◌⊎◌, refl, sym, ap, ◌∙◌, arith}
use Rattle.std.proofs.lemmas.Option.{slice_get_past, get_or_from_slice_get}
use Rattle.rx_core.specs.declared.types.Kind.{Kind}
use Rattle.rx_typed.specs.Types.{Shape, Shapes, Typ, integer, boolean, tuple_of, reference, named, no_shape, shape_and, shapes_of, at_least_one, parts, sum_of_parts, FieldDeclared, VariantDeclared, Declared, Declarations, rt_declared, struct_declared, enum_declared, function_declared}
use Rattle.rx_typed_declarations.specs.Held.{field_types, variant_types}
use Rattle.rx_typed_declarations.specs.Sizes.{declared_parts, Sized, IsSizes, capped}
use Rattle.rx_typeck_solver.specs.Cells.{sizes_of}
use Rattle.rx_engine_blocks.specs.Renumbering.{Renumbering, shape_at, shapes_at, field_at, variant_at, declared_at}

module _ (r : Renumbering) (W : ℕ → ℕ) where
  -- parts by the numbers of the second
  abbrev before : ℕ → ℕ
  before i = W (r.items i)

  mutual
    pub parts_stay : (t : Shape Kind) → parts W (shape_at r t) ≡ parts before t
    parts_stay (integer k) = refl
    parts_stay boolean = refl
    parts_stay (tuple_of ts) = ap at_least_one (sum_stays ts)
    parts_stay (reference m t) = ap suc (parts_stay t)
    parts_stay (named i) = refl

    sum_stays : (ts : Shapes Kind) → sum_of_parts W (shapes_at r ts) ≡ sum_of_parts before ts
    sum_stays no_shape = refl
    sum_stays (shape_and t ts) = ap (λ n. n + sum_of_parts W (shapes_at r ts)) (parts_stay t) ∙ ap (λ n. parts before t + n) (sum_stays ts)

  fields_part : (fs : List FieldDeclared) → sum_of_parts W (shapes_of (field_types (map (field_at r) fs))) ≡ sum_of_parts before (shapes_of (field_types fs))
  fields_part [] = refl
  fields_part (f ∷ fs) = ap (λ n. n + sum_of_parts W (shapes_of (field_types (map (field_at r) fs)))) (parts_stay f.typ) ∙ ap (λ n. parts before f.typ + n) (fields_part fs)

  pub types_part : (ts : List Typ) (us vs : List Typ) → sum_of_parts W (shapes_of us) ≡ sum_of_parts before (shapes_of vs) → sum_of_parts W (shapes_of (map (shape_at r) ts ++ us)) ≡ sum_of_parts before (shapes_of (ts ++ vs))
  types_part [] us vs e = e
  types_part (t ∷ ts) us vs e = ap (λ n. n + sum_of_parts W (shapes_of (map (shape_at r) ts ++ us))) (parts_stay t) ∙ ap (λ n. parts before t + n) (types_part ts us vs e)

  variants_part : (vs : List VariantDeclared) → sum_of_parts W (shapes_of (variant_types (map (variant_at r) vs))) ≡ sum_of_parts before (shapes_of (variant_types vs))
  variants_part [] = refl
  variants_part (v ∷ vs) = types_part v.parts (variant_types (map (variant_at r) vs)) (variant_types vs) (variants_part vs)

  declared_part : (o : Option Declared) → declared_parts W (option_map (declared_at r) o) ≡ declared_parts before o
  declared_part None = refl
  declared_part (Some rt_declared) = refl
  declared_part (Some (struct_declared c l fs)) = ap at_least_one (fields_part fs)
  declared_part (Some (enum_declared c l vs)) = ap suc (variants_part vs)
  declared_part (Some (function_declared ps t)) = refl

  pub sized_before : (D E : Declarations) → ((i : ℕ) → slice_get E (r.items i) ≡ option_map (declared_at r) (slice_get D i)) → Sized E W → Sized D before
  sized_before D E same z i = z (r.items i) ∙ ap (declared_parts W) (same i) ∙ declared_part (slice_get D i)

-- ---- the tables

past_end : {A : Type 0} (xs : List A) (i : ℕ) (d : A) → length xs ≤ i → get_or xs i d ≡ d
past_end [] i d l = refl
past_end (x ∷ xs) zero d l = absurd (omega (arith, l))
past_end (x ∷ xs) (suc i) d l = past_end xs i d (omega (arith, l))

within : (n i : ℕ) → (i < n) ⊎ (n ≤ i)
within zero i = inr (omega arith)
within (suc n) zero = inl (omega arith)
within (suc n) (suc i) = by (within n i)
  where
    by : (i < n) ⊎ (n ≤ i) → (suc i < suc n) ⊎ (suc n ≤ suc i)
    by (inl l) = inl (omega (arith, l))
    by (inr l) = inr (omega (arith, l))

-- what a table tells is the number of parts in 64 bits
pub table_tells : (D : Declarations) (sizes : List ℕ) (P : ℕ → ℕ) → IsSizes D sizes → Sized D P → (i : ℕ) → sizes_of sizes i ≡ capped (P i)
table_tells D sizes P t z i = by (within (length D) i)
  where
    by : (i < length D) ⊎ (length D ≤ i) → get_or sizes i 1 ≡ capped (P i)
    by (inl l) = get_or_from_slice_get sizes i (capped (P i)) 1 (t.each P z i l)
    by (inr l) =
        let w = t.whole in
        let one : P i ≡ 1 = z i ∙ ap (declared_parts P) (slice_get_past D i l) in
        past_end sizes i 1 (omega (arith, w, l)) ∙ ap capped (sym one)

-- so two tables tell the same
pub sizes_stay : (r : Renumbering) (D E : Declarations) → ((i : ℕ) → slice_get E (r.items i) ≡ option_map (declared_at r) (slice_get D i)) → (W : ℕ → ℕ) → Sized E W
    → (sizes sizes' : List ℕ) → IsSizes D sizes → IsSizes E sizes' → (i : ℕ) → sizes_of sizes' (r.items i) ≡ sizes_of sizes i
sizes_stay r D E same W z sizes sizes' t t' i =
    table_tells E sizes' W t' z (r.items i) ∙ sym (table_tells D sizes (λ i. W (r.items i)) t (sized_before r W D E same z) i)
