-- What a table of sizes that is filled in an order says.
use Rattle.std.proofs.Common.{◌≡◌, ℕ, zero, suc, ◌+◌, ◌<◌, ◌≤◌, inl, min, List, [], ◌∷◌, ◌++◌, map, length, replicate}
use Rattle.std.proofs.Common.{drop, get_or, slice_get, slice_set, Option, Some, None, refl, sym, ap, ◌∙◌, subst, arith}
use Rattle.std.proofs.lemmas.List.{length-map, length-replicate}
use Rattle.std.proofs.lemmas.Option.{slice_get-get_or, slice_get_past}
use Rattle.rx_core.specs.declared.types.Kind.{Kind}
use Rattle.rx_graph_cycles.specs.Reaches.{targets, IsIn}
use Rattle.rx_graph_cycles.specs.Orders.{InOrder}
use Rattle.rx_graph_cycles.proofs.Ways.{is_in_front, is_in_behind}
use Rattle.rx_typed.specs.declared.declarations.VariantDecl.{VariantDecl}
use Rattle.rx_typed.specs.declared.declarations.Decl.{Decl}
use Rattle.rx_typed.specs.Types.{Typ, integer, boolean, tuple_of, reference, named, Shapes, no_shape, shape_and}
use Rattle.rx_typed.specs.Types.{shapes_of, Declared, rt_declared, struct_declared, enum_declared, function_declared}
use Rattle.rx_typed.specs.Types.{Declarations, at_least_one, parts, sum_of_parts}
use Rattle.rx_typed.specs.PlainTypes.{plain-Ty, plain-VariantDecl, plain-Decl, declarations}
use Rattle.rx_typed_declarations.specs.Held.{named_in, named_among, field_types, variant_types, held_by, held_by_each}
use Rattle.rx_typed_declarations.specs.Sizes.{declared_parts, Sized, capped, IsSizes, told, told_parts, told_sum, told_declared}
use Rattle.rx_typed_declarations.specs.Sizes.{fill}
use Rattle.rx_typed_declarations.proofs.ItemLemmas.{at_next, held_of, targets_held}
use Rattle.rx_typed_declarations.proofs.Filling.{fill_by, length_fill_by, all_filled}

-- ---- sums

pub told_sum_append : (sizes : List ℕ) (n : ℕ) (ts us : List Typ)
    → told_sum sizes n (shapes_of (ts ++ us)) ≡ told_sum sizes (told_sum sizes n (shapes_of ts)) (shapes_of us)
told_sum_append sizes n [] us = refl
told_sum_append sizes n (t ∷ ts) us = told_sum_append sizes (capped (n + told_parts sizes t)) ts us

abbrev pub told_variants : List ℕ → ℕ → List VariantDecl → ℕ
told_variants sizes n vs = told_sum sizes n (shapes_of (variant_types (map plain-VariantDecl vs)))

pub told_variants_more : (sizes : List ℕ) (vs : List VariantDecl) (i : ℕ) (v : VariantDecl) (old new : ℕ)
    → i < length vs
    → v ≡ get_or vs i v → new ≡ told_sum sizes old (shapes_of (map plain-Ty v.parts))
    → told_variants sizes new (drop (i + 1) vs) ≡ told_variants sizes old (drop i vs)
told_variants_more sizes vs i v old new less is new_is =
    let rest = drop (i + 1) vs in
    ap (λ n. told_variants sizes n rest) new_is
    ∙ sym (told_sum_append sizes old (map plain-Ty v.parts) (variant_types (map plain-VariantDecl rest)))
    ∙ sym (at_next (told_variants sizes old) vs i v less is)

-- ---- a table that is right of what a type names is right of the type

capped_sum : (m p : ℕ) → capped (capped m + capped p) ≡ capped (m + p)
capped_sum m p = omega arith

at_least_one_capped : (n : ℕ) → at_least_one (capped n) ≡ capped (at_least_one n)
at_least_one_capped zero = refl
at_least_one_capped (suc n) = positive (min (suc n) 18446744073709551615) (omega arith)
  where
    positive : (m : ℕ) → 0 < m → at_least_one m ≡ m
    positive zero h = absurd (omega arith)
    positive (suc m) h = refl

none : (n : ℕ) → at_least_one (capped (0 + n)) ≡ capped (at_least_one n)
none n = let same : 0 + n ≡ n = omega arith in rw same (at_least_one_capped n)

abbrev Tells : (ℕ → ℕ) → List ℕ → List ℕ → Type 0
Tells P sizes ns = (i : ℕ) → IsIn ns i → told sizes i ≡ capped (P i)

module _ (P : ℕ → ℕ) (sizes : List ℕ) where
  mutual
    parts_told : (t : Typ) → Tells P sizes (named_in t) → told_parts sizes t ≡ capped (parts P t)
    parts_told (integer k) h = refl
    parts_told boolean h = refl
    parts_told (tuple_of ts) h = ap at_least_one (sum_told 0 0 ts refl h) ∙ none (sum_of_parts P ts)
    parts_told (reference m t) h = rw (parts_told t h) (omega arith)
    parts_told (named i) h = h i (inl refl)

    sum_told : (n m : ℕ) (ts : Shapes Kind) → n ≡ capped m → Tells P sizes (named_among ts)
        → told_sum sizes n ts ≡ capped (m + sum_of_parts P ts)
    sum_told n m no_shape e h = e ∙ omega arith
    sum_told n m (shape_and t ts) e h =
        let here = parts_told t (λ i is. h i (is_in_front (named_in t) (named_among ts) i is)) in
        let begun : capped (n + told_parts sizes t) ≡ capped (m + parts P t) =
        rw (e, here) (capped_sum m (parts P t)) in
        sum_told (capped (n + told_parts sizes t)) (m + parts P t) ts begun
        (λ i is. h i (is_in_behind (named_in t) (named_among ts) i is))
        ∙ omega arith

  -- an item by a table that is right of what it holds
  item_told : (d : Declared) → Tells P sizes (held_by d)
      → told_declared sizes (Some d) ≡ capped (declared_parts P (Some d))
  item_told rt_declared h = refl
  item_told (struct_declared c l fs) h = ap at_least_one (sum_told 0 0 (shapes_of (field_types fs)) refl h)
      ∙ none (sum_of_parts P (shapes_of (field_types fs)))
  item_told (enum_declared c l vs) h = sum_told 1 1 (shapes_of (variant_types vs)) refl h ∙ omega arith
  item_told (function_declared ps t) h = refl

  told_at : (o : Option Declared) → Tells P sizes (held_of o) → told_declared sizes o ≡ capped (declared_parts P o)
  told_at None h = refl
  told_at (Some d) h = item_told d h

-- ---- a table that is filled in an order

sizes_by : Declarations → List ℕ → ℕ → ℕ
sizes_by D sizes n = told_declared sizes (slice_get D n)

fill_is : (D : Declarations) (sizes order : List ℕ) → fill D sizes order ≡ fill_by (sizes_by D) sizes order
unfolding sizes_by
fill_is D sizes [] = refl
fill_is D sizes (n ∷ ns) = fill_is D (slice_set sizes n (told_declared sizes (slice_get D n))) ns

module _ (D : Declarations) (P : ℕ → ℕ) (sized : Sized D P) where
  past : (i : ℕ) → length (held_by_each D) ≤ i → 1 ≡ capped (P i)
  past i le =
      let none = slice_get_past D i (rw (sym (length-map D held_by)) le) in
      ap capped (sym (sized i ∙ ap (declared_parts P) none))

  step : (sizes : List ℕ) (n : ℕ) → Tells P sizes (targets (held_by_each D) n) → sizes_by D sizes n ≡ capped (P n)
  unfolding sizes_by
  step sizes n tells =
      let tells' = subst (Tells P sizes) (targets_held D n) tells in
      told_at P sizes (slice_get D n) tells' ∙ ap capped (sym (sized n))

  all_told : (sizes order : List ℕ) → length sizes ≡ length D → InOrder (held_by_each D) order → (i : ℕ)
      → told (fill D sizes order) i ≡ capped (P i)
  all_told sizes order whole is i =
      ap (λ l. told l i) (fill_is D sizes order)
      ∙ all_filled ℕ 1 (held_by_each D) (λ j s. s ≡ capped (P j)) (sizes_by D) past step order sizes
      (whole ∙ sym (length-map D held_by)) is i

length_fill : (D : Declarations) (sizes order : List ℕ) → length (fill D sizes order) ≡ length sizes
length_fill D sizes order = ap length (fill_is D sizes order) ∙ length_fill_by (sizes_by D) sizes order

is_sizes : (D : Declarations) (sizes order : List ℕ) → length sizes ≡ length D → InOrder (held_by_each D) order
    → IsSizes D (fill D sizes order)
is_sizes D sizes order whole is = record {
  whole = length_fill D sizes order ∙ whole;
  each = λ P sized i less.
      let within : i < length (fill D sizes order) = rw (length_fill D sizes order, whole) less in
      slice_get-get_or (fill D sizes order) i 1 within ∙ ap Some (all_told D P sized sizes order whole is i);
}

-- the same, where the code has equations
pub sizes_at : (items : List Decl) (edges : List (List ℕ)) (order order' table sizes : List ℕ)
    → edges ≡ held_by_each (declarations items) → InOrder edges order → order' ≡ order → table ≡ replicate (length items) 1
    → sizes ≡ fill (declarations items) table order' → IsSizes (declarations items) sizes
sizes_at items edges order order' table sizes edges_are is same ones sizes_are =
    let Is : List ℕ → Type 0 = λ l. IsSizes (declarations items) l in
    let Order : List (List ℕ) → Type 0 = λ g. InOrder g order in
    let none = replicate (length items) 1 in
    let whole : length none ≡ length (declarations items) =
    length-replicate (length items) 1 ∙ sym (length-map items plain-Decl) in
    let all : sizes ≡ fill (declarations items) none order = cc in
    subst Is (sym all) (is_sizes (declarations items) none order whole (subst Order edges_are is))
