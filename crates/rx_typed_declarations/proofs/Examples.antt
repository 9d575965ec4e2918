-- Short declarations, by computation.
use Rattle.std.proofs.Common.{zero, suc, inl, inr, true, false, List, [], ◌∷◌}
use Rattle.std.proofs.Common.{get_or, refl, arith}
use Rattle.rx_core.specs.declared.types.Kind.TheVariants.{I32}
use Rattle.rx_typed.specs.Types.{integer, tuple_of, named, no_shape, struct_declared, enum_declared, Declarations}
use Rattle.rx_typed_declarations.specs.Sizes.{Sized}
use Rattle.rx_typed.specs.Regions.{RegionTyp, region_integer, region_reference, region_named, no_region, region_and}
use Rattle.rx_typed_declarations.specs.Variance.{Fixed, behind, under_mut, as_argument, FixedAmong, in_first, in_rest, Invariant}
use Rattle.rx_typed_declarations.specs.Variance.{in_held}

-- struct Empty {}    struct Pair { a: (), b: Empty }    enum Either { X(i32, Pair), Y }
abbrev sized_items : Declarations
sized_items =
    struct_declared true 0 []
    ∷ struct_declared true 0 (record { name = []; typ = tuple_of no_shape } ∷ record { name = []; typ = named 0 } ∷ [])
    ∷ enum_declared true 0
    (record { name = []; parts = integer I32 ∷ named 1 ∷ [] } ∷ record { name = []; parts = [] } ∷ [])
    ∷ []

-- 1, 2 and 1 + (1 + 2)
their_sizes : Sized sized_items (λ i. get_or (1 ∷ 2 ∷ 4 ∷ []) i 1)
their_sizes zero = refl
their_sizes (suc zero) = refl
their_sizes (suc (suc zero)) = refl
their_sizes (suc (suc (suc i))) = refl

-- struct A<'a, 'b> { x: &'a mut &'b i32 }    struct B<'a> { a: A<'a, 'a> }    struct C<'a, 'b> { a: &'a A<'b, 'a> }
abbrev mutable_reference : RegionTyp
mutable_reference = region_reference true 0 (region_reference false 1 (region_integer I32))

abbrev held_by_each : List (List RegionTyp)
held_by_each =
    (mutable_reference ∷ [])
    ∷ (region_named 0 (0 ∷ 0 ∷ []) ∷ [])
    ∷ (region_reference false 0 (region_named 0 (1 ∷ 0 ∷ [])) ∷ [])
    ∷ []

-- what stands under a `&mut` is invariant
second_of_a : Invariant held_by_each 0 1
second_of_a = in_held (in_first (under_mut (inl refl)))

-- and so is what stands in its place
first_of_b : Invariant held_by_each 1 0
first_of_b = in_held (in_first (as_argument {j = 1} refl second_of_a))

first_of_c : Invariant held_by_each 2 0
first_of_c = in_held (in_first (behind (as_argument {j = 1} refl second_of_a)))

-- the lifetime of the `&mut` itself is not
first_of_a : Invariant held_by_each 0 0 → ⊥
first_of_a (in_held f) = among f
  where
    inner : Fixed held_by_each (region_reference false 1 (region_integer I32)) 0 → ⊥
    inner (behind f) = elim f [ ]

    outer : Fixed held_by_each mutable_reference 0 → ⊥
    outer (behind f) = inner f
    outer (under_mut (inl e)) = absurd (omega arith)
    outer (under_mut (inr h)) = absurd h

    among : FixedAmong held_by_each (region_and mutable_reference no_region) 0 → ⊥
    among (in_first f) = outer f
    among (in_rest f) = elim f [ ]
