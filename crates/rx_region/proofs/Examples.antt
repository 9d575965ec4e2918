-- Which references a borrow's place goes through, and what a struct's fields ask, as examples.
use Rattle.std.proofs.Common.{◌≡◌, true, false, [], ◌∷◌, refl}
use Rattle.rx_core.specs.declared.types.Kind.{Kind}
use Rattle.rx_core.specs.declared.types.Step.TheVariants as step
use Rattle.rx_typed.specs.Regions.{region_integer, region_tuple, region_reference, no_region, region_and}
use Rattle.rx_region_outlives.specs.Related.{outlives}
use Rattle.rx_region.specs.Constraints.{reborrows}

-- `*x` of an `x` of type `&'3 mut i32`, borrowed for '5
through_mutable : reborrows [] (region_reference true 3 (region_integer Kind.I32)) 5 (step.Deref true ∷ []) ≡ outlives 3 5 ∷ []
through_mutable = refl

-- `**x` of type `&'3 mut &'4 mut i32`: both
through_both : reborrows [] (region_reference true 3 (region_reference true 4 (region_integer Kind.I32))) 5 (step.Deref true ∷ step.Deref true ∷ [])
    ≡ outlives 3 5 ∷ outlives 4 5 ∷ []
through_both = refl

-- `**x` of type `&'3 mut &'4 i32`: it stops at the shared one, whose lifetime still counts
stops_at_shared : reborrows [] (region_reference true 3 (region_reference false 4 (region_integer Kind.I32))) 5 (step.Deref true ∷ step.Deref false ∷ [])
    ≡ outlives 4 5 ∷ []
stops_at_shared = refl

-- `**x` of type `&'3 &'4 mut i32`: what is behind a shared reference counts, and the shared one too
through_shared : reborrows [] (region_reference false 3 (region_reference true 4 (region_integer Kind.I32))) 5 (step.Deref false ∷ step.Deref true ∷ [])
    ≡ outlives 3 5 ∷ outlives 4 5 ∷ []
through_shared = refl

-- `(*x).0` of type `&'3 mut (i32,)`
through_field : reborrows [] (region_reference true 3 (region_tuple (region_and (region_integer Kind.I32) no_region))) 5 (step.Deref true ∷ step.Field 0 ∷ [])
    ≡ outlives 3 5 ∷ []
through_field = refl

-- a variable's own place goes through none
own_place : reborrows [] (region_integer Kind.I32) 5 [] ≡ []
own_place = refl
