-- How great an extraction with an enum is, computed: its variants hand out a pair of references and a reference, and it has three
-- params, one a reference to a struct of one part.
use Rattle.std.proofs.Common.{◌≡◌, [], ◌∷◌, Some, None, refl}
use Rattle.rx_hoist_extraction.specs.Limits.{first_past, count_parameters, made_levels, made_parts}
use Rattle.rx_hoist_extraction.proofs.Lifetimes.{part_plan}

parameters_of_part : count_parameters part_plan ≡ 3
parameters_of_part = refl

-- the fields, the params, what the match on the call is
levels_of_part : made_levels part_plan ≡ 3 ∷ 2 ∷ 2 ∷ 2 ∷ 2 ∷ 3 ∷ []
levels_of_part = refl

-- the enum has one and those of its fields
parts_of_part : made_parts (λ i. 1) part_plan ≡ 7 ∷ 2 ∷ 2 ∷ 2 ∷ []
parts_of_part = refl

passes_first : (first_past 6 (made_parts (λ i. 1) part_plan) ≡ Some 7) × (first_past 7 (made_parts (λ i. 1) part_plan) ≡ None)
passes_first = (refl, refl)
