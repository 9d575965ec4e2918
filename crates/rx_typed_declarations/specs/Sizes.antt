-- How many parts structs and enums have: a struct those of its fields, at least one; an enum one and those of all its
-- variants.
use Rattle.std.specs.Prelude.{◌≡◌, ℕ, suc, ◌+◌, ◌<◌, min, List, [], ◌∷◌, length, Option, Some, slice_get, slice_set}
use Rattle.std.specs.Prelude.{slice_index_or}
use Rattle.rx_core.specs.declared.types.Kind.{Kind}
use Rattle.rx_typed.specs.Types.{integer, boolean, tuple_of, reference, named, Shapes, no_shape, shape_and, Typ}
use Rattle.rx_typed.specs.Types.{shapes_of, Declared, struct_declared, enum_declared, Declarations, at_least_one}
use Rattle.rx_typed.specs.Types.{sum_of_parts}
use Rattle.rx_typed_declarations.specs.Held.{field_types, variant_types}

-- the parts of an item by those of all; a number of no struct or enum has one
abbrev pub declared_parts : (ℕ → ℕ) → Option Declared → ℕ
declared_parts P (Some (struct_declared c l fs)) = at_least_one (sum_of_parts P (shapes_of (field_types fs)))
declared_parts P (Some (enum_declared c l vs)) = suc (sum_of_parts P (shapes_of (variant_types vs)))
declared_parts P _ = 1

-- the parts of all
abbrev pub Sized : Declarations → (ℕ → ℕ) → Type 0
Sized D P = (i : ℕ) → P i ≡ declared_parts P (slice_get D i)

-- kept in 64 bits: what is more is the greatest number of 64 bits
abbrev pub capped : ℕ → ℕ
capped n = min n 18446744073709551615

-- a table of the parts of all items
pub record IsSizes (D : Declarations) (sizes : List ℕ) : Type 0 where
  pub whole : length sizes ≡ length D
  pub each : (P : ℕ → ℕ) → Sized D P → (i : ℕ) → i < length D → slice_get sizes i ≡ Some (capped (P i))

-- ---- what the private functions do

abbrev pub told : List ℕ → ℕ → ℕ
told sizes i = slice_index_or sizes i 1

-- the parts of a type by a table
abbrev mutual
  pub told_parts : List ℕ → Typ → ℕ
  told_parts sizes (integer k) = 1
  told_parts sizes boolean = 1
  told_parts sizes (tuple_of ts) = at_least_one (told_sum sizes 0 ts)
  told_parts sizes (reference m t) = capped (1 + told_parts sizes t)
  told_parts sizes (named i) = told sizes i

  -- a number and the parts of types
  pub told_sum : List ℕ → ℕ → Shapes Kind → ℕ
  told_sum sizes n no_shape = n
  told_sum sizes n (shape_and t ts) = told_sum sizes (capped (n + told_parts sizes t)) ts

abbrev pub told_declared : List ℕ → Option Declared → ℕ
told_declared sizes (Some (struct_declared c l fs)) = at_least_one (told_sum sizes 0 (shapes_of (field_types fs)))
told_declared sizes (Some (enum_declared c l vs)) = told_sum sizes 1 (shapes_of (variant_types vs))
told_declared sizes _ = 1

-- a table that is filled in an order of the items
abbrev pub fill : Declarations → List ℕ → List ℕ → List ℕ
fill D sizes [] = sizes
fill D sizes (n ∷ ns) = fill D (slice_set sizes n (told_declared sizes (slice_get D n))) ns
