-- What is there has its parts within those of what it is in.
use Rattle.std.proofs.Common.{◌≡◌, ℕ, zero, suc, ◌+◌, ◌≤◌, List, [], ◌∷◌, ◌++◌, Option, Some, None, slice_get, refl, ap, arith}
use Rattle.rx_core.specs.declared.types.Step.{Step}
use Rattle.rx_core.specs.declared.types.Step.TheVariants as step
use Rattle.rx_core.specs.declared.types.Kind.{Kind}
use Rattle.rx_typed.specs.Types.{Typ, integer, boolean, tuple_of, reference, named, Shapes, no_shape, shape_and, shapes_of, shapes_listed, at_least_one, parts, sum_of_parts, Declarations, Declared, rt_declared, struct_declared, enum_declared, function_declared, VariantDeclared, variants_declared}
use Rattle.rx_typed_declarations.specs.Held.{field_types, variant_types}
use Rattle.rx_typed_declarations.specs.Sizes.{Sized, declared_parts}
use Rattle.rx_facts_tables.specs.Places.{Spot, whole, fields, nowhere, Located, spot_parts, nth_field, nth_variant, struct_fields, field_of, variant_of, located, typed_spot, nth_variable, all_parts}

pub listed_again : (ts : List Typ) → shapes_listed (shapes_of ts) ≡ ts
listed_again [] = refl
listed_again (t ∷ ts) = ap (λ (l : List Typ). t ∷ l) (listed_again ts)

of_listed : (ts : Shapes Kind) → shapes_of (shapes_listed ts) ≡ ts
of_listed no_shape = refl
of_listed (shape_and t ts) = ap (λ (l : Shapes Kind). shape_and t l) (of_listed ts)

pub at_least : (n : ℕ) → n ≤ at_least_one n
at_least zero = omega arith
at_least (suc n) = omega arith

pub not_none : (n : ℕ) → 1 ≤ at_least_one n
not_none zero = omega arith
not_none (suc n) = omega arith

pub sum_append : (P : ℕ → ℕ) (ts us : List Typ) → sum_of_parts P (shapes_of (ts ++ us)) ≡ sum_of_parts P (shapes_of ts) + sum_of_parts P (shapes_of us)
sum_append P [] us = omega arith
sum_append P (t ∷ ts) us = omega (arith, sum_append P ts us)

-- what is there ends where the other does, or before
abbrev pub Ends : (ℕ → ℕ) → Located → ℕ → Type 0
Ends P l n = l.first + spot_parts P l.spot ≤ n

pub field_within : (P : ℕ → ℕ) (ts : List Typ) (i n : ℕ) → Ends P (nth_field P ts i n) (n + sum_of_parts P (shapes_of ts))
field_within P [] i n = omega arith
field_within P (t ∷ ts) zero n = omega arith
field_within P (t ∷ ts) (suc i) n = omega (arith, field_within P ts i (n + parts P t))

pub variant_within : (P : ℕ → ℕ) (ds : List VariantDeclared) (v n : ℕ) → Ends P (nth_variant P ds v n) (n + sum_of_parts P (shapes_of (variant_types ds)))
variant_within P [] v n = omega arith
variant_within P (d ∷ ds) zero n = omega (arith, sum_append P d.parts (variant_types ds))
variant_within P (d ∷ ds) (suc v) n = omega (arith, variant_within P ds v (n + sum_of_parts P (shapes_of d.parts)), sum_append P d.parts (variant_types ds))

-- ---- steps

module _ (D : Declarations) (P : ℕ → ℕ) (sized : Sized D P) where
  pub struct_room : (d : Option Declared) → sum_of_parts P (shapes_of (struct_fields d)) ≤ declared_parts P d
  struct_room None = omega arith
  struct_room (Some rt_declared) = omega arith
  struct_room (Some (struct_declared c l fs)) = at_least (sum_of_parts P (shapes_of (field_types fs)))
  struct_room (Some (enum_declared c l vs)) = omega arith
  struct_room (Some (function_declared ps t)) = omega arith

  pub variant_room : (d : Option Declared) → suc (sum_of_parts P (shapes_of (variant_types (variants_declared d)))) ≤ declared_parts P d
  variant_room None = omega arith
  variant_room (Some rt_declared) = omega arith
  variant_room (Some (struct_declared c l fs)) = not_none (sum_of_parts P (shapes_of (field_types fs)))
  variant_room (Some (enum_declared c l vs)) = omega arith
  variant_room (Some (function_declared ps t)) = omega arith

  pub step_field : (i n : ℕ) (s : Spot) → Ends P (field_of D P i n s) (n + spot_parts P s)
  step_field i n (whole (integer k)) = omega arith
  step_field i n (whole boolean) = omega arith
  step_field i n (whole (tuple_of ts)) =
      let h = field_within P (shapes_listed ts) i n in
      let e = ap (λ (l : Shapes Kind). sum_of_parts P l) (of_listed ts) in omega (arith, h, e, at_least (sum_of_parts P ts))
  step_field i n (whole (reference m t)) = omega arith
  step_field i n (whole (named k)) = omega (arith, field_within P (struct_fields (slice_get D k)) i n, struct_room (slice_get D k), sized k)
  step_field i n (fields ts) = field_within P ts i n
  step_field i n nowhere = omega arith

  pub step_variant : (v n : ℕ) (s : Spot) → Ends P (variant_of D P v n s) (n + spot_parts P s)
  step_variant v n (whole (integer k)) = omega arith
  step_variant v n (whole boolean) = omega arith
  step_variant v n (whole (tuple_of ts)) = omega arith
  step_variant v n (whole (reference m t)) = omega arith
  step_variant v n (whole (named k)) = omega (arith, variant_within P (variants_declared (slice_get D k)) v (suc n), variant_room (slice_get D k), sized k)
  step_variant v n (fields ts) = omega arith
  step_variant v n nowhere = omega arith

  pub steps_within : (ss : List Step) (n : ℕ) (s : Spot) → Ends P (located D P ss n s) (n + spot_parts P s)
  steps_within [] n s = omega arith
  steps_within (step.Field i ∷ ss) n s = omega (arith, steps_within ss (field_of D P i n s).first (field_of D P i n s).spot, step_field i n s)
  steps_within (step.Variant v ∷ ss) n s = omega (arith, steps_within ss (variant_of D P v n s).first (variant_of D P v n s).spot, step_variant v n s)
  steps_within (step.Deref m ∷ ss) n s = omega arith

pub variable_within : (P : ℕ → ℕ) (ts : List (Option Typ)) (x n : ℕ) → Ends P (nth_variable P ts x n) (n + all_parts P ts)
variable_within P [] x n = omega arith
variable_within P (t ∷ ts) zero n = omega arith
variable_within P (t ∷ ts) (suc x) n = omega (arith, variable_within P ts x (n + spot_parts P (typed_spot t)))
