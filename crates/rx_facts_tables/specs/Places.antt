-- The parts of places. The parts of a type are numbered in the order in which it is written: those of a tuple's or struct's
-- fields, the tag of an enum and the parts of the fields of all variants; a reference has those that the type counts for it
-- (`parts`), which no place tells apart. Variables have their parts one variable behind the other.
-- (Rust Reference, "Place expressions and value expressions"; "Moved and copied types".)
use Rattle.std.specs.Prelude.{ℕ, zero, suc, ◌+◌, Bool, ◌&&◌, nat_le, nat_lt, List, [], ◌∷◌, Option, Some, None, slice_get}
use Rattle.rx_core.specs.declared.types.Step.{Step}
use Rattle.rx_core.specs.declared.types.Step.TheVariants as step
use Rattle.rx_typed.specs.Types.{Typ, tuple_of, named, shapes_of, shapes_listed, Declarations, Declared, VariantDeclared, fields_declared, variants_declared, parts, sum_of_parts}
use Rattle.rx_typed.specs.Tree.{Place, Root, variable, temporary}
use Rattle.rx_typed_declarations.specs.Held.{field_types}

-- what steps lead to: what has a type, the fields of a variant, or nothing
pub data Spot : Type 0 where
  whole : Typ → Spot
  fields : List Typ → Spot
  nowhere : Spot

-- the number of its first part, and what is there
pub record Located : Type 0 where
  pub first : ℕ
  pub spot : Spot

abbrev pub at : ℕ → Spot → Located
at n s = record { first = n; spot = s }

-- by how many parts each struct and enum has
abbrev pub spot_parts : (ℕ → ℕ) → Spot → ℕ
spot_parts P (whole t) = parts P t
spot_parts P (fields ts) = sum_of_parts P (shapes_of ts)
spot_parts P nowhere = 0

-- a field, where the first begins at this number
abbrev pub nth_field : (ℕ → ℕ) → List Typ → ℕ → ℕ → Located
nth_field P [] i n = at n nowhere
nth_field P (t ∷ ts) zero n = at n (whole t)
nth_field P (t ∷ ts) (suc i) n = nth_field P ts i (n + parts P t)

-- the fields of a variant, where those of the first begin at this number
abbrev pub nth_variant : (ℕ → ℕ) → List VariantDeclared → ℕ → ℕ → Located
nth_variant P [] v n = at n nowhere
nth_variant P (d ∷ ds) zero n = at n (fields d.parts)
nth_variant P (d ∷ ds) (suc v) n = nth_variant P ds v (n + sum_of_parts P (shapes_of d.parts))

-- the types of a struct's fields
abbrev pub struct_fields : Option Declared → List Typ
struct_fields d = field_types (fields_declared d)

-- the field of what is there
abbrev pub field_of : Declarations → (ℕ → ℕ) → ℕ → ℕ → Spot → Located
field_of D P i n (whole (tuple_of ts)) = nth_field P (shapes_listed ts) i n
field_of D P i n (whole (named k)) = nth_field P (struct_fields (slice_get D k)) i n
field_of D P i n (fields ts) = nth_field P ts i n
field_of D P i n _ = at n nowhere

-- the fields of a variant of what is there: the first part of an enum is its tag
abbrev pub variant_of : Declarations → (ℕ → ℕ) → ℕ → ℕ → Spot → Located
variant_of D P v n (whole (named k)) = nth_variant P (variants_declared (slice_get D k)) v (suc n)
variant_of D P v n _ = at n nowhere

-- where steps lead. A place behind a dereference is told by the reference that it goes through first
abbrev pub located : Declarations → (ℕ → ℕ) → List Step → ℕ → Spot → Located
located D P [] n s = at n s
located D P (step.Field i ∷ ss) n s = located D P ss (field_of D P i n s).first (field_of D P i n s).spot
located D P (step.Variant v ∷ ss) n s = located D P ss (variant_of D P v n s).first (variant_of D P v n s).spot
located D P (step.Deref m ∷ ss) n s = at n s

-- ---- the variables of a function

-- what is declared, how many parts structs and enums have, the types of the variables
pub record Frame : Type 0 where
  pub declared : Declarations
  pub sizes : ℕ → ℕ
  pub types : List (Option Typ)

-- a variable without a type has no parts
abbrev pub typed_spot : Option Typ → Spot
typed_spot None = nowhere
typed_spot (Some t) = whole t

abbrev pub nth_variable : (ℕ → ℕ) → List (Option Typ) → ℕ → ℕ → Located
nth_variable P [] x n = at n nowhere
nth_variable P (t ∷ ts) zero n = at n (typed_spot t)
nth_variable P (t ∷ ts) (suc x) n = nth_variable P ts x (n + spot_parts P (typed_spot t))

-- how many parts all variables have
abbrev pub all_parts : (ℕ → ℕ) → List (Option Typ) → ℕ
all_parts P [] = 0
all_parts P (t ∷ ts) = spot_parts P (typed_spot t) + all_parts P ts

abbrev pub root_at : Frame → Root → Located
root_at F (variable x) = nth_variable F.sizes F.types x 0
root_at F (temporary t) = at 0 nowhere

abbrev pub place_at : Frame → Place → Located
place_at F p = located F.declared F.sizes p.steps (root_at F p.root).first (root_at F p.root).spot

-- whether a part, by its number, is of what is there
abbrev pub spans : (ℕ → ℕ) → Located → ℕ → Bool
spans P l n = nat_le l.first n && nat_lt n (l.first + spot_parts P l.spot)

-- whether a part is of a place of a variable
abbrev pub is_part : Frame → Place → ℕ → Bool
is_part F p n = spans F.sizes (place_at F p) n
