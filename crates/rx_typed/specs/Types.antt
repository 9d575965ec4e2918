-- Types without lifetimes (Rust Reference, "Types"), and what a program declares.
use Rattle.std.specs.Prelude.{ℕ, zero, suc, ◌+◌, max, nat_le, Bool, true, false, not, ◌&&◌, if◌then◌else◌, List, []}
use Rattle.std.specs.Prelude.{◌∷◌, Option, Some, None, slice_get}
use Rattle.std.specs.Str.{bytes_eq}
use Rattle.rx_core.specs.declared.types.Kind.{Kind}

-- ---- types

mutual
  -- a type; a `K` says which integer type is meant
  pub data Shape (K : Type 0) : Type 0 where
    integer : K → Shape K
    boolean : Shape K
    -- the unit is the empty one
    tuple_of : Shapes K → Shape K
    -- whether it is mutable, what it points to
    reference : Bool → Shape K → Shape K
    -- a struct or enum, by its item's number
    named : ℕ → Shape K

  pub data Shapes (K : Type 0) : Type 0 where
    no_shape : Shapes K
    shape_and : Shape K → Shapes K → Shapes K

abbrev pub Typ : Type 0
Typ = Shape Kind

-- a type of which no integer type is told
abbrev pub Outline : Type 0
Outline = Shape (Unit {0})

abbrev pub unit_shape : {K : Type 0} → Shape K
unit_shape = tuple_of no_shape

abbrev mutual
  pub shape_map : {K L : Type 0} → (K → L) → Shape K → Shape L
  shape_map f (integer k) = integer (f k)
  shape_map f boolean = boolean
  shape_map f (tuple_of ts) = tuple_of (shapes_map f ts)
  shape_map f (reference m t) = reference m (shape_map f t)
  shape_map f (named i) = named i

  pub shapes_map : {K L : Type 0} → (K → L) → Shapes K → Shapes L
  shapes_map f no_shape = no_shape
  shapes_map f (shape_and t ts) = shape_and (shape_map f t) (shapes_map f ts)

abbrev pub outline : {K : Type 0} → Shape K → Outline
outline t = shape_map (λ k. tt) t

abbrev pub shapes_listed : {K : Type 0} → Shapes K → List (Shape K)
shapes_listed no_shape = []
shapes_listed (shape_and t ts) = t ∷ shapes_listed ts

abbrev pub shapes_of : {K : Type 0} → List (Shape K) → Shapes K
shapes_of [] = no_shape
shapes_of (t ∷ ts) = shape_and t (shapes_of ts)

-- what stands under all references
abbrev pub peeled : {K : Type 0} → Shape K → Shape K
peeled (reference m t) = peeled t
peeled t = t

-- whether each reference on the way there is mutable, the outermost first
abbrev pub references : {K : Type 0} → Shape K → List Bool
references (reference m t) = m ∷ references t
references _ = []

-- the outermost reference alone
abbrev pub outermost : {K : Type 0} → Shape K → List Bool
outermost (reference m t) = m ∷ []
outermost _ = []

-- ---- declarations

pub record FieldDeclared : Type 0 where
  pub name : List ℕ
  pub typ : Typ

pub record VariantDeclared : Type 0 where
  pub name : List ℕ
  pub parts : List Typ

-- an item; items are numbered in the order of the text
pub data Declared : Type 0 where
  rt_declared : Declared
  -- whether it is Copy, how many lifetimes it has, its fields in order
  struct_declared : Bool → ℕ → List FieldDeclared → Declared
  -- whether it is Copy, how many lifetimes it has, its variants in order
  enum_declared : Bool → ℕ → List VariantDeclared → Declared
  -- the types of the parameters, the result
  function_declared : List Typ → Typ → Declared

abbrev pub Declarations : Type 0
Declarations = List Declared

abbrev pub fields_declared : Option Declared → List FieldDeclared
fields_declared (Some (struct_declared c l fs)) = fs
fields_declared _ = []

abbrev pub variants_declared : Option Declared → List VariantDeclared
variants_declared (Some (enum_declared c l vs)) = vs
variants_declared _ = []

abbrev pub parameters_declared : Option Declared → List Typ
parameters_declared (Some (function_declared ps t)) = ps
parameters_declared _ = []

abbrev pub result_declared : Option Declared → Option Typ
result_declared (Some (function_declared ps t)) = Some t
result_declared _ = None

abbrev pub lifetimes_declared : Option Declared → ℕ
lifetimes_declared (Some (struct_declared c l fs)) = l
lifetimes_declared (Some (enum_declared c l vs)) = l
lifetimes_declared _ = 0

abbrev pub parts_declared : Option VariantDeclared → List Typ
parts_declared None = []
parts_declared (Some v) = v.parts

-- the type of a field by its name
abbrev pub field_typ : List FieldDeclared → List ℕ → Option Typ
field_typ [] x = None
field_typ (f ∷ fs) x = if bytes_eq f.name x then Some f.typ else field_typ fs x

-- the number of a field by its name
abbrev pub field_number : List FieldDeclared → List ℕ → ℕ
field_number [] x = zero
field_number (f ∷ fs) x = if bytes_eq f.name x then zero else suc (field_number fs x)

-- the types of a variant's parts
abbrev pub variant_parts : Declarations → ℕ → ℕ → List Typ
variant_parts D i v = parts_declared (slice_get (variants_declared (slice_get D i)) v)

-- ---- Copy: integers, truth values, shared references, tuples of Copy, types that derive it
-- (Rust Reference, "Special types and traits", "Copy")

abbrev pub derives_copy : Option Declared → Bool
derives_copy (Some (struct_declared c l fs)) = c
derives_copy (Some (enum_declared c l vs)) = c
derives_copy _ = false

abbrev mutual
  pub copies : {K : Type 0} → Declarations → Shape K → Bool
  copies D (integer k) = true
  copies D boolean = true
  copies D (tuple_of ts) = all_copy D ts
  copies D (reference m t) = not m
  copies D (named i) = derives_copy (slice_get D i)

  pub all_copy : {K : Type 0} → Declarations → Shapes K → Bool
  all_copy D no_shape = true
  all_copy D (shape_and t ts) = copies D t && all_copy D ts

-- ---- how big a type is

-- levels: a named type is one, whatever its fields are
abbrev mutual
  pub levels : {K : Type 0} → Shape K → ℕ
  levels (integer k) = 1
  levels boolean = 1
  levels (tuple_of ts) = suc (most_levels ts)
  levels (reference m t) = suc (levels t)
  levels (named i) = 1

  pub most_levels : {K : Type 0} → Shapes K → ℕ
  most_levels no_shape = 0
  most_levels (shape_and t ts) = max (levels t) (most_levels ts)

-- parts: those of a struct or enum are told by a table; a type without fields is one
abbrev pub at_least_one : ℕ → ℕ
at_least_one zero = 1
at_least_one (suc n) = suc n

abbrev mutual
  pub parts : {K : Type 0} → (ℕ → ℕ) → Shape K → ℕ
  parts P (integer k) = 1
  parts P boolean = 1
  parts P (tuple_of ts) = at_least_one (sum_of_parts P ts)
  parts P (reference m t) = suc (parts P t)
  parts P (named i) = P i

  pub sum_of_parts : {K : Type 0} → (ℕ → ℕ) → Shapes K → ℕ
  sum_of_parts P no_shape = 0
  sum_of_parts P (shape_and t ts) = parts P t + sum_of_parts P ts

-- the limits that a type keeps
abbrev pub keeps_limits : {K : Type 0} → (ℕ → ℕ) → Shape K → Bool
keeps_limits P t = nat_le (parts P t) 4096 && nat_le (levels t) 128
