-- What structs and enums hold, through references too.
use Rattle.std.specs.Prelude.{ℕ, List, [], ◌∷◌, ◌++◌, map}
use Rattle.rx_typed.specs.Types.{Shape, integer, boolean, tuple_of, reference, named, Shapes, no_shape, shape_and, Typ}
use Rattle.rx_typed.specs.Types.{shapes_of, FieldDeclared, VariantDeclared, Declared, struct_declared, enum_declared}
use Rattle.rx_typed.specs.Types.{Declarations}

-- the numbers of the structs and enums that a type names
abbrev mutual
  pub named_in : {K : Type 0} → Shape K → List ℕ
  named_in (integer k) = []
  named_in boolean = []
  named_in (tuple_of ts) = named_among ts
  named_in (reference m t) = named_in t
  named_in (named i) = i ∷ []

  pub named_among : {K : Type 0} → Shapes K → List ℕ
  named_among no_shape = []
  named_among (shape_and t ts) = named_in t ++ named_among ts

-- the types of the fields of a struct
abbrev pub field_types : List FieldDeclared → List Typ
field_types [] = []
field_types (f ∷ fs) = f.typ ∷ field_types fs

-- the types of the parts of all variants of an enum
abbrev pub variant_types : List VariantDeclared → List Typ
variant_types [] = []
variant_types (v ∷ vs) = v.parts ++ variant_types vs

-- the types that a struct or enum holds; a function holds none
abbrev pub held_types : Declared → List Typ
held_types (struct_declared c l fs) = field_types fs
held_types (enum_declared c l vs) = variant_types vs
held_types _ = []

-- the structs and enums that an item holds
abbrev pub held_by : Declared → List ℕ
held_by d = named_among (shapes_of (held_types d))

-- those of each item
abbrev pub held_by_each : Declarations → List (List ℕ)
held_by_each D = map held_by D
