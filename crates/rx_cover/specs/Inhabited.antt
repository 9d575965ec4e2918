-- Which structs and enums have values, by a table, and which types do.
use Rattle.std.specs.Prelude.{ℕ, Bool, true, false, ◌&&◌, ◌||◌, List, [], ◌∷◌, Option, Some, slice_get, slice_set}
use Rattle.std.specs.Prelude.{slice_index_or}
use Rattle.rx_core.specs.declared.types.Kind.{Kind}
use Rattle.rx_typed.specs.Types.{Typ, integer, boolean, tuple_of, reference, named, Shapes, no_shape, shape_and, shapes_of}
use Rattle.rx_typed.specs.Types.{Declared, struct_declared, enum_declared, Declarations, VariantDeclared}
use Rattle.rx_typed_declarations.specs.Held.{field_types}
use Rattle.rx_cover.specs.Values.{Value, Values, IsOfType, AreOfTypes}

abbrev pub told : List Bool → ℕ → Bool
told table i = slice_index_or table i false

-- whether a type has values
abbrev pub Valued : Declarations → Typ → Bool → Type 0
Valued D t true = (v : Value) × IsOfType D t v
Valued D t false = (v : Value) → IsOfType D t v → ⊥

-- whether there are values of these types, one after the other
abbrev pub AllValued : Declarations → List Typ → Bool → Type 0
AllValued D ts true = (vs : Values) × AreOfTypes D ts vs
AllValued D ts false = (vs : Values) → AreOfTypes D ts vs → ⊥

-- a table says of each struct and enum whether it has values
pub record Inhabited (D : Declarations) (table : List Bool) : Type 0 where
  pub each : (i : ℕ) → Valued D (named i) (told table i)

-- ---- by a table

abbrev mutual
  pub valued : List Bool → Typ → Bool
  valued table (integer k) = true
  valued table boolean = true
  valued table (tuple_of ts) = all_valued table ts
  valued table (reference m t) = valued table t
  valued table (named i) = told table i

  pub all_valued : List Bool → Shapes Kind → Bool
  all_valued table no_shape = true
  all_valued table (shape_and t ts) = valued table t && all_valued table ts

abbrev pub some_variant : List Bool → List VariantDeclared → Bool
some_variant table [] = false
some_variant table (v ∷ vs) = all_valued table (shapes_of v.parts) || some_variant table vs

abbrev pub declared_valued : List Bool → Option Declared → Bool
declared_valued table (Some (struct_declared c l fs)) = all_valued table (shapes_of (field_types fs))
declared_valued table (Some (enum_declared c l vs)) = some_variant table vs
declared_valued table _ = false

-- a table that is filled in an order of the items
abbrev pub fill : Declarations → List Bool → List ℕ → List Bool
fill D table [] = table
fill D table (n ∷ ns) = fill D (slice_set table n (declared_valued table (slice_get D n))) ns
