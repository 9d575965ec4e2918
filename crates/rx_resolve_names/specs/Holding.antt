-- What structs and enums hold, through references too (Rust Reference, "Structs", "Enumerations": a type that holds itself has no values, or is behind a reference; both are left out).
use Rattle.std.specs.Prelude.{ℕ, List, [], ◌∷◌, ◌++◌, map, Option, Some, None}
use Rattle.rx_core.specs.declared.types.Span.{Span}
use Rattle.rx_tree.specs.Plain as plain
use Rattle.rx_tree.specs.Plain.{TypeTree, TypeTrees, FieldOf, VariantOf, ItemTree, ProgramTree}
use Rattle.rx_resolve_names.specs.Meant.{type_name, item_named, as_type}

abbrev pub if_found : Option ℕ → List ℕ
if_found None = []
if_found (Some n) = n ∷ []

-- the numbers of the structs and enums that a type names
abbrev mutual
  pub held_in : ProgramTree → TypeTree → List ℕ
  held_in p (plain.kind_type s k) = []
  held_in p (plain.bool_type s) = []
  held_in p (plain.tuple_type s ts) = held_among p ts
  held_in p (plain.ref_type s l m t) = held_in p t
  held_in p (plain.named_type s x ls) = if_found (as_type (item_named type_name 0 p x.name))

  pub held_among : ProgramTree → TypeTrees → List ℕ
  held_among p plain.no_type = []
  held_among p (plain.type_and t ts) = held_in p t ++ held_among p ts

abbrev pub held_by_fields : ProgramTree → List FieldOf → List ℕ
held_by_fields p [] = []
held_by_fields p (f ∷ fs) = held_in p f.typ ++ held_by_fields p fs

abbrev pub held_by_variants : ProgramTree → List VariantOf → List ℕ
held_by_variants p [] = []
held_by_variants p (v ∷ vs) = held_among p v.types ++ held_by_variants p vs

-- the structs and enums that an item holds
abbrev pub held_by : ProgramTree → ItemTree → List ℕ
held_by p (plain.struct_item s d) = held_by_fields p d.fields
held_by p (plain.enum_item s d) = held_by_variants p d.variants
held_by p _ = []

-- those of each item
abbrev pub held_in_tree : ProgramTree → List (List ℕ)
held_in_tree p = map (held_by p) p

-- the place of an item's name
abbrev pub name_span : ItemTree → Span
name_span (plain.rt_item s r) = r
name_span (plain.struct_item s d) = d.name.span
name_span (plain.enum_item s d) = d.name.span
name_span (plain.function_item s f) = f.name.span
