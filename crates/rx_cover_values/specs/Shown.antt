-- The expression that makes a value, as text, by the names of a program: integers without a suffix, a reference as `&` and
-- the value that it leads to (Rust Reference, "Expressions": literals, tuples, structs, paths to variants, calls).
use Rattle.std.specs.Prelude.{ℕ, zero, suc, Bool, true, false, List, [], ◌∷◌, ◌++◌, Option, Some, None, slice_get, codes}
use Rattle.std.specs.Fmt.{signed_decimal}
use Rattle.rx_tree.specs.Plain as plain
use Rattle.rx_tree.specs.Plain.{FieldOf, VariantOf, ItemTree, ProgramTree}
use Rattle.rx_cover.specs.Values.{Value, Values, number, truth, tuple, made, variant, pointing, no_value, value_and}

-- ---- names

abbrev pub name_of : Option ItemTree → List ℕ
name_of (Some (plain.struct_item s d)) = d.name.name
name_of (Some (plain.enum_item s d)) = d.name.name
name_of _ = []

abbrev pub fields_of : Option ItemTree → List FieldOf
fields_of (Some (plain.struct_item s d)) = d.fields
fields_of _ = []

abbrev pub variants_of : Option ItemTree → List VariantOf
variants_of (Some (plain.enum_item s d)) = d.variants
variants_of _ = []

abbrev pub variant_name : Option VariantOf → List ℕ
variant_name None = []
variant_name (Some v) = v.name.name

-- the name of a field, by its number
abbrev pub field_name : Option FieldOf → List ℕ
field_name None = []
field_name (Some f) = f.name.name

-- ---- values

abbrev pub word : Bool → List ℕ
word true = codes "true"
word false = codes "false"

-- what stands before a part: nothing before the first
abbrev pub comma : ℕ → List ℕ
comma zero = []
comma (suc k) = codes ", "

-- a tuple of one part ends in a comma
abbrev pub end_of_tuple : Values → List ℕ
end_of_tuple (value_and v no_value) = codes ",)"
end_of_tuple _ = codes ")"

-- the parts of a variant stand in parentheses, where it has some
abbrev pub in_parentheses : Values → List ℕ → List ℕ
in_parentheses no_value shown = []
in_parentheses (value_and v vs) shown = codes "(" ++ (shown ++ codes ")")

-- the fields of a struct in braces
abbrev pub in_braces : Values → List ℕ → List ℕ
in_braces no_value shown = codes " {}"
in_braces (value_and v vs) shown = codes " { " ++ (shown ++ codes " }")

abbrev mutual
  pub shown : ProgramTree → Value → List ℕ
  shown p (number i) = signed_decimal i
  shown p (truth b) = word b
  shown p (tuple vs) = codes "(" ++ (shown_parts p 0 vs ++ end_of_tuple vs)
  shown p (made i vs) = let item = slice_get p i in name_of item ++ in_braces vs (shown_fields p (fields_of item) 0 vs)
  shown p (variant i k vs) =
      let item = slice_get p i in
      name_of item ++ (codes "::" ++ (variant_name (slice_get (variants_of item) k) ++ in_parentheses vs (shown_parts p 0 vs)))
  shown p (pointing v) = codes "&" ++ shown p v

  -- the parts from a number on
  pub shown_parts : ProgramTree → ℕ → Values → List ℕ
  shown_parts p k no_value = []
  shown_parts p k (value_and v vs) = comma k ++ (shown p v ++ shown_parts p (suc k) vs)

  -- the fields from a number on, each behind its name
  pub shown_fields : ProgramTree → List FieldOf → ℕ → Values → List ℕ
  shown_fields p fs k no_value = []
  shown_fields p fs k (value_and v vs) =
      comma k ++ (field_name (slice_get fs k) ++ (codes ": " ++ (shown p v ++ shown_fields p fs (suc k) vs)))
