-- What a name, a label or a lifetime means where it stands (Rust Reference, "Namespaces", "Scopes", "Paths", "Loop labels").
use Rattle.std.specs.Prelude.{ℕ, suc, min, Bool, true, false, if◌then◌else◌, List, [], ◌∷◌, ◌++◌, map, Option, Some, None, option_map, codes}
use Rattle.std.specs.Str.{bytes_eq}
use Rattle.rx_tree.specs.declared.tree.Ident.{Ident}
use Rattle.rx_tree.specs.declared.tree.BoundLifetime.{BoundLifetime}
use Rattle.rx_tree.specs.Plain as plain
use Rattle.rx_tree.specs.Plain.{VariantOf, ItemTree, ProgramTree}
use Rattle.rx_resolve_names.specs.declared.table.NumberedName.{NumberedName}
use Rattle.rx_resolve_names.specs.Scopes.{DeclaredNames, declared_as}

-- a number as it is kept, in 32 bits; no program of a text that is read has a greater one
abbrev pub number : ℕ → ℕ
number n = min n 4294967295

-- ---- items. Structs, enums and `rt` share one list of names, functions another

-- the name that an item has among structs, enums and `rt`
abbrev pub type_name : ItemTree → Option Ident
type_name (plain.rt_item s r) = Some (record { span = r; name = codes "rt" })
type_name (plain.struct_item s d) = Some d.name
type_name (plain.enum_item s d) = Some d.name
type_name (plain.function_item s f) = None

-- the name that an item has among functions
abbrev pub function_name : ItemTree → Option Ident
function_name (plain.function_item s f) = Some f.name
function_name _ = None

abbrev pub has_name : List ℕ → Option Ident → Bool
has_name x None = false
has_name x (Some y) = bytes_eq x y.name

-- the first item that has this name in one of the two lists, with its number; the first of the items has number n
abbrev pub item_named : (ItemTree → Option Ident) → ℕ → ProgramTree → List ℕ → Option (ℕ × ItemTree)
item_named name n [] x = None
item_named name n (i ∷ is) x = if has_name x (name i) then Some (n, i) else item_named name (suc n) is x

-- a struct or enum, which a type may name
abbrev pub as_type : Option (ℕ × ItemTree) → Option ℕ
as_type (Some (n, plain.struct_item s d)) = Some n
as_type (Some (n, plain.enum_item s d)) = Some n
as_type _ = None

-- a struct, which a struct literal or struct pattern may name
abbrev pub as_struct : Option (ℕ × ItemTree) → Option ℕ
as_struct (Some (n, plain.struct_item s d)) = Some n
as_struct _ = None

-- an enum, which may stand before `::`
abbrev pub as_enum : Option (ℕ × ItemTree) → Option ℕ
as_enum (Some (n, plain.enum_item s d)) = Some n
as_enum _ = None

-- the item `mod rt;`
abbrev pub as_rt : Option (ℕ × ItemTree) → Option ℕ
as_rt (Some (n, plain.rt_item s r)) = Some n
as_rt _ = None

abbrev pub as_function : Option (ℕ × ItemTree) → Option ℕ
as_function None = None
as_function (Some (n, i)) = Some n

-- ---- lists of names. Where two are the same, the first is meant

abbrev pub kept : DeclaredNames → Ident → ℕ → Option NumberedName → DeclaredNames
kept ds x n None = ds ++ (x.name, record { number = number n; span = x.span }) ∷ []
kept ds x n (Some k) = ds

-- the names behind those, the first of which has number n
abbrev pub firsts : DeclaredNames → ℕ → List Ident → DeclaredNames
firsts ds n [] = ds
firsts ds n (x ∷ xs) = firsts (kept ds x n (declared_as ds x.name)) (suc n) xs

abbrev pub number_in : DeclaredNames → List ℕ → Option ℕ
number_in ds x = option_map (λ (k : NumberedName). k.number) (declared_as ds x)

-- the names of an enum's variants
abbrev pub variant_names : ItemTree → DeclaredNames
variant_names (plain.enum_item s d) = firsts [] 0 (map (λ (v : VariantOf). v.name) d.variants)
variant_names _ = []

abbrev pub variants_of : Option (ℕ × ItemTree) → DeclaredNames
variants_of None = []
variants_of (Some (n, i)) = variant_names i

abbrev pub lifetimes_declared : ItemTree → List Ident
lifetimes_declared (plain.rt_item s r) = []
lifetimes_declared (plain.struct_item s d) = d.lifetimes
lifetimes_declared (plain.enum_item s d) = d.lifetimes
lifetimes_declared (plain.function_item s f) = map (λ (l : BoundLifetime). l.name) f.lifetimes

-- ---- loops

-- what stands round an expression, the nearest first: a loop with its label and number, or the test of a loop
pub data Around : Type 0 where
  a_loop : Option Ident → ℕ → Around
  a_test : Around

-- where a `break` or `continue` leads: to a loop by its number, out of a test, or nowhere
pub data Target : Type 0 where
  to_loop : ℕ → Target
  out_of_test : Target
  nowhere : Target

abbrev pub through_test : Target → Target
through_test nowhere = nowhere
through_test _ = out_of_test

-- whether a loop is the one that a jump without a label, or with this one, leads to
abbrev pub is_meant : Option Ident → Option Ident → Bool
is_meant None l = true
is_meant (Some x) None = false
is_meant (Some x) (Some y) = bytes_eq x.name y.name

abbrev pub target : Option Ident → List Around → Target
target x [] = nowhere
target x (a_test ∷ around) = through_test (target x around)
target x (a_loop l n ∷ around) = if is_meant x l then to_loop n else target x around
