-- Programs that are the same apart from the lifetimes that their functions declare and write (Rust Reference, "Lifetime parameters").
use Rattle.std.specs.Prelude.{◌≡◌, [], map, None, option_map}
use Rattle.rx_tree.specs.Plain as plain
use Rattle.rx_tree.specs.Plain.{TypeTree, TypeTrees, Parameter, Body, Function, ItemTree, ProgramTree}
use Rattle.rx_hoist_extraction.specs.Changed.{changed_body}
use Rattle.rx_compact_lifetimes.specs.Rewritten.{retyping}

-- with no lifetime written
abbrev mutual
  pub bare_type : TypeTree → TypeTree
  bare_type (plain.kind_type s k) = plain.kind_type s k
  bare_type (plain.bool_type s) = plain.bool_type s
  bare_type (plain.tuple_type s ts) = plain.tuple_type s (bare_types ts)
  bare_type (plain.ref_type s l m t) = plain.ref_type s None m (bare_type t)
  bare_type (plain.named_type s x ls) = plain.named_type s x None

  pub bare_types : TypeTrees → TypeTrees
  bare_types plain.no_type = plain.no_type
  bare_types (plain.type_and t ts) = plain.type_and (bare_type t) (bare_types ts)

abbrev pub bare_parameter : Parameter → Parameter
bare_parameter x = record x { typ = bare_type x.typ }

abbrev pub bare_body : Body → Body
bare_body b = changed_body (retyping bare_type) [] [] b

abbrev pub bare_function : Function → Function
bare_function f = record { name = f.name; lifetimes = []; params = map bare_parameter f.params; result = option_map bare_type f.result; body = bare_body f.body }

-- structs and enums keep theirs
abbrev pub bare_item : ItemTree → ItemTree
bare_item (plain.function_item s f) = plain.function_item s (bare_function f)
bare_item (plain.rt_item s r) = plain.rt_item s r
bare_item (plain.struct_item s d) = plain.struct_item s d
bare_item (plain.enum_item s d) = plain.enum_item s d

abbrev pub AlikeButLifetimes : ProgramTree → ProgramTree → Type 0
AlikeButLifetimes p q = map bare_item p ≡ map bare_item q
