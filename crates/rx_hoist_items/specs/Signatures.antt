-- The parts of signatures by the names of a row, from number n on (REM, "Extract function"; Rust Reference, "Functions",
-- "Enumerations").
use Rattle.std.specs.Prelude.{ℕ, ◌+◌, ◌&&◌, if◌then◌else◌, List, [], ◌∷◌, ◌++◌, length, drop, map, Option, Some, None, option_map}
use Rattle.rx_core.specs.declared.types.Span.{Span}
use Rattle.rx_tree.specs.declared.tree.Ident.{Ident}
use Rattle.rx_tree.specs.declared.tree.BoundLifetime.{BoundLifetime}
use Rattle.rx_tree.specs.Plain as plain
use Rattle.rx_tree.specs.Plain.{TypeTree, Parameter, Function, VariantOf, Enumeration, Body, ProgramTree}
use Rattle.rx_tree.specs.PlainOf.{types_of as trees_of}
use Rattle.rx_hoist_extraction.specs.Names.{Names}
use Rattle.rx_hoist_extraction.specs.Plan.{Leaving, Param, Plan, enum_name, exit_name, has_enum}
use Rattle.rx_hoist_extraction.specs.Values.{next_values, types_of}
use Rattle.rx_hoist_extraction.specs.Fresh.{fresh_lifetime}
use Rattle.rx_hoist_extraction.specs.Made.{ident}
use Rattle.rx_hoist_extraction.specs.WrittenTypes.{positions, positions_of, lifetimes_from, list_if_any, full, each_full}
use Rattle.rx_hoist_extraction.specs.NewEnum.{fields_at}
use Rattle.rx_hoist_extraction.specs.NewFunction.{passed, is_by_value, joined_type, new_parameters, new_result, parameter_positions, signature_positions, with_bounds}
use Rattle.rx_hoist_made.specs.Rows.{nth_name}

-- ---- the enum

abbrev pub variant : ProgramTree → Plan → Span → (ℕ → List ℕ) → ℕ → Leaving → VariantOf
variant P pl s r n x = record { name = ident s (exit_name x.exit); types = each_full P s r n (fields_at pl x) }

abbrev pub variants : ProgramTree → Plan → Span → (ℕ → List ℕ) → ℕ → List Leaving → List VariantOf
variants P pl s r n [] = []
variants P pl s r n (x ∷ xs) = variant P pl s r n x ∷ variants P pl s r (n + positions_of P (fields_at pl x)) xs

abbrev pub enum_of : ProgramTree → Plan → Span → Names → Enumeration
enum_of P pl s names = record {
  name = ident s (enum_name pl);
  derives = [];
  lifetimes = map (ident s) names;
  variants = variants P pl s (nth_name names) 0 pl.exits;
}

-- ---- the function

abbrev pub parameter : ProgramTree → Span → (ℕ → List ℕ) → ℕ → Param → Parameter
parameter P s r n x = record {
  name = ident s x.variable.name;
  mutable = is_by_value x.mode && (x.moved && x.variable.mutable);
  typ = full P s r n (passed x.mode x.variable.typ);
}

abbrev pub parameters : ProgramTree → Span → (ℕ → List ℕ) → ℕ → List Param → List Parameter
parameters P s r n [] = []
parameters P s r n (x ∷ xs) = parameter P s r n x ∷ parameters P s r (n + positions P (passed x.mode x.variable.typ)) xs

-- nothing, the one type, the tuple of more
abbrev pub joined_trees : Span → List TypeTree → Option TypeTree
joined_trees s [] = None
joined_trees s (t ∷ []) = Some t
joined_trees s (t ∷ u ∷ ts) = Some (plain.tuple_type s (trees_of (t ∷ u ∷ ts)))

-- the enum with all names that are left
abbrev pub enum_type : Plan → Span → Names → TypeTree
enum_type pl s names = plain.named_type s (ident s (enum_name pl)) (list_if_any (lifetimes_from s (nth_name names) 0 (length names)))

abbrev pub result : ProgramTree → Plan → Span → Names → Option TypeTree
result P pl s names =
    if has_enum pl.exits then Some (enum_type pl s names) else option_map (full P s (nth_name names) 0) (joined_type (types_of (next_values pl)))

abbrev pub signature : ProgramTree → Plan → Span → Names → List Parameter × Option TypeTree
signature P pl s names = (parameters P s (nth_name names) 0 pl.params, result P pl s (drop (parameter_positions P pl) names))

-- the new function, by the lifetimes that are copied and its body
abbrev pub function_of : ProgramTree → Plan → Span → List Ident → Body → Function
function_of P pl s copied b = record {
  name = ident s pl.name;
  lifetimes = with_bounds s [] (copied ++ lifetimes_from s (fresh_lifetime pl.lifetimes) 0 (signature_positions P pl));
  params = new_parameters P pl s 0 pl.params;
  result = new_result P pl s (parameter_positions P pl);
  body = b;
}

abbrev pub unbound : Ident → BoundLifetime
unbound l = record { name = l; bounds = [] }
