-- What the new items of an extraction declare, by its plan and the numbers that the program's items have there (REM, "Extract function";
-- Rust Reference, "Functions", "Enumerations").
use Rattle.std.specs.Prelude.{ℕ, false, if◌then◌else◌, map, Option, Some, None}
use Rattle.rx_tree.specs.Plain.{ProgramTree}
use Rattle.rx_resolve_names.specs.Meant.{number}
use Rattle.rx_typed.specs.Types.{Typ, named, unit_shape, VariantDeclared, Declared, enum_declared, function_declared}
use Rattle.rx_hoist_extraction.specs.Plan.{Leaving, Plan, has_enum, exit_name}
use Rattle.rx_hoist_extraction.specs.Values.{next_values, types_of}
use Rattle.rx_hoist_extraction.specs.NewEnum.{fields_at, enum_positions}
use Rattle.rx_hoist_extraction.specs.NewFunction.{passed_types, joined_type}
use Rattle.rx_engine_blocks.specs.Renumbering.{Renumbering, shape_at}

abbrev pub or_unit : Option Typ → Typ
or_unit None = unit_shape
or_unit (Some t) = t

-- the enum of exits, by its number, where there is one; else the type of what the end of the run hands out
abbrev pub result_type : Renumbering → ℕ → Plan → Typ
result_type r enum pl = if has_enum pl.exits then named enum else shape_at r (or_unit (joined_type (types_of (next_values pl))))

abbrev pub declared_function : Renumbering → ℕ → Plan → Declared
declared_function r enum pl = function_declared (map (shape_at r) (passed_types pl.params)) (result_type r enum pl)

-- an exit hands out these
abbrev pub declared_exit : Renumbering → Plan → Leaving → VariantDeclared
declared_exit r pl x = record { name = exit_name x.exit; parts = map (shape_at r) (fields_at pl x) }

-- the enum is not Copy
abbrev pub declared_enum : Renumbering → ProgramTree → Plan → Declared
declared_enum r P pl = enum_declared false (number (enum_positions P pl)) (map (declared_exit r pl) pl.exits)
