-- A function of a program has types: whatever the names of the program mean and whatever it declares, with any table of the parts of its structs and
-- enums, the function has a valid assignment (Rust Reference, "Type system").
use Rattle.std.specs.Prelude.{ℕ, List, slice_get}
use Rattle.rx_core.specs.declared.types.Span.{Span}
use Rattle.rx_tree.specs.Plain.{Function, ProgramTree}
use Rattle.rx_resolve_names.specs.declared.resolved.ItemNames.{ItemNames}
use Rattle.rx_resolve_names.specs.Causes.{Meant}
use Rattle.rx_typed.specs.Naming.{function_named}
use Rattle.rx_typed.specs.PlainTypes.{declarations}
use Rattle.rx_typed.specs.declared.declarations.Decl.{Decl}
use Rattle.rx_typed_declarations.specs.Sizes.{IsSizes}
use Rattle.rx_typeck_solver.specs.Facts.{Assignment}
use Rattle.rx_typeck_solver.specs.Stepping.{known}
use Rattle.rx_typeck_solver.specs.Valid.{Valid}
use Rattle.rx_typeck_typed.specs.Demands.{task}
use Rattle.rx_typeck_typed.specs.Programs.{Declares}
use Rattle.rx_typeck_typed.specs.Typing.{entries}

-- of its item's number and span, and the function
abbrev pub HasTypes : ProgramTree → ℕ → Span → Function → Type 0
HasTypes p n s f = (names : List ItemNames) → Meant p names → (ds : List Decl) → Declares p names ds → (sizes : List ℕ) → IsSizes (declarations ds) sizes
    → (A : Assignment) × Valid (known ds sizes) (task (function_named n s f (entries (slice_get names n)))) A
