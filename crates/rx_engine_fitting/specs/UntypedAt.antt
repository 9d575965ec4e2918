-- A fault of types that stands in one function of a program: the names of the program have a meaning, no declaration is wrong, and the function has no
-- valid assignment (Rust Reference, "Type system").
use Rattle.std.specs.Prelude.{ℕ, List, slice_get}
use Rattle.rx_core.specs.declared.types.Span.{Span}
use Rattle.rx_tree.specs.Plain.{Function, ProgramTree}
use Rattle.rx_resolve_names.specs.declared.resolved.ItemNames.{ItemNames}
use Rattle.rx_resolve_names.specs.Causes.{Meant}
use Rattle.rx_typed.specs.Naming.{function_named}
use Rattle.rx_typed.specs.PlainTypes.{declarations}
use Rattle.rx_typed.specs.declared.declarations.Decl.{Decl}
use Rattle.rx_typed_declarations.specs.Sizes.{IsSizes}
use Rattle.rx_typeck_solver.specs.Stepping.{known}
use Rattle.rx_typeck_typed.specs.Programs.{Declares}
use Rattle.rx_typeck_typed.specs.declared.typed.TypeFault.{TypeFault}
use Rattle.rx_typeck_typed.specs.Typing.{entries, variables_at, FunctionUntyped}

-- of its item's number and span, and the function
pub record UntypedAt (p : ProgramTree) (n : ℕ) (s : Span) (f : Function) (e : TypeFault) : Type 0 where
  pub names : List ItemNames
  pub meant : Meant p names
  pub declared : List Decl
  pub declares : Declares p names declared
  pub sizes : List ℕ
  pub is_sizes : IsSizes (declarations declared) sizes
  pub untyped : FunctionUntyped (known declared sizes) (function_named n s f (entries (slice_get names n))) (variables_at (slice_get names n)) e
