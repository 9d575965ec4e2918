-- The typed tree that a function's tables of types make of the text.
use Rattle.std.specs.Prelude.{◌≡◌, List, Some, slice_get}
use Rattle.rx_core.specs.declared.types.Span.{Span}
use Rattle.rx_tree.specs.Plain as plain
use Rattle.rx_tree.specs.Plain.{ProgramTree}
use Rattle.rx_resolve_names.specs.declared.resolved.ItemNames.{ItemNames}
use Rattle.rx_typed.specs.Types.{Declarations}
use Rattle.rx_typed.specs.Naming.{function_named}
use Rattle.rx_typed.specs.Elaborated.{Assigned, elaborated}
use Rattle.rx_typed.specs.PlainTree.{plain-TypedTree}
use Rattle.rx_typeck_elaborate_parts.specs.Assigning.{shape_of}
use Rattle.rx_typeck_solver.specs.declared.facts.Subject.TheVariants as subject
use Rattle.rx_typeck_typed.specs.Typing.{entries, type_at}
use Rattle.rx_typeck_typed.specs.declared.typed.TypedFn.{TypedFn}

-- the types of its tables; the unit, where they have none. So the coercion of a node's type to the one that its place
-- expects is the one that `TypedFn::coercion` reads (`coercion_at`)
abbrev pub of_tables : Declarations → TypedFn → Assigned
of_tables D f = record {
  items = D;
  typ = λ n. shape_of (type_at f (subject.Node n));
  expected = λ n. shape_of (type_at f (subject.Expected n));
}

-- its item is a function of the text, and its tree is that of this function with these types
pub record IsOfTables (p : ProgramTree) (names : List ItemNames) (D : Declarations) (f : TypedFn) : Type 0 where
  pub span : Span
  pub function : plain.Function
  pub stands : slice_get p f.item ≡ Some (plain.function_item span function)
  pub tree : plain-TypedTree f.tree
      ≡ elaborated (of_tables D f) (function_named f.item span function (entries (slice_get names f.item)))
