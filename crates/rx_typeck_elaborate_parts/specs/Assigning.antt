-- The assignment of types that tables of types stand for.
use Rattle.std.specs.Prelude.{Option, Some, None, slice_get}
use Rattle.rx_core.specs.declared.types.Ty.{Ty}
use Rattle.rx_typed.specs.declared.declarations.Decls.{Decls}
use Rattle.rx_typed.specs.Types.{Typ, unit_shape}
use Rattle.rx_typed.specs.PlainTypes.{plain-Ty, declarations}
use Rattle.rx_typed.specs.Elaborated.{Assigned}
use Rattle.rx_typeck_elaborate_parts.specs.declared.assigned.NodeTypes.{NodeTypes}

abbrev pub joined : {A : Type 0} → Option (Option A) → Option A
joined (Some o) = o
joined None = None

-- the type without lifetimes; the unit where there is none
abbrev pub shape_of : Option Ty → Typ
shape_of (Some t) = plain-Ty t
shape_of None = unit_shape

-- the types of nodes by their numbers
unfoldable pub assigned : Decls → NodeTypes → Assigned
assigned d ts = record {
  items = declarations d.items;
  typ = λ n. shape_of (joined (slice_get ts.nodes n));
  expected = λ n. shape_of (joined (slice_get ts.expected n));
}
