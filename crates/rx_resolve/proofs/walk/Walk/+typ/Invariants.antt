use Rattle.std.proofs.Common.{◌≡◌, map, drop}
use Rattle.rx_tree.specs.PlainOf.{plain-TypeText, types_of}
use Rattle.rx_resolve_names.specs.Names.{in_types, behind}
use Rattle.rx_resolve.specs.Walks.{inside, with_tables}
use Rattle.rx_resolve.proofs.walk.Walk.+typ.Given as goal

abbrev pub invariant-types-loop-typ : goal.invariant-types-loop-typ
invariant-types-loop-typ l =
    (in_types (inside l.fn.self) l.fn.self.path l.child (types_of (map plain-TypeText (drop l.typ-index l.types))) l.self.tables
    ≡ in_types (inside l.fn.self) l.fn.self.path l.fn.first (types_of (map plain-TypeText l.fn.types)) l.fn.self.tables)
    × (l.self ≡ with_tables l.self.tables l.fn.self)
    × (behind l.child (types_of (map plain-TypeText (drop l.typ-index l.types))) ≡ behind l.fn.first (types_of (map plain-TypeText l.fn.types)))
