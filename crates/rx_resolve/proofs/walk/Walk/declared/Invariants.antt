use Rattle.std.proofs.Common.{◌≡◌, [], map, drop}
use Rattle.rx_tree.specs.PlainOf.{plain-Field}
use Rattle.rx_resolve_names.specs.Items.{in_declared}
use Rattle.rx_resolve.specs.Walks.{inside, with_tables}
use Rattle.rx_resolve.proofs.walk.Walk.declared.Given as goal

abbrev pub invariant-loop-field : goal.invariant-loop-field
invariant-loop-field l =
    (in_declared (inside l.fn.self) l.fn.self.path l.seen l.child (map plain-Field (drop l.field-index l.fields)) l.self.tables
    ≡ in_declared (inside l.fn.self) l.fn.self.path [] 0 (map plain-Field l.fn.fields) l.fn.self.tables)
    × (l.self ≡ with_tables l.self.tables l.fn.self)
