use Rattle.std.proofs.Common.{◌≡◌, [], map, drop}
use Rattle.rx_tree.specs.PlainOf.{plain-EnumVariant}
use Rattle.rx_resolve_names.specs.Items.{in_variants}
use Rattle.rx_resolve.specs.Walks.{inside, with_tables}
use Rattle.rx_resolve.proofs.walk.Walk.variants.Given as goal

abbrev pub invariant-loop-i : goal.invariant-loop-i
invariant-loop-i l =
    (in_variants (inside l.fn.self) l.fn.self.path l.seen l.i l.child (map plain-EnumVariant (drop l.i l.variants)) l.self.tables
    ≡ in_variants (inside l.fn.self) l.fn.self.path [] 0 0 (map plain-EnumVariant l.fn.variants) l.fn.self.tables)
    × (l.self ≡ with_tables l.self.tables l.fn.self)
