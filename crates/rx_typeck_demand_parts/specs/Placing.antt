-- What a place asks where it stands.
use Rattle.std.specs.Prelude.{List}
use Rattle.rx_typeck_solver.specs.declared.facts.Passing.{Passing}
use Rattle.rx_typeck_elaborate_parts.specs.declared.seen.Seen.{Seen}
use Rattle.rx_typeck_typed.specs.Asking.{Asking, when}
use Rattle.rx_typeck_typed.specs.Demands.{place_in}

-- what a place asks where it stands, with the dereferences that it goes through
abbrev pub placed : Seen → List Passing → Asking
placed s ps = when s.place (place_in s.node s.root.number ps s.node.site)
