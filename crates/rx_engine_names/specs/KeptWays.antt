-- A way along which no type is written out at a `let` that is passed through (Rust Reference, "let statements"): there the initialiser
-- keeps its place among the children.
use Rattle.std.specs.Prelude.{◌≡◌, ℕ, List, [], ◌∷◌, Option, Some, None, slice_get}
use Rattle.rx_tree.specs.Plain as plain
use Rattle.rx_tree.specs.Plain.{Statement}
use Rattle.rx_tree.specs.Spans.{pattern_span}
use Rattle.rx_tree.specs.Positions.{NodeTree, a_statement, children}
use Rattle.rx_hoist_extraction.specs.Plan.{Pins}
use Rattle.rx_hoist_extraction.specs.Pinned.{at_place}

abbrev pub StaysUntyped : Pins → NodeTree → Type 0
StaysUntyped pins (a_statement (plain.let_statement s p None (plain.present e))) = at_place pins.types (pattern_span p) ≡ None
StaysUntyped pins _ = Unit {0}

abbrev pub KeepsWay : Pins → Option NodeTree → List ℕ → Type 0
KeepsWay pins None ks = Unit {0}
KeepsWay pins (Some n) [] = Unit {0}
KeepsWay pins (Some n) (k ∷ ks) = StaysUntyped pins n × KeepsWay pins (slice_get (children n) k) ks

abbrev pub KeepsMaybe : Option Pins → Option NodeTree → List ℕ → Type 0
KeepsMaybe None n ks = Unit {0}
KeepsMaybe (Some pins) n ks = KeepsWay pins n ks
