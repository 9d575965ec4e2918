-- A part of a program that has no block at a place (Rust Reference, "Block expressions").
use Rattle.std.specs.Prelude.{◌≡◌, false, ⊤}
use Rattle.rx_core.specs.declared.types.Span.{Span}
use Rattle.rx_tree.specs.Plain.{Expression, Body}
use Rattle.rx_tree.specs.Lists.{Every}
use Rattle.rx_tree.specs.Nodes.{below_expression, below_block}
use Rattle.rx_tree.specs.Positions.{NodeTree, a_block}
use Rattle.rx_tree.specs.Spans.{body_span}
use Rattle.rx_hoist_extraction.specs.Run.{same_place}

abbrev pub IsElsewhere : Span → NodeTree → Type 0
IsElsewhere place (a_block b) = same_place place (body_span b) ≡ false
IsElsewhere place _ = ⊤

abbrev pub ExpressionElsewhere : Span → Expression → Type 0
ExpressionElsewhere place e = Every (IsElsewhere place) (below_expression e)

abbrev pub BlockElsewhere : Span → Body → Type 0
BlockElsewhere place b = IsElsewhere place (a_block b) × Every (IsElsewhere place) (below_block b)
