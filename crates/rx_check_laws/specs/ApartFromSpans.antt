-- Trees with numbers that are one apart from the places of nodes in the text (Rust Reference, "Expressions", "Patterns", "Statements").
use Rattle.rx_typed.specs.Named.{Function}
use Rattle.rx_engine_blocks.specs.Renumbering.{Renumbering}
use Rattle.rx_engine_typing.specs.Renumbered.{no_holes, RenumberedFunction}

-- each number stays
abbrev pub unchanged : Renumbering
unchanged = record { nodes = λ n. n; variables = λ x. x; items = λ i. i }

-- they are one by the same numbers
abbrev pub SameNumbers : Function → Function → Type 0
SameNumbers f g = RenumberedFunction unchanged (λ l. l) no_holes f g
