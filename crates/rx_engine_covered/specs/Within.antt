-- The matches of a part of a function's tree with numbers (Rust Reference, "Match expressions", "let statements").
use Rattle.std.specs.Prelude.{List, None}
use Rattle.rx_typed.specs.Elaborated.{Assigned, nested, tail}
use Rattle.rx_typed.specs.Named as named
use Rattle.rx_typed.specs.Named.{Body, Else, Statements}
use Rattle.rx_typed.specs.declared.nodes.Node.{Node}
use Rattle.rx_typed.specs.Tree as tree
use Rattle.rx_cover.specs.Choices.{Choice, choices_within}

-- of a block, and of its last statements with its tail, where its node is this
abbrev pub choices_at_end : Assigned → Node → Statements → Else → List Choice
choices_at_end T n ss o = choices_within (nested T ss (tail T n o))

abbrev pub choices_in_body : Assigned → Body → List Choice
choices_in_body T (named.body n ss o) = choices_at_end T n ss o

-- of statements, whatever follows them
abbrev pub choices_in_statements : Assigned → Statements → List Choice
choices_in_statements T ss = choices_within (nested T ss (tree.unit (record { node = 0; typ = None })))
