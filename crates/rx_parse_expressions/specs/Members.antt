-- What stands on the left, and a member behind it.
use Rattle.std.specs.Prelude.{ℕ}
use Rattle.rx_tree.specs.Plain as plain
use Rattle.rx_tree.specs.Plain.{Expression}
use Rattle.rx_parse_grammar.specs.grammar.Words.{join, ident}
use Rattle.rx_parse_grammar.specs.parser.Steps.{Parser, Got, ◌>>=◌, pure, node}
use Rattle.rx_parse_choices.specs.Members.{MemberTree, field, part, behind}

abbrev pub with_member : Got Expression → MemberTree → Got Expression
with_member l (field n) = node (λ s. plain.field s l.tree (ident n)) (join l.span n.span) l.height
with_member l (part v p) = node (λ s. plain.part s l.tree v) (join l.span p) l.height

-- the grammar's `member`, apart from what the left is needed for
unfoldable pub member : ℕ → Got Expression → Parser (Got Expression)
member b l = behind l.height b >>= (λ m. pure (with_member l m))
