use Rattle.std.proofs.Common.{◌≡◌, ◌≤◌, ◌+◌, ◌-◌, length}
use Rattle.rx_tree.specs.PlainOf.{plain-Expr}
use Rattle.rx_parse_grammar.specs.parser.Expressions.{chain}
use Rattle.rx_parse_cursor.specs.GotOf.{got_of}
use Rattle.rx_parse_expressions.specs.Levels.{member_step}
use Rattle.rx_parse_expressions.proofs.members.members.Given as goal

abbrev pub invariant-loop-turn : goal.invariant-loop-turn
invariant-loop-turn l = record {
  same : chain (member_step l.below) (length l.fn.cursor) (got_of plain-Expr l.fn.left) l.fn.cursor
      ≡ chain (member_step l.below) (l._turn-end - l._turn) (got_of plain-Expr l.left) l.cursor;
  low : l.left.height ≤ l.below + 1;
}
