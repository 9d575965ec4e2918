use Rattle.std.proofs.Common.{◌≡◌, ◌≤◌, ◌+◌, ◌-◌, length}
use Rattle.rx_tree.specs.PlainOf.{plain-Expr}
use Rattle.rx_parse_grammar.specs.parser.Expressions as spec
use Rattle.rx_parse_cursor.specs.GotOf.{got_of}
use Rattle.rx_parse_choices.specs.Rows.{turns}
use Rattle.rx_parse_expressions.specs.Levels.{binary_step}
use Rattle.rx_parse_expressions.proofs.level.Level.chain.Given as goal

abbrev pub invariant-loop-turn : goal.invariant-loop-turn
invariant-loop-turn g l = record {
  same : spec.chain (binary_step l.self.below l.literals (l.strength - 1)) (turns (l.strength - 1) (length l.fn.cursor)) (got_of plain-Expr l.fn.left) l.fn.cursor
      ≡ spec.chain (binary_step l.self.below l.literals (l.strength - 1)) (l._turn-end - l._turn) (got_of plain-Expr l.left) l.cursor;
  low : l.left.height ≤ l.self.below + 1;
}
