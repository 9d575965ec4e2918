use Rattle.std.proofs.Common.{◌≡◌, ◌≤◌, ◌+◌, Ok}
use Rattle.rx_tree.specs.PlainOf.{plain-Expr}
use Rattle.rx_parse_cursor.specs.GotOf.{got_of}
use Rattle.rx_parse_expressions.specs.Levels as levels
use Rattle.rx_parse_expressions.proofs.level.Level.at_strength.Given as goal

abbrev pub invariant-loop-below : goal.invariant-loop-below
invariant-loop-below g l = record {
  read : levels.at_strength l.self.below l.literals l.below l.fn.cursor ≡ Ok (got_of plain-Expr l.left, l.cursor);
  low : l.left.height ≤ l.self.below + 1;
}
