use Rattle.std.proofs.Common.{◌≡◌, ◌≤◌, ◌-◌, length, map}
use Rattle.rx_tree.specs.PlainOf.{plain-Stmt}
use Rattle.rx_parse_expressions.specs.Pieces.{statements_from}
use Rattle.rx_parse_expressions.proofs.level.Level.statements.Given as goal

abbrev pub invariant-loop-turn : goal.invariant-loop-turn
invariant-loop-turn g l = record {
  same : statements_from l.self.below l.fn.start (length l.fn.cursor) (map plain-Stmt l.fn.found.list) l.fn.found.height l.fn.cursor
      ≡ statements_from l.self.below l.fn.start (l._turn-end - l._turn) (map plain-Stmt l.found.list) l.found.height l.cursor;
  low : l.found.height ≤ l.self.below;
}
