use Rattle.std.proofs.Common.{◌≡◌, ◌≤◌, ◌-◌, length, map}
use Rattle.rx_tree.specs.PlainOf.{plain-Arm}
use Rattle.rx_parse_expressions.specs.Arms.{arms_from}
use Rattle.rx_parse_expressions.proofs.level.Level.arms.Given as goal

abbrev pub invariant-loop-turn : goal.invariant-loop-turn
invariant-loop-turn g l = record {
  same : arms_from l.self.below (length l.fn.cursor) (map plain-Arm l.fn.found.list) l.fn.found.height l.fn.cursor
      ≡ arms_from l.self.below (l._turn-end - l._turn) (map plain-Arm l.found.list) l.found.height l.cursor;
  low : l.found.height ≤ l.self.below;
}
