use Rattle.std.proofs.Common.{◌≡◌, ◌-◌, ◌≤◌, length, drop}
use Rattle.rx_lex.specs.Scan.{line_rest}
use Rattle.rx_lex.proofs.scan.line_length.Given as goal

abbrev pub invariant-loop-at : goal.invariant-loop-at
invariant-loop-at l = (line_rest (drop l.at l.rest) ≡ line_rest l.rest) × (l.at ≤ length l.rest)

abbrev pub decreases-loop-at : goal.decreases-loop-at
decreases-loop-at l = length l.rest - l.at
