use Rattle.std.proofs.Common.{◌≡◌, ◌-◌, ◌≤◌, length, drop}
use Rattle.rx_lex.specs.Scan.{block_rest}
use Rattle.rx_lex.proofs.scan.block_length.Given as goal

abbrev pub invariant-loop-at : goal.invariant-loop-at
invariant-loop-at l = (block_rest l.depth (drop l.at l.rest) ≡ block_rest 0 l.rest) × (l.at ≤ length l.rest) × (l.depth ≤ l.at)

abbrev pub decreases-loop-at : goal.decreases-loop-at
decreases-loop-at l = length l.rest - l.at
