-- None so far is the mark.
use Rattle.std.proofs.Common.{◌≡◌, ◌+◌, ◌-◌, ◌≤◌, length, drop}
use Rattle.rx_cert_lines.specs.Reading.{before as before_of}
use Rattle.rx_cert_lines.proofs.word.before.Given as goal

abbrev pub invariant-loop-at : goal.invariant-loop-at
invariant-loop-at l = (l.at + before_of l.mark (drop l.at l.bytes) ≡ before_of l.mark l.bytes) × (l.at ≤ length l.bytes)

abbrev pub decreases-loop-at : goal.decreases-loop-at
decreases-loop-at l = length l.bytes - l.at
