use Rattle.std.proofs.Common.{◌≡◌, ◌+◌, ◌-◌, ◌≤◌, length, drop}
use Rattle.rx_lex.specs.Digits.{body_length as body_length_of}
use Rattle.rx_lex.proofs.numeral.body_length.Given as goal

abbrev pub invariant-loop-at : goal.invariant-loop-at
invariant-loop-at l = (l.at + body_length_of (drop l.at l.word) ≡ body_length_of l.word) × (l.at ≤ length l.word)

abbrev pub decreases-loop-at : goal.decreases-loop-at
decreases-loop-at l = length l.word - l.at
