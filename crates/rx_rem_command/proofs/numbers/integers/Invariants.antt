-- What is made, and the numbers among the rest, are the numbers among all.
use Rattle.std.proofs.Common.{◌≡◌, ◌++◌, drop}
use Rattle.rx_rem_command.specs.Numbers.{integers_among}
use Rattle.rx_rem_command.proofs.numbers.integers.Given as goal

abbrev pub invariant-loop-word : goal.invariant-loop-word
invariant-loop-word l = l.all.items ++ integers_among (drop l.word-index l.words) ≡ integers_among l.words
