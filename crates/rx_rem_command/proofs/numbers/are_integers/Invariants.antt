-- The words so far are integers, so all are where the rest is.
use Rattle.std.proofs.Common.{◌≡◌, drop}
use Rattle.std.specs.Option.{is_some}
use Rattle.rx_rem_command.specs.Numbers.{integers_of}
use Rattle.rx_rem_command.proofs.numbers.are_integers.Given as goal

abbrev pub invariant-loop-word : goal.invariant-loop-word
invariant-loop-word l = is_some (integers_of (drop l.word-index l.words)) ≡ is_some (integers_of l.words)
