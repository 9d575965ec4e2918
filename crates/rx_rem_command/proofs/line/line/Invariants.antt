-- The words and the numbers so far are written.
use Rattle.std.proofs.Common.{◌≡◌, ◌++◌, take}
use Rattle.std.specs.Prelude.{codes}
use Rattle.rx_rem_command.specs.Lines.{with_numbers}
use Rattle.rx_rem_command.proofs.line.line.Given as goal

abbrev pub invariant-loop-n : goal.invariant-loop-n
invariant-loop-n l = l.line ≡ codes "error: " ++ with_numbers l.words (take l.n-index l.numbers)
