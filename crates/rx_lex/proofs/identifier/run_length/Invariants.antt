use Rattle.std.proofs.Common.{◌-◌, length}
use Rattle.rx_lex.proofs.NameTests.{Read}
use Rattle.rx_lex.proofs.identifier.run_length.Given as goal

abbrev pub invariant-loop-length : goal.invariant-loop-length
invariant-loop-length l = Read l.at l.rest

abbrev pub decreases-loop-length : goal.decreases-loop-length
decreases-loop-length l = length l.rest - l.at
