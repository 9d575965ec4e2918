use Rattle.std.proofs.Common.{◌≡◌, take}
use Rattle.rx_hoist_extraction.specs.Fresh.{left_out, row}
use Rattle.rx_hoist_made.proofs.names.fresh_names.Given as goal

abbrev pub invariant-loop-number : goal.invariant-loop-number
invariant-loop-number l =
    l.names ≡ take l.many (left_out l.taken (row l.word 0 l.number))
