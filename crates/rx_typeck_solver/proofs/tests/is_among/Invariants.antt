use Rattle.std.proofs.Common.{◌≡◌, drop}
use Rattle.rx_typeck_solver.specs.Facts.{is_among}
use Rattle.rx_typeck_solver.proofs.tests.is_among.Given as goal

abbrev pub invariant-loop-other : goal.invariant-loop-other
invariant-loop-other l = is_among l.name (drop l.other-index l.names) ≡ is_among l.name l.fn.names
