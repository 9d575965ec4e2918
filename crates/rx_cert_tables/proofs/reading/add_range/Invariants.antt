-- The numbers so far are added.
use Rattle.rx_cert_tables.specs.Filling.{Ranged}
use Rattle.rx_cert_tables.proofs.reading.add_range.Given as goal

abbrev pub invariant-loop-number : goal.invariant-loop-number
invariant-loop-number l = Ranged l.fn.row l.row l.first l.number
