-- The lines so far have their rows.
use Rattle.std.proofs.Common.{take}
use Rattle.rx_cert_tables.specs.Filling.{AreRowsOf}
use Rattle.rx_cert_tables.proofs.reading.rows.Given as goal

abbrev pub invariant-loop-line : goal.invariant-loop-line
invariant-loop-line l = AreRowsOf l.sites l.own (take l.line-index l.lines) l.all.items
