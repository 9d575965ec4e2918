-- What the row holds, and what is left of the items, are the whole.
use Rattle.std.proofs.Common.{drop}
use Rattle.rx_cert_tables.proofs.Filled.{Filling}
use Rattle.rx_cert_tables.proofs.reading.row_of.Given as goal

abbrev pub invariant-loop-item : goal.invariant-loop-item
invariant-loop-item l = Filling l.sites l.own l.items (drop l.item-index l.items) l.row
