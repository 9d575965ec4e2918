-- The rows of the lifetimes so far.
use Rattle.rx_region.specs.Tables.{sets_of}
use Rattle.rx_cert_sets.specs.Making.{IsPointRow, AllRows}
use Rattle.rx_cert_sets.proofs.making.region_rows.Given as goal

abbrev pub invariant-loop-region : goal.invariant-loop-region
invariant-loop-region l = AllRows (IsPointRow (sets_of l.regions) l.sites l.own) l.region l.rows.items
