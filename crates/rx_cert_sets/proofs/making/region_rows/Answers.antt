-- The row of the next lifetime is there.
use Rattle.std.proofs.Common.{refl}
use Rattle.rx_region.specs.Tables.{sets_of}
use Rattle.rx_cert_sets.specs.Making.{IsPointRow}
use Rattle.rx_cert_sets.proofs.Filled.{rows_more}
use Rattle.rx_cert_sets.proofs.making.region_rows.Goals as goal

pub loop-region-preserved : goal.loop-region-preserved
loop-region-preserved c =
    rows_more (IsPointRow (sets_of c.args.regions.now) c.args.sites c.args.own) c.loop-region.region _ c.loop-region.rows.items c.push.new.self.items
    c.in_ok-region_row.field-0 refl c.in_ok-region_row.ensures c.in_ok-push.ensures.items c.loop-region.invariant
