-- An end point more, where it is held.
use Rattle.std.proofs.Common.{refl, arith}
use Rattle.rx_cert_tables.proofs.Runs.{end_told}
use Rattle.rx_cert_tables.proofs.collecting.points.Goals as goal

pub loop-end-preserved : goal.loop-end-preserved
loop-end-preserved c =
    end_told c.args.row.now c.args.sites c.loop-end.end _ refl c.loop-end.items.items _ c.holds.result (omega (arith, c.ranges.own.fits, c.loop-end-test.true))
    c.holds.ensures c.in_ok-push_end.ensures c.loop-end.invariant
