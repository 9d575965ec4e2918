-- The line of the next row is added.
use Rattle.std.proofs.Common.{arith}
use Rattle.rx_cert_tables.proofs.Placed.{regions_next, regions_taken}
use Rattle.rx_cert_tables.proofs.writing.push_regions.Goals as goal

pub loop-row-preserved : goal.loop-row-preserved
loop-row-preserved c =
    regions_next c.args.shape.now c.args.rows.now c.loop-row.row-index c.row-item.result c.in_ok-line.line c.args.text.now c.loop-row.text c.push_line.new.text
    c.loop-row-test.true c.row-item.is c.in_ok-line.ensures c.in_ok-push_line.ensures c.loop-row.invariant

pub returns : goal.returns
returns c = regions_taken c.args.shape.now c.args.rows.now c.loop-row.row-index c.args.text.now c.loop-row.text (omega (arith, c.loop-row-test.false)) c.loop-row.invariant
