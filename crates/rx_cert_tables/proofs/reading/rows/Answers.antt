-- The next line has its row.
use Rattle.std.proofs.Common.{arith}
use Rattle.rx_cert_tables.proofs.Filled.{rows_next, rows_taken}
use Rattle.rx_cert_tables.proofs.reading.rows.Goals as goal

pub loop-line-preserved : goal.loop-line-preserved
loop-line-preserved c =
    rows_next c.args.sites c.args.own c.args.lines.now c.loop-line.all.items c.push.new.self.items c.line-item.result c.as_slice.result.now c.in_ok-row_of.field-0
    c.loop-line.line-index c.loop-line-test.true c.line-item.is c.as_slice.ensures c.in_ok-row_of.ensures c.in_ok-push.ensures.items c.loop-line.invariant

pub returns : goal.returns
returns c =
    rows_taken c.args.sites c.args.own c.args.lines.now c.loop-line.all.items c.from_vec.result c.loop-line.line-index (omega (arith, c.loop-line-test.false))
    c.from_vec.ensures c.loop-line.invariant
