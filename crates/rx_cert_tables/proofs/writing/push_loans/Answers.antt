-- The line of the next borrow is added.
use Rattle.std.proofs.Common.{arith}
use Rattle.rx_cert_tables.proofs.Placed.{loans_next, loans_taken}
use Rattle.rx_cert_tables.proofs.writing.push_loans.Goals as goal

pub loop-at-preserved : goal.loop-at-preserved
loop-at-preserved c =
    loans_next c.args.shape.now c.args.rows.now c.loop-at.at c.in-Some.borrow.now c.index-rows-at.result c.in_ok-line-in-Some.line c.args.text.now c.loop-at.text
    c.push_line.new.text c.loop-at-test.true c.requires c.in-Some.ensures.value c.index-rows-at.is c.in_ok-line-in-Some.ensures c.in_ok-push_line-in-Some.ensures
    c.loop-at.invariant

pub returns : goal.returns
returns c =
    loans_taken c.args.shape.now c.args.rows.now c.loop-at.at c.args.text.now c.loop-at.text (omega (arith, c.loop-at-test.false)) c.requires c.loop-at.invariant
