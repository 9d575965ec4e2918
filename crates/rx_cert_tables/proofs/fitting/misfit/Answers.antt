-- The line at the next place fits, or is the first that doesn't.
use Rattle.std.proofs.Common.{◌≡◌, true, length, sym, ◌∙◌, arith, rules}
use Rattle.rx_cert_tables.proofs.Placed.{fits_next, missing_end}
use Rattle.rx_cert_tables.proofs.fitting.misfit.Goals as goal

pub loop-at-preserved : goal.loop-at-preserved
loop-at-preserved c = let e : c.fits_at.result ≡ true = search rules in
    fits_next c.args.shape.now c.args.lines.now c.loop-at.at c.index-lines-at.result c.loop-at-test.true c.index-lines-at.is c.loop-at.invariant (sym c.fits_at.ensures ∙ e)

pub returns-else-is_past-2 : goal.returns-else-is_past-2
returns-else-is_past-2 c =
    missing_end c.args.shape.now c.args.lines.now (length c.args.lines.now) c.if-is_past-2.ensures (omega arith)
    (λ k h. c.loop-at.invariant k (omega (arith, h, c.loop-at-test.false)))
