use Rattle.rx_modes.proofs.Living.{told_here, told_next, told_nowhere}
use Rattle.rx_modes.proofs.known.is_live_out.Goals as goal

pub returns-then-is_live_behind : goal.returns-then-is_live_behind
returns-then-is_live_behind c A params living = told_here A params c.args.variable c.args.exits.now c.loop-exit.exit-index c.exit-item.result c.is_live_behind.result
    c.loop-exit-test.true c.exit-item.is c.if-is_live_behind.true (c.is_live_behind.ensures A params living)

pub loop-exit-preserved : goal.loop-exit-preserved
loop-exit-preserved c A params living h = told_next A params c.args.variable c.args.exits.now c.loop-exit.exit-index c.exit-item.result c.is_live_behind.result
    c.loop-exit-test.true c.exit-item.is c.if-is_live_behind.false (c.is_live_behind.ensures A params living) (c.loop-exit.invariant A params living h)

pub returns : goal.returns
returns c A params living = told_nowhere A params c.args.variable c.args.exits.now c.loop-exit.exit-index c.loop-exit-test.false (c.loop-exit.invariant A params living)
