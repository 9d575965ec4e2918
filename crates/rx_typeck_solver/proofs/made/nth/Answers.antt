use Rattle.rx_typeck_solver.proofs.Making as making
use Rattle.rx_typeck_solver.proofs.Making.{made_grown, made_old, made_new, made_equal}
use Rattle.rx_typeck_solver.proofs.made.nth.Goals as goal

pub returns-then-left-eq0 : goal.returns-then-left-eq0
returns-then-left-eq0 c = making.nth_here c.args.arena.now.entries.items c.requires.formed c.loop-first.at c.form.result c.loop-first.invariant.0 c.form.ensures c.in-And.first c.in-And.others c.loop-first.left _ c.in-And.is c.if-left-eq0.true c.loop-first.invariant.1

pub loop-first-preserved : goal.loop-first-preserved
loop-first-preserved c = making.nth_more c.args.arena.now.entries.items c.requires.formed c.loop-first.at c.form.result c.loop-first.invariant.0 c.form.ensures c.in-And.first c.in-And.others c.loop-first.left _ c.in-And.is c.if-left-eq0.false c.loop-first.invariant.1

pub returns : goal.returns
returns c = making.nth_end c.args.arena.now.entries.items c.requires.formed c.loop-first.at c.form.result c.loop-first.invariant.0 c.form.ensures c.loop-first.left _ (λ j k. c.in_default.not-And j k) c.loop-first.invariant.1
