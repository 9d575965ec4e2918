use Rattle.std.proofs.Common.{refl}
use Rattle.rx_typeck_solver.proofs.Looking as looking
use Rattle.rx_typeck_solver.proofs.looks.is_as_long.Goals as goal

pub returns-then-left-eq0 : goal.returns-then-left-eq0
returns-then-left-eq0 c = looking.longer c.args.arena.now.entries.items c.requires.formed c.loop-others.at c.form.result c.loop-others.invariant.0 c.form.ensures c.in-And.field-0 c.in-And.others c.loop-others.left _ c.in-And.is c.if-left-eq0.true c.loop-others.invariant.1

pub loop-others-preserved : goal.loop-others-preserved
loop-others-preserved c = looking.as_long_more c.args.arena.now.entries.items c.requires.formed c.loop-others.at c.form.result c.loop-others.invariant.0 c.form.ensures c.in-And.field-0 c.in-And.others c.loop-others.left _ c.in-And.is c.if-left-eq0.false c.loop-others.invariant.1

pub returns : goal.returns
returns c = looking.as_long_end c.args.arena.now.entries.items c.requires.formed c.loop-others.at c.form.result c.loop-others.invariant.0 c.form.ensures c.loop-others.left _ _ (λ j k. c.in_default.not-And j k) refl c.loop-others.invariant.1
