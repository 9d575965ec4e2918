use Rattle.rx_typeck_solver.proofs.ListReads.{through_turn, through_end}
use Rattle.rx_typeck_solver.proofs.reading.through.Goals as goal

pub loop-mutable-preserved : goal.loop-mutable-preserved
loop-mutable-preserved c = through_turn c.args.arena.now.entries.items c.requires.formed.0 c.loop-mutable.at c.in-Reference.to c.form.result c.in-Reference.mutable c.loop-mutable.sum c.both-sum.result _ c.requires.formed.1 c.loop-mutable.invariant.0 c.form.ensures c.in-Reference.is c.both-sum.ensures c.loop-mutable.invariant.1

pub returns : goal.returns
returns c = through_end c.args.arena.now.entries.items c.requires.formed.0 c.loop-mutable.at c.form.result c.loop-mutable.sum _ c.requires.formed.1 c.loop-mutable.invariant.0 c.form.ensures (λ m j. c.in_default.not-Reference m j) c.loop-mutable.invariant.1
