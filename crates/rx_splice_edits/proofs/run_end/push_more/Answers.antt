use Rattle.rx_splice_edits.proofs.EndLemmas.{more_step}
use Rattle.rx_splice_edits.proofs.run_end.push_more.Goals as goal

pub loop-variable-preserved : goal.loop-variable-preserved
loop-variable-preserved c =
    more_step c.args.variables.now c.loop-variable.variable-index c.variable-item.result c.loop-variable.out c.push_next.new.out _
    c.loop-variable-test.true c.variable-item.is c.in_ok-push_next.ensures c.loop-variable.invariant
