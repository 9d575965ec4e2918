use Rattle.rx_print_parts.proofs.WrittenLists.{next_written}
use Rattle.rx_splice_edits.proofs.Words.{variables_seen}
use Rattle.rx_splice_edits.proofs.moving.push_names.Goals as goal

pub loop-variable-preserved : goal.loop-variable-preserved
loop-variable-preserved c =
    next_written variables_seen c.loop-variable.follows c.args.variables.now c.loop-variable.variable-index c.variable-item.result c.loop-variable.out
    c.push_next.new.out _
    c.loop-variable-test.true c.variable-item.is c.in_ok-push_next.ensures c.loop-variable.invariant
