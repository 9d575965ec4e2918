-- One call more is added.
use Rattle.rx_rem_generated.proofs.Growth.{one_call_more}
use Rattle.rx_rem_generated.proofs.text.push_calls.Goals as goal

pub loop-number-preserved : goal.loop-number-preserved
loop-number-preserved c =
    one_call_more c.args.text.now c.loop-number.text c.push_numbered.new.text c.loop-number.number c.loop-number.invariant c.in_ok-push_numbered.ensures
