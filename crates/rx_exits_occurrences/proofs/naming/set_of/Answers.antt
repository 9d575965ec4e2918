use Rattle.rx_exits_occurrences.proofs.NamingLemmas.{set_begun, set_turn}
use Rattle.rx_exits_occurrences.proofs.naming.set_of.Goals as goal

pub loop-i-preserved : goal.loop-i-preserved
loop-i-preserved c = set_turn c.args.numbers.now c.loop-i.i 0 c.loop-i.all.keys c.add.new.numbers.keys _ c.loop-i-test.true c.in_ok-add.ensures c.loop-i.invariant

pub loop-i-init : goal.loop-i-init
loop-i-init c = set_begun c.args.numbers.now c.new-all.result.keys c.new-all.ensures.empty
