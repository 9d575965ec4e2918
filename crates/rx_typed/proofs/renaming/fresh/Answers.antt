use Rattle.rx_typed.proofs.Loops.{fresh_turn}
use Rattle.rx_typed.proofs.renaming.fresh.Goals as goal

pub loop-turn-preserved : goal.loop-turn-preserved
loop-turn-preserved c =
    fresh_turn c.args.next c.args.count c.loop-turn.turn c.loop-turn.list c.push.new.self _ c.loop-turn-test.true c.in_ok-push.ensures.ok c.loop-turn.invariant
