use Rattle.rx_typed.specs.PlainTree.{plain-Expr}
use Rattle.rx_machine_values.specs.PlainMemory.{plain-Memory}
use Rattle.rx_machine_frames.specs.Sizes.{size}
use Rattle.rx_machine_direct.specs.Reaching.{into, Comes}
use Rattle.rx_machine_direct.proofs.reaching.reach.Given as goal

abbrev pub invariant-loop-next : goal.invariant-loop-next
invariant-loop-next l = Comes l.fn.slots (plain-Memory l.fn.memory) (plain-Expr l.fn.expr) (plain-Memory l.memory) (into (plain-Expr l.now))

abbrev pub decreases-loop-next : goal.decreases-loop-next
decreases-loop-next l = size (plain-Expr l.now)
