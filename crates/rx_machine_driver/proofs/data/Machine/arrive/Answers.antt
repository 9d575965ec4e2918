use Rattle.std.proofs.Common.{refl, subst}
use Rattle.rx_typed.specs.PlainTree.{plain-Expr}
use Rattle.rx_machine_values.specs.PlainMemory.{plain-Memory}
use Rattle.rx_machine_direct.specs.Reaching.{Comes}
use Rattle.rx_machine_direct.specs.PlainReached.{plain-Reached}
use Rattle.rx_machine_driver.proofs.data.Machine.arrive.Goals as goal

pub returns : goal.returns
returns c =
    (refl, subst (λ T. Comes T (plain-Memory c.args.self.now.memory) (plain-Expr c.args.expr.now) (plain-Memory c.reach.new.memory) (plain-Reached c.reach.result)) c.as_slice.ensures.value c.reach.ensures)
