use Rattle.rx_typed.specs.PlainTree.{plain-Expr}
use Rattle.rx_machine_direct.specs.PlainReached.{plain-Reached}
use Rattle.rx_machine_driver.proofs.ReachLemmas.{arrives_next}
use Rattle.rx_machine_driver.proofs.data.Machine.goes_into.Goals as goal

pub returns : goal.returns
returns c = arrives_next c.args.self.now (plain-Expr c.args.expr.now) c.arrive-reached.new.self (plain-Reached c.arrive-reached.result) c.begun.result c.arrive-reached.ensures c.begun.ensures
