use Rattle.rx_typed.specs.PlainTree.{plain-Expr}
use Rattle.rx_machine_values.specs.PlainValues.{plain-Value}
use Rattle.rx_machine_direct.specs.PlainReached.{plain-Reached}
use Rattle.rx_machine_driver.proofs.ReachLemmas.{part_given, part_pushed}
use Rattle.rx_machine_driver.proofs.data.Machine.goes_into_part.Goals as goal

pub returns-in_ok-next-in-Some : goal.returns-in_ok-next-in-Some
returns-in_ok-next-in-Some c =
    part_given c.args.self.now c.args.hole (plain-Expr c.args.expr.now) c.arrive-reached.new.self (plain-Reached c.arrive-reached.result) (plain-Value c.in-Some.value) c.in_ok-next-in-Some.next
    c.arrive-reached.ensures c.in-Some.ensures.some c.in_ok-next-in-Some.ensures

pub returns-in_ok-push-in-None : goal.returns-in_ok-push-in-None
returns-in_ok-push-in-None c =
    part_pushed c.args.self.now c.args.hole (plain-Expr c.args.expr.now) c.arrive-reached.new.self (plain-Reached c.arrive-reached.result) c.push.new.self c.begun.result
    c.arrive-reached.ensures c.begun.ensures c.in_ok-push-in-None.ensures.ok
