use Rattle.std.proofs.Common.{refl}
use Rattle.rx_machine_values.specs.PlainValues.{plain-Value}
use Rattle.rx_machine_direct.specs.PlainReached.{plain-Reached}
use Rattle.rx_machine_driver.specs.declared.data.Turn.TheVariants as turn_form
use Rattle.rx_machine_driver.proofs.ReachLemmas.{pass_given, pass_pushed}
use Rattle.rx_machine_driver.proofs.data.Machine.pass.Goals as goal

pub returns-in-Some : goal.returns-in-Some
returns-in-Some c = λ P.
    pass_given c.args.self.now c.args.mark c.args.number c.args.body c.arrive-reached.new.self (plain-Reached c.arrive-reached.result) (plain-Value c.in-Some.value) (turn_form.Loops c.args.mark c.args.number c.args.body)
    c.arrive-reached.ensures c.in-Some.ensures.some refl P

pub returns-in_ok-push-in-None : goal.returns-in_ok-push-in-None
returns-in_ok-push-in-None c = λ P.
    pass_pushed c.args.self.now c.args.mark c.args.number c.args.body c.arrive-reached.new.self (plain-Reached c.arrive-reached.result) c.push.new.self c.begun.result
    c.arrive-reached.ensures c.begun.ensures c.in_ok-push-in-None.ensures.ok P
