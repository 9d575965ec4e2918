use Rattle.std.proofs.Common.{map, refl, ap}
use Rattle.rx_machine_values.specs.PlainValues.{plain-Value}
use Rattle.rx_machine_driver.specs.declared.next.Next.TheVariants as next
use Rattle.rx_machine_driver.specs.declared.next.Work.TheVariants as work
use Rattle.rx_machine_driver.specs.declared.data.Step.TheVariants as step_to
use Rattle.rx_machine_driver.specs.declared.data.Turn.TheVariants as turn_form
use Rattle.rx_machine_driver.proofs.ActLemmas.{leads_next, calls_wait}
use Rattle.rx_machine_driver.proofs.data.Machine.finishes.Goals as goal

pub returns-in_ok-step-in-Makes : goal.returns-in_ok-step-in-Makes
returns-in_ok-step-in-Makes c =
    leads_next c.args.self.now (next.Finishes c.args.work c.args.values) (next.Finishes (work.Makes c.in-Makes.making c.in-Makes.operands) c.args.values) c.args.self.now c.in_ok-step-in-Makes.step
    (ap (λ w. next.Finishes w c.args.values) c.in-Makes.is) c.in_ok-step-in-Makes.ensures

pub returns-in-Calls : goal.returns-in-Calls
returns-in-Calls c =
    leads_next c.args.self.now (next.Finishes c.args.work c.args.values) (next.Finishes (work.Calls c.in-Calls.function) c.args.values) c.args.self.now (step_to.Turn (turn_form.Calls c.in-Calls.function c.args.values))
    (ap (λ w. next.Finishes w c.args.values) c.in-Calls.is)
    (calls_wait c.args.self.now c.in-Calls.function (map plain-Value c.args.values) (turn_form.Calls c.in-Calls.function c.args.values) refl)
