use Rattle.std.proofs.Common.{sym, subst, ◌∙◌}
use Rattle.rx_machine_values.specs.PlainValues.{plain-Value}
use Rattle.rx_machine_values.specs.PlainMemory.{plain-Memory}
use Rattle.rx_machine_actions.specs.PlainActs.{Wrote}
use Rattle.rx_machine_driver.proofs.ActLemmas.{writes_lead, writes_nowhere}
use Rattle.rx_machine_driver.proofs.data.Machine.writes.Goals as goal

pub returns-in_ok-done-in-Some : goal.returns-in_ok-done-in-Some
returns-in_ok-done-in-Some c =
    writes_lead c.args.self.now c.write.new.memory c.args.place.now c.in-Some.slot (plain-Value c.args.value) c.in_ok-done-in-Some.done c.of_write.result (sym c.in-Some.is ∙ c.get.ensures)
    (subst (λ ss. Wrote (plain-Memory c.args.self.now.memory) c.in-Some.slot ss (plain-Value c.args.value) (plain-Memory c.write.new.memory) c.in_ok-done-in-Some.done) c.as_slice.ensures c.in_ok-done-in-Some.ensures)
    c.of_write.ensures

pub returns-in-None : goal.returns-in-None
returns-in-None c = writes_nowhere c.args.self.now c.args.place.now (plain-Value c.args.value) (sym c.in-None.is ∙ c.get.ensures)
