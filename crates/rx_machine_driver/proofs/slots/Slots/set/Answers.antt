use Rattle.std.proofs.Common.{Some, nat_eq, if◌then◌else◌, ap, ◌∙◌}
use Rattle.rx_machine_driver.proofs.SlotLemmas.{recorded_set}
use Rattle.rx_machine_driver.proofs.slots.Slots.set.Goals as goal

pub returns : goal.returns
returns c = λ x.
    recorded_set c.reach.new.self.table.items c.args.variable c.args.slot x c.in_ok-reach.ensures.room
    ∙ ap (λ o. if nat_eq x c.args.variable then Some c.args.slot else o) (c.in_ok-reach.ensures.same x)
