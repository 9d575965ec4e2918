use Rattle.std.proofs.Common.{◌≡◌, ℕ, suc, ◌-◌, length}
use Rattle.rx_machine_direct.specs.Direct.{recorded}
use Rattle.rx_machine_driver.proofs.slots.Slots.reach.Given as goal

abbrev pub invariant-loop-self : goal.invariant-loop-self
invariant-loop-self l = (x : ℕ) → recorded l.self.table.items x ≡ recorded l.fn.self.table.items x

abbrev pub decreases-loop-self : goal.decreases-loop-self
decreases-loop-self l = suc l.variable - length l.self.table.items
