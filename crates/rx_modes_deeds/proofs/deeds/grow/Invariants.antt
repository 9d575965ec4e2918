use Rattle.std.proofs.Common.{◌≡◌, ◌-◌, ◌+◌, length}
use Rattle.rx_modes_deeds.specs.Doings.{deeds_at}
use Rattle.rx_modes_deeds.proofs.deeds.grow.Given as goal

abbrev pub invariant-grow : goal.invariant-grow
invariant-grow l = deeds_at l.table.items ≡ deeds_at l.fn.table.items

abbrev pub decreases-grow : goal.decreases-grow
decreases-grow l = l.variable + 1 - length l.table.items
