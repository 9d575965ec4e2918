use Rattle.std.proofs.Common.{◌≡◌, map, take}
use Rattle.rx_modes_policy.specs.declared.uses.Uses.{Uses}
use Rattle.rx_modes.proofs.choosing.moved.Given as goal

abbrev pub invariant-loop-one : goal.invariant-loop-one
invariant-loop-one l = l.all.items ≡ map (λ (u : Uses). u.moved) (take l.one-index l.uses)
