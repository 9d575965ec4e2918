use Rattle.std.proofs.Common.{◌≡◌, map, take}
use Rattle.rx_modes.proofs.choosing.chosen.Given as goal

abbrev pub invariant-loop-i : goal.invariant-loop-i
invariant-loop-i g l = l.all.items ≡ map (g.P.Policy.choice l.policy) (take l.i l.uses)
