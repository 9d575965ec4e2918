use Rattle.std.proofs.Common.{◌≡◌, ◌+◌, drop}
use Rattle.rx_hoist_naming.specs.NamedPlan as spec
use Rattle.rx_hoist_naming.proofs.exits.place_of.Given as goal

-- none of the loops so far is the one
abbrev pub invariant-loop-i : goal.invariant-loop-i
invariant-loop-i l = spec.place_of l.number l.loops ≡ l.i + spec.place_of l.number (drop l.i l.loops)
