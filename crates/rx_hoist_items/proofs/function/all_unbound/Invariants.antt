use Rattle.std.proofs.Common.{◌≡◌, map, take}
use Rattle.rx_hoist_items.specs.Signatures.{unbound}
use Rattle.rx_hoist_items.proofs.function.all_unbound.Given as goal

abbrev pub invariant-loop-name : goal.invariant-loop-name
invariant-loop-name l =
    l.all ≡ map unbound (take l.name-index l.names)
