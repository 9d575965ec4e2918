use Rattle.std.proofs.Common.{◌≡◌, map, drop}
use Rattle.rx_tree.specs.PlainOf.{plain-Item}
use Rattle.rx_compact_call.specs.Named.{function_named}
use Rattle.rx_compact_call.proofs.named.function_named.Given as goal

abbrev pub invariant-loop-number : goal.invariant-loop-number
invariant-loop-number l = function_named l.name l.number (map plain-Item (drop l.number l.items)) ≡ function_named l.name 0 (map plain-Item l.items)
