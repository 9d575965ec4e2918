use Rattle.std.proofs.Common.{◌≡◌, map, take}
use Rattle.rx_tree.specs.Plain as plain
use Rattle.rx_tree.specs.PlainOf.{plain-Expr}
use Rattle.rx_hoist_made.proofs.made.all_variables.Given as goal

abbrev pub invariant-loop-name : goal.invariant-loop-name
invariant-loop-name l =
    map plain-Expr l.all ≡ map (plain.var l.span) (take l.name-index l.names)
