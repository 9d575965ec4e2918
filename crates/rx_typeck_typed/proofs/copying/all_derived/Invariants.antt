use Rattle.std.proofs.Common.{◌≡◌, map, drop}
use Rattle.rx_tree.specs.PlainOf.{plain-Item}
use Rattle.rx_typed.specs.PlainTypes.{declarations}
use Rattle.rx_typeck_typed.specs.Programs.{all_derived}
use Rattle.rx_typeck_typed.proofs.copying.all_derived.Given as goal

abbrev pub invariant-loop-i : goal.invariant-loop-i
invariant-loop-i l = all_derived (declarations l.decls.items) l.i (map plain-Item (drop l.i l.items))
    ≡ all_derived (declarations l.fn.decls.items) 0 (map plain-Item l.fn.items)
