use Rattle.std.proofs.Common.{◌≡◌, map, drop}
use Rattle.rx_tree.specs.PlainOf.{plain-Item}
use Rattle.rx_typed.specs.PlainTypes.{declarations}
use Rattle.rx_typed_declarations.specs.Sizes.{told}
use Rattle.rx_typeck_typed.specs.Limits.{all_fit}
use Rattle.rx_typeck_typed.proofs.limits.all_fit.Given as goal

abbrev pub invariant-loop-i : goal.invariant-loop-i
invariant-loop-i l =
    all_fit (told l.sizes) (declarations l.decls.items) l.i (map plain-Item (drop l.i l.items))
    ≡ all_fit (told l.fn.sizes) (declarations l.fn.decls.items) 0 (map plain-Item l.fn.items)
