use Rattle.std.proofs.Common.{◌≡◌, drop, map}
use Rattle.rx_typed.specs.Types.{all_copy, shapes_of}
use Rattle.rx_typed.specs.PlainTypes.{declarations, plain-Ty}
use Rattle.rx_typed.proofs.copying.+copies.Given as goal

abbrev pub invariant-all_copy-loop-i : goal.invariant-all_copy-loop-i
invariant-all_copy-loop-i l = all_copy (declarations l.decls.items) (shapes_of (map plain-Ty (drop l.i l.parts)))
    ≡ all_copy (declarations l.decls.items) (shapes_of (map plain-Ty l.parts))
