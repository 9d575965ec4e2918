use Rattle.std.proofs.Common.{◌≡◌, map, drop}
use Rattle.rx_typed.specs.Types.{shapes_of}
use Rattle.rx_typed.specs.PlainTypes.{plain-Ty}
use Rattle.rx_cover.specs.Inhabited.{all_valued}
use Rattle.rx_cover.proofs.inhabitance.+valued.Given as goal

abbrev pub invariant-all_valued-loop-ty : goal.invariant-all_valued-loop-ty
invariant-all_valued-loop-ty l = all_valued l.table (shapes_of (map plain-Ty (drop l.ty-index l.types))) ≡ all_valued l.fn.table (shapes_of (map plain-Ty l.fn.types))
