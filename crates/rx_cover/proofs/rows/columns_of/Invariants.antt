use Rattle.std.proofs.Common.{◌≡◌, ◌++◌, map, drop}
use Rattle.rx_typed.specs.PlainTypes.{plain-Ty}
use Rattle.rx_cover.specs.PlainCells.{plain-Column}
use Rattle.rx_cover.proofs.rows.columns_of.Given as goal

abbrev pub invariant-loop-ty : goal.invariant-loop-ty
invariant-loop-ty l = map plain-Column l.columns ++ map plain-Ty (drop l.ty-index l.types) ≡ map plain-Ty l.fn.types
