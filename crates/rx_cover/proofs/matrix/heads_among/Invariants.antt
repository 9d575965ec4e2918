use Rattle.std.proofs.Common.{◌≡◌, [], map, drop}
use Rattle.rx_typed.specs.PlainTypes.{plain-Ty, declarations}
use Rattle.rx_cover.specs.PlainCells.{plain-Head, plain-Row}
use Rattle.rx_cover.specs.Matrices as spec
use Rattle.rx_cover.proofs.matrix.heads_among.Given as goal

abbrev pub invariant-loop-row : goal.invariant-loop-row
invariant-loop-row l = spec.gather (declarations l.decls.items) (plain-Ty l.ty) (map plain-Head l.heads.keys) (map plain-Row (drop l.row-index l.rows)) ≡ spec.gather (declarations l.fn.decls.items) (plain-Ty l.fn.ty) [] (map plain-Row l.fn.rows)
