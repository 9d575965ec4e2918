-- What heads and cells of the code stand for.
use Rattle.std.specs.Prelude.{pos, negsuc, List, map}
use Rattle.rx_typed.specs.Tree as tree
use Rattle.rx_typed.specs.PlainTree.{plain-Pattern}
use Rattle.rx_cover.specs.declared.heads.Head.{Head}
use Rattle.rx_cover.specs.declared.heads.Cell.{Cell}
use Rattle.rx_cover.specs.declared.matrix.Column.{Column}
use Rattle.rx_cover.specs.declared.matrix.Row.{Row}
use Rattle.rx_typed.specs.Types.{Typ}
use Rattle.rx_typed.specs.PlainTypes.{plain-Ty}
use Rattle.rx_cover.specs.Heads as plain

abbrev pub plain-Head : Head → plain.Head
plain-Head (Head.Natural n) = plain.whole (pos n)
plain-Head (Head.Negative n) = plain.whole (negsuc n)
plain-Head (Head.Truth b) = plain.truth b
plain-Head Head.Composed = plain.composed
plain-Head (Head.Chosen i k) = plain.chosen i k
plain-Head Head.Pointed = plain.pointed

abbrev pub constant_head : tree.Constant → plain.Head
constant_head (tree.whole_number k i) = plain.whole i
constant_head (tree.truth b) = plain.truth b

abbrev pub plain-Cell : Cell → tree.Pattern
plain-Cell Cell.Open = tree.any
plain-Cell (Cell.Asks p) = plain-Pattern p.now

abbrev pub plain-Row : List Cell → List tree.Pattern
plain-Row r = map plain-Cell r

abbrev pub plain-Cells : Row → List tree.Pattern
plain-Cells r = plain-Row r.cells.now

abbrev pub plain-Column : Column → Typ
plain-Column c = plain-Ty c.ty.now
