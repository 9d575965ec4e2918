-- The plain tested positions of those of the code.
use Rattle.std.specs.Prelude.{map}
use Rattle.rx_cover.specs.declared.width.Tested.{Tested}
use Rattle.rx_cover.specs.PlainCells.{plain-Head}
use Rattle.rx_cover.specs.Width as plain

abbrev pub plain-Tested : Tested → plain.Tested
plain-Tested q = record { path = q.path; heads = map plain-Head q.heads.keys }
