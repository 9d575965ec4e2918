use Rattle.std.proofs.Common.{◌≡◌, ◌++◌, map, length}
use Rattle.rx_cover.specs.PlainCells.{plain-Column}
use Rattle.rx_cover.specs.Finding.{awaited}
use Rattle.rx_cover.proofs.least.put_back.Given as goal

abbrev pub invariant-loop-column : goal.invariant-loop-column
invariant-loop-column l = map plain-Column l.columns ++ awaited l.pending ≡ map plain-Column l.fn.columns ++ awaited l.fn.pending

abbrev pub decreases-loop-column : goal.decreases-loop-column
decreases-loop-column l = length l.columns
