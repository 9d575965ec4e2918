-- Those so far, and those of the numbers that are left, are all.
use Rattle.std.proofs.Common.{◌≡◌, ◌++◌, drop}
use Rattle.rx_engine_extracted.specs.PlainPrograms.{plain-Functions}
use Rattle.rx_engine_extraction.specs.Confirmed.{leaving}
use Rattle.rx_engine_extraction.proofs.told.leaving.Given as goal

abbrev pub invariant-loop-number : goal.invariant-loop-number
invariant-loop-number l =
    l.left.items ++ leaving (plain-Functions l.trees) l.units (drop l.number-index l.units) ≡ leaving (plain-Functions l.trees) l.units l.units
