-- Those so far, and those of the exits that are left, are all.
use Rattle.std.proofs.Common.{◌≡◌, ◌++◌, drop}
use Rattle.rx_engine_extraction.specs.Confirming.{handed_among}
use Rattle.rx_engine_extraction.proofs.told.with_handed.Given as goal

abbrev pub invariant-loop-exit : goal.invariant-loop-exit
invariant-loop-exit l = l.all.items ++ handed_among (drop l.exit-index l.exits) ≡ l.fn.numbers.items ++ handed_among l.exits
