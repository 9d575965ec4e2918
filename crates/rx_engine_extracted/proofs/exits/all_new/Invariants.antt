-- Those that are passed are new, each another.
use Rattle.std.proofs.Common.{◌≡◌, length}
use Rattle.rx_engine_alike.specs.PlainSights.{plain-Renaming}
use Rattle.rx_engine_extracted.specs.Arms.{all_new}
use Rattle.rx_engine_extracted.proofs.exits.all_new.Given as goal

abbrev pub invariant-loop-left : goal.invariant-loop-left
invariant-loop-left l = all_new (plain-Renaming l.renaming) l.left ≡ all_new (plain-Renaming l.renaming) l.variables

abbrev pub decreases-loop-left : goal.decreases-loop-left
decreases-loop-left l = length l.left
