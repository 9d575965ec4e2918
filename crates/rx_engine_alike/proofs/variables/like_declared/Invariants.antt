-- What is left of both, with the variables so far, is as from their beginning.
use Rattle.std.proofs.Common.{◌≡◌, length}
use Rattle.rx_engine_alike.specs.Variables.{like_declared}
use Rattle.rx_engine_alike.specs.PlainSights.{plain-Renaming}
use Rattle.rx_engine_alike.specs.PlainWays.{plain-Ways}
use Rattle.rx_engine_alike.proofs.variables.like_declared.Given as goal

abbrev pub invariant-loop-left : goal.invariant-loop-left
invariant-loop-left l =
    like_declared (plain-Ways l.ways) (plain-Renaming l.renaming.items) l.left l.right ≡ like_declared (plain-Ways l.fn.ways) (plain-Renaming l.fn.renaming.items) l.fn.declared l.fn.others

abbrev pub decreases-loop-left : goal.decreases-loop-left
decreases-loop-left l = length l.left
