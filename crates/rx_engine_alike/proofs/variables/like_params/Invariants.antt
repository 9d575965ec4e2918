-- What is left of both, with the variables so far, is as from their beginning.
use Rattle.std.proofs.Common.{◌≡◌, length, map}
use Rattle.rx_typed.specs.PlainTree.{plain-Param}
use Rattle.rx_engine_alike.specs.Variables.{like_params}
use Rattle.rx_engine_alike.specs.PlainSights.{plain-Renaming}
use Rattle.rx_engine_alike.specs.PlainWays.{plain-Ways}
use Rattle.rx_engine_alike.proofs.variables.like_params.Given as goal

abbrev pub invariant-loop-left : goal.invariant-loop-left
invariant-loop-left l =
    like_params (plain-Ways l.ways) (plain-Renaming l.renaming.items) (map plain-Param l.left) (map plain-Param l.right)
    ≡ like_params (plain-Ways l.fn.ways) (plain-Renaming l.fn.renaming.items) (map plain-Param l.fn.params) (map plain-Param l.fn.others)

abbrev pub decreases-loop-left : goal.decreases-loop-left
decreases-loop-left l = length l.left
