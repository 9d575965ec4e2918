-- Those that are passed are others.
use Rattle.std.proofs.Common.{◌≡◌, drop}
use Rattle.rx_engine_alike.specs.Leaving.{is_apart}
use Rattle.rx_engine_alike.specs.PlainJumping.{plain-Loops}
use Rattle.rx_engine_alike.proofs.jumping.is_apart.Given as goal

abbrev pub invariant-loop-pair : goal.invariant-loop-pair
invariant-loop-pair l = is_apart (plain-Loops (drop l.pair-index l.loops)) l.number ≡ is_apart (plain-Loops l.loops) l.number
