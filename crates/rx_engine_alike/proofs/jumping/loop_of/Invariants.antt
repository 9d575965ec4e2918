-- Those that are passed are others.
use Rattle.std.proofs.Common.{◌≡◌, drop}
use Rattle.rx_engine_simulation.specs.Jumps.{loop_of}
use Rattle.rx_engine_alike.specs.PlainJumping.{plain-Loops}
use Rattle.rx_engine_alike.proofs.jumping.loop_of.Given as goal

abbrev pub invariant-loop-pair : goal.invariant-loop-pair
invariant-loop-pair l = loop_of (plain-Loops (drop l.pair-index l.loops)) l.number ≡ loop_of (plain-Loops l.loops) l.number
