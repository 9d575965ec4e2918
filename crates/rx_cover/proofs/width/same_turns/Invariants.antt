use Rattle.std.proofs.Common.{◌≡◌, drop}
use Rattle.rx_cover.specs.Width.{same_turns}
use Rattle.rx_cover.proofs.width.same_turns.Given as goal

abbrev pub invariant-loop-i : goal.invariant-loop-i
invariant-loop-i l = same_turns (drop l.i l.a) (drop l.i l.b) ≡ same_turns l.fn.a l.fn.b
