use Rattle.std.proofs.Common.{◌≡◌, false, replicate}
use Rattle.rx_typeck_typed.proofs.marks.no_marks.Given as goal

abbrev pub invariant-loop-lifetime : goal.invariant-loop-lifetime
invariant-loop-lifetime l = l.marks.items ≡ replicate l._lifetime false
