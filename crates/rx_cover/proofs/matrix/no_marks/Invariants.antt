use Rattle.std.proofs.Common.{◌≡◌, false, replicate}
use Rattle.rx_cover.proofs.matrix.no_marks.Given as goal

abbrev pub invariant-loop-part : goal.invariant-loop-part
invariant-loop-part l = l.mask.items ≡ replicate l._part false
