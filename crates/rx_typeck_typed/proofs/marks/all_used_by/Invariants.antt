use Rattle.std.proofs.Common.{◌≡◌, drop}
use Rattle.rx_typeck_typed.specs.Marks.{all_used_by}
use Rattle.rx_typeck_typed.proofs.marks.all_used_by.Given as goal

abbrev pub invariant-loop-i : goal.invariant-loop-i
invariant-loop-i l = all_used_by l.marks l.i (drop l.i l.declared) ≡ all_used_by l.fn.marks 0 l.fn.declared
