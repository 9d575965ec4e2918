use Rattle.std.proofs.Common.{◌≡◌, ◌++◌, not, drop}
use Rattle.rx_exits_plan.specs.Occurrences.{has_number, firsts, those}
use Rattle.rx_exits_occurrences.proofs.naming.set_of.Given as goal

abbrev pub invariant-loop-i : goal.invariant-loop-i
invariant-loop-i l = l.all.keys ++ those (λ y. not (has_number y l.all.keys)) (firsts (drop l.i l.numbers)) ≡ firsts l.fn.numbers
