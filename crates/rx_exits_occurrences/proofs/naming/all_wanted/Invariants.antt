use Rattle.std.proofs.Common.{◌≡◌, ◌++◌, drop}
use Rattle.rx_exits_plan.specs.Occurrences.{has_number, those}
use Rattle.rx_exits_occurrences.specs.Wanted.{is_wanted}
use Rattle.rx_exits_occurrences.proofs.naming.all_wanted.Given as goal

abbrev pub invariant-loop-i : goal.invariant-loop-i
invariant-loop-i l =
    l.kept ++ those (λ x. is_wanted l.wanted (has_number x l.others.keys)) (drop l.i l.numbers) ≡ those (λ x. is_wanted l.fn.wanted (has_number x l.fn.others.keys)) l.fn.numbers
