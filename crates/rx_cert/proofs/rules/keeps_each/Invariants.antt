use Rattle.rx_region_outlives.specs.Implied.{pairs_of}
use Rattle.rx_cert.proofs.Places.{Keeping}
use Rattle.rx_cert.proofs.rules.keeps_each.Given as goal

abbrev pub invariant-loop-i : goal.invariant-loop-i
invariant-loop-i l = Keeping l.decls.items (pairs_of l.implied.items) l.functions l.lines l.i l.at
