use Rattle.rx_cert.proofs.Places.{Going}
use Rattle.rx_cert.proofs.fitting.all_fit.Given as goal

abbrev pub invariant-loop-i : goal.invariant-loop-i
invariant-loop-i l = Going l.typed.decls.items l.typed.functions l.lines l.i l.at
