use Rattle.rx_region_outlives.specs.Implied.{pairs_of}
use Rattle.rx_cert_least.proofs.Adding.{Adding}
use Rattle.rx_cert_least.proofs.making.push_all.Given as goal

abbrev pub invariant-loop-i : goal.invariant-loop-i
invariant-loop-i l = Adding l.decls.items (pairs_of l.implied.items) l.functions l.fn.text l.text l.i
