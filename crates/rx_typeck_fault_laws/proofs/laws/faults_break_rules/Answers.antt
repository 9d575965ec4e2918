use Rattle.rx_typeck_fault_laws.proofs.Singles.{breaks_both, untyped_breaks, causes_break}
use Rattle.rx_typeck_fault_laws.proofs.laws.faults_break_rules.Goals as goal

pub returns : goal.returns
returns c = record { both = breaks_both; untyped = untyped_breaks; faults = causes_break }
