-- All so far are held.
use Rattle.std.proofs.Common.{◌-◌}
use Rattle.rx_cert_tables.proofs.Runs.{HeldTo}
use Rattle.rx_cert_tables.proofs.collecting.run_end.Given as goal

abbrev pub invariant-loop-end : goal.invariant-loop-end
invariant-loop-end l = HeldTo l.row l.first l.end l.sites

abbrev pub decreases-loop-end : goal.decreases-loop-end
decreases-loop-end l = l.sites - l.end
