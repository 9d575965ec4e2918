-- The runs so far.
use Rattle.std.proofs.Common.{◌-◌}
use Rattle.rx_cert_tables.proofs.Runs.{RunsTo}
use Rattle.rx_cert_tables.proofs.collecting.site_items.Given as goal

abbrev pub invariant-loop-at : goal.invariant-loop-at
invariant-loop-at l = RunsTo l.row l.sites l.items.items l.at

abbrev pub decreases-loop-at : goal.decreases-loop-at
decreases-loop-at l = l.sites - l.at
