use Rattle.std.proofs.Common.{◌≡◌, drop}
use Rattle.rx_compact_edits.proofs.Ending.{end_of_bounds}
use Rattle.rx_compact_edits.proofs.list.last_end.Given as goal

abbrev pub invariant-loop-bound : goal.invariant-loop-bound
invariant-loop-bound l = end_of_bounds l.end (drop l.bound-index l.bound-items) ≡ end_of_bounds l.lifetime.name.span.end l.lifetime.bounds
