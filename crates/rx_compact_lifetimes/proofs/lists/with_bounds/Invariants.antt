use Rattle.std.proofs.Common.{◌≡◌, drop}
use Rattle.rx_compact_lifetimes.specs.Steps.{with_bounds}
use Rattle.rx_compact_lifetimes.proofs.lists.with_bounds.Given as goal

abbrev pub invariant-loop-bound : goal.invariant-loop-bound
invariant-loop-bound l = with_bounds l.name l.all (drop l.bound-index l.more) ≡ with_bounds l.name l.fn.bounds l.more
