use Rattle.std.proofs.Common.{◌≡◌, ◌-◌, ◌+◌, ℕ, length}
use Rattle.rx_lower_lifetimes.specs.Starting.{start_of}
use Rattle.rx_lower_lifetimes.proofs.noted.grow.Given as goal

abbrev pub invariant-grow : goal.invariant-grow
invariant-grow l = (n : ℕ) → start_of l.starts.items n ≡ start_of l.fn.starts.items n

abbrev pub decreases-grow : goal.decreases-grow
decreases-grow l = l.node + 1 - length l.starts.items
