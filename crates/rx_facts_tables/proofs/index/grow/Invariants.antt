use Rattle.std.proofs.Common.{◌≡◌, ◌-◌, ◌+◌, ℕ, length}
use Rattle.rx_graph.specs.Facts.{targets}
use Rattle.rx_facts_tables.proofs.index.grow.Given as goal

abbrev pub invariant-grow : goal.invariant-grow
invariant-grow l = (q : ℕ) → targets l.lists.items q ≡ targets l.fn.lists.items q

abbrev pub decreases-grow : goal.decreases-grow
decreases-grow l = l.key + 1 - length l.lists.items
