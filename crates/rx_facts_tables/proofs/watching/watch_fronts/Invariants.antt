use Rattle.std.proofs.Common.{ℕ, ◌<◌, take}
use Rattle.rx_facts_tables.specs.Tables.{Kept, Keeps}
use Rattle.rx_facts_tables.proofs.watching.watch_fronts.Given as goal

abbrev pub invariant-loop-k : goal.invariant-loop-k
invariant-loop-k l = record {
  kept : (j : ℕ) → j < l.k → Kept l.watched l.variable (take j l.steps);
  keeps : Keeps l.fn.watched l.watched;
}
