use Rattle.std.proofs.Common.{◌≡◌, ℕ, ◌<◌, ◌≤◌, false}
use Rattle.rx_graph.specs.Tables.{at}
use Rattle.rx_facts_tables.proofs.judging.some_at.Given as goal

abbrev pub invariant-loop-n : goal.invariant-loop-n
invariant-loop-n l = (m : ℕ) → l.fn.range.first ≤ m → m < l.n → at l.table.rows l.site m ≡ false
