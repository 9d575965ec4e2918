use Rattle.std.proofs.Common.{◌≡◌, drop}
use Rattle.rx_compact_lifetimes.proofs.Occurring.{are_types}
use Rattle.rx_compact_lifetimes.proofs.occurrences.+are.Given as goal

abbrev pub invariant-are_in_all-loop-typ : goal.invariant-are_in_all-loop-typ
invariant-are_in_all-loop-typ l = are_types l.name (drop l.typ-index l.types) ≡ are_types l.name l.types
