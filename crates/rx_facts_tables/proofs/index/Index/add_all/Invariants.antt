use Rattle.rx_facts_tables.specs.LiveTables.{IsIndex, KeepsRoots}
use Rattle.rx_facts_tables.proofs.Numbering.{Given}
use Rattle.rx_facts_tables.proofs.index.Index.add_all.Given as goal

abbrev pub invariant-loop-root : goal.invariant-loop-root
invariant-loop-root l = record {
  index : IsIndex l.self;
  keeps : KeepsRoots l.fn.self.roots l.self.roots;
  given : Given l.self.roots l.roots l.root-index;
}
