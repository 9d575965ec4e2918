use Rattle.rx_lower_walks.specs.Graph.{Site}
use Rattle.rx_facts_tables.proofs.Each.{SoFar}
use Rattle.rx_facts_tables.specs.LiveTables.{IsIndex, HasUsed}
use Rattle.rx_facts_tables.proofs.index.Index.of.Given as goal

abbrev pub invariant-loop-site : goal.invariant-loop-site
invariant-loop-site l = record {
  index : IsIndex l.index;
  used : SoFar (λ i (s : Site). HasUsed l.index.roots s.action.act) l.sites l.site-index;
}
