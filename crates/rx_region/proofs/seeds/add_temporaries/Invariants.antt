use Rattle.std.proofs.Common.{map}
use Rattle.rx_graph_bits.specs.Rows.{words}
use Rattle.rx_lower_walks.specs.PlainFlow.{plain-Temporary}
use Rattle.rx_lower_lifetimes.specs.Answer.{plain-Lifetimes}
use Rattle.rx_region.specs.Seeds.{Grows, TemporaryLived}
use Rattle.rx_region.proofs.seeds.add_temporaries.Given as goal

abbrev pub invariant-loop-k : goal.invariant-loop-k
invariant-loop-k l = Grows l.live l.sites (words l.bound) (λ g. TemporaryLived (plain-Lifetimes l.lifetimes) g (map plain-Temporary l.temporaries) l.k) l.fn.rows l.rows
