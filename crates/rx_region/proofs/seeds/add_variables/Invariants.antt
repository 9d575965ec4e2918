use Rattle.rx_graph_bits.specs.Rows.{words}
use Rattle.rx_lower_lifetimes.specs.Answer.{plain-Lifetimes}
use Rattle.rx_region.specs.Seeds.{Grows, VariableLived}
use Rattle.rx_region.proofs.seeds.add_variables.Given as goal

abbrev pub invariant-loop-variable : goal.invariant-loop-variable
invariant-loop-variable l = Grows l.live l.sites (words l.bound) (λ g. VariableLived (plain-Lifetimes l.lifetimes) g l.variable) l.fn.rows l.rows
