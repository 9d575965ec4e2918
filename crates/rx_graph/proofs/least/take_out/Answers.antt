use Rattle.rx_graph.proofs.Rows.{taking_more, taking_done}
use Rattle.rx_graph.proofs.least.take_out.Goals as goal

pub facts-init : goal.facts-init
facts-init c new more = more

pub facts-preserved : goal.facts-preserved
facts-preserved c = taking_more c.args.row.now c.facts.row c.remove.new.self c.args.facts.now c.facts.k c.facts-test.true c.remove.ensures.removed c.remove.ensures.bounded c.facts.invariant

pub returns : goal.returns
returns c = taking_done c.args.row.now c.facts.row c.args.facts.now c.facts.k c.facts-test.false c.facts.invariant
