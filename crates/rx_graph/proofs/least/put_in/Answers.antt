use Rattle.rx_graph.proofs.Rows.{putting_more, putting_done}
use Rattle.rx_graph.proofs.least.put_in.Goals as goal

pub facts-init : goal.facts-init
facts-init c new more = more

pub facts-preserved : goal.facts-preserved
facts-preserved c = putting_more c.args.row.now c.facts.row c.insert.new.self c.args.facts.now c.facts.k c.facts-test.true c.insert.ensures.inserted c.insert.ensures.bounded c.facts.invariant

pub returns : goal.returns
returns c = putting_done c.args.row.now c.facts.row c.args.facts.now c.facts.k c.facts-test.false c.facts.invariant
