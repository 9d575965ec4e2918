use Rattle.rx_facts_tables.specs.Tables.{SomeAt, NoneAt}
use Rattle.rx_exits.proofs.Looking.{told_of}
use Rattle.rx_exits.proofs.run_points.RunPoints.is_entered_with.Goals as goal

pub returns : goal.returns
returns c = told_of c.some_there.result c.args.self.now.marks c.as_slice.result.now c.number.result 0 (λ i. SomeAt c.args.table.now.rows i c.args.fact 1) (λ i. NoneAt c.args.table.now.rows i c.args.fact 1)
    c.as_slice.ensures c.number.ensures c.some_there.ensures
