use Rattle.std.proofs.Common.{refl}
use Rattle.rx_facts_tables.specs.Tables.{SomeAt, NoneAt}
use Rattle.rx_exits.specs.Marks.{plain-Point}
use Rattle.rx_exits.proofs.Looking.{told_of}
use Rattle.rx_exits.proofs.Reading.{parts_are, set_there}
use Rattle.rx_exits.proofs.run_points.RunPoints.may_be_set.Goals as goal

pub returns : goal.returns
returns c A is =
    let p = c.args.self.now in let first = c.parts.result.first in let count = c.parts.result.count in
    set_there A p c.requires is (plain-Point c.args.point) c.number.result c.args.variable first count c.some_there.result c.number.ensures
    (parts_are A p c.requires is c.args.variable first count c.parts.ensures.first c.parts.ensures.count)
    (told_of c.some_there.result p.marks c.as_slice.result.now c.number.result c.number.result (λ i. SomeAt p.facts.set.rows i first count) (λ i. NoneAt p.facts.set.rows i first count)
    c.as_slice.ensures refl c.some_there.ensures)
