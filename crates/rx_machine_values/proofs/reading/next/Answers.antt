use Rattle.std.proofs.Common.{◌+◌, refl, arith}
use Rattle.rx_machine_values.proofs.RowLemmas.{none_next, some_next}
use Rattle.rx_machine_values.proofs.reading.next.Goals as goal

pub returns-then-extent-left : goal.returns-then-extent-left
returns-then-extent-left c = (
  (let e = c.if-extent-left.true in omega (arith, e)),
  some_next c.args.nodes.now c.args.at c.index-nodes-at.result c.requires c.index-nodes-at.is c.extent-extent.result (c.args.at + 1 + c.extent-extent.result) c.extent-extent.ensures refl,
)

pub returns-else-extent-left : goal.returns-else-extent-left
returns-else-extent-left c = none_next c.args.nodes.now c.args.at c.index-nodes-at.result c.requires c.index-nodes-at.is c.extent-extent.result c.extent-extent.ensures (let e = c.if-extent-left.false in omega (arith, e))
