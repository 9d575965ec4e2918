use Rattle.rx_compact_known.proofs.Closing.{own_more, own_end}
use Rattle.rx_compact_known.proofs.closed.insert_each.Goals as goal

pub members-preserved : goal.members-preserved
members-preserved c = λ w regular. own_more w c.members.k c.args.rows.now c.members.rows c.insert_at.new.rows (c.members.invariant w regular) (c.insert_at.ensures w)

pub returns : goal.returns
returns c = λ w regular. own_end w c.members.k c.args.count c.args.rows.now c.members.rows c.members.auto.k-end c.members-test.false (c.members.invariant w regular)
