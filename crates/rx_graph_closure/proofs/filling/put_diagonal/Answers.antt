use Rattle.rx_graph_closure.proofs.Tables.{diagonal_more, diagonal_end}
use Rattle.rx_graph_closure.proofs.filling.put_diagonal.Goals as goal

pub members-preserved : goal.members-preserved
members-preserved c = λ w regular. diagonal_more w c.args.base c.members.k c.args.rows.now c.members.rows c.insert_at.new.rows (c.members.invariant w regular) (c.insert_at.ensures w)

pub returns : goal.returns
returns c = λ w regular. diagonal_end w c.args.base c.members.k c.args.count c.args.rows.now c.members.rows c.members.auto.k-end c.members-test.false (c.members.invariant w regular)
