use Rattle.std.proofs.Common.{length}
use Rattle.rx_graph.proofs.Spreading.{more_spread, end_spread}
use Rattle.rx_graph_closure.proofs.filling.join_all.Goals as goal

pub members-preserved : goal.members-preserved
members-preserved c = more_spread (length c.args.row.now) c.args.rows.now c.members.rows c.join_at-more.new.rows c.args.members.now c.args.row.now c.members.k c.members.grown c.join_at-more.result
    c.members-test.true c.join_at-more.ensures c.members.invariant

pub returns : goal.returns
returns c = end_spread (length c.args.row.now) c.args.rows.now c.members.rows c.args.members.now c.args.row.now c.members.k c.members.grown c.members-test.false c.members.invariant
