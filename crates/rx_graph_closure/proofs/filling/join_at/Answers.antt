use Rattle.std.proofs.Common.{subst}
use Rattle.rx_graph_bits.specs.Rows.{Joined}
use Rattle.rx_graph.proofs.Spreading.{one_joined, same_there}
use Rattle.rx_graph_closure.proofs.filling.join_at.Goals as goal

pub returns-then-member-rows : goal.returns-then-member-rows
returns-then-member-rows c = one_joined c.args.rows.now c.args.member c.args.row.now c.join.new.self c.join.result c.requires c.if-member-rows.true
    (subst (λ r. Joined r c.args.row.now c.join.new.self c.join.result) (same_there c.args.rows.now c.args.member c.index-rows-member.result c.if-member-rows.true) c.join.ensures.joined)
    c.join.ensures.bounded
