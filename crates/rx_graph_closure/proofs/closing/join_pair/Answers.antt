use Rattle.std.proofs.Common.{subst, length, ◌∙◌}
use Rattle.rx_graph_bits.specs.Rows.{Joined}
use Rattle.rx_graph.proofs.Spreading.{same_there}
use Rattle.rx_graph_closure.proofs.Joining.{joined_pair}
use Rattle.rx_graph_closure.proofs.closing.join_pair.Goals as goal

pub returns-then-short-rows-clause-grown : goal.returns-then-short-rows-clause-grown
returns-then-short-rows-clause-grown c = λ pairs has.
    joined_pair pairs (length c.args.scratch.now) c.args.rows.now c.args.pair c.assign.new.self c.join.new.self c.join.result c.requires c.if-long-rows.true
    (c.assign.ensures ∙ same_there c.args.rows.now c.args.pair.short c.index-rows-short.result c.if-short-rows.true)
    (subst (λ r. Joined r c.assign.new.self c.join.new.self c.join.result)
    (same_there c.args.rows.now c.args.pair.long c.index-rows-long.result c.if-long-rows.true) c.join.ensures.joined)
    c.join.ensures.bounded has
