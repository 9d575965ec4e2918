use Rattle.std.proofs.Common.{length}
use Rattle.rx_graph_closure.proofs.Joining.{found, joined_at, no_pair}
use Rattle.rx_graph_closure.proofs.closing.join_at.Goals as goal

pub returns-in-Some-clause-grown : goal.returns-in-Some-clause-grown
returns-in-Some-clause-grown c =
    let at = found c.args.pairs.now c.args.place c.in-Some.pair.now c.in-Some.ensures.lookup.3 in
    joined_at c.args.pairs.now (length c.args.scratch.now) c.args.place c.in-Some.pair.now c.args.rows.now c.join_pair.new.rows c.join_pair.result
    at (c.join_pair.ensures.grown c.args.pairs.now (c.args.place, at))

pub returns-in-None-clause-grown : goal.returns-in-None-clause-grown
returns-in-None-clause-grown c = no_pair c.args.pairs.now (length c.args.scratch.now) c.args.rows.now c.args.place c.requires c.in-None.ensures.lookup.3
