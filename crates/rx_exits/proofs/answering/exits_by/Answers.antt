use Rattle.rx_exits.proofs.AnsweringLemmas.{mixed_found, mixed_none}
use Rattle.rx_exits.proofs.answering.exits_by.Goals as goal

pub returns-in-Some : goal.returns-in-Some
returns-in-Some c A K fn F =
    mixed_found A c.args.facts.now c.as_slice-foreign.result.now c.as_slice.result.now c.in-Some.var F c.as_slice-foreign.ensures c.as_slice.ensures (c.in-Some.ensures A K.points)

pub returns-in-Ok : goal.returns-in-Ok
returns-in-Ok c A K fn F =
    c.judged.ensures A K.points F (c.in-Ok.ensures A K fn F)
    (mixed_none A c.args.facts.now c.as_slice-foreign.result.now c.as_slice.result.now F c.as_slice-foreign.ensures c.as_slice.ensures (c.in-None.ensures A K.points))
