use Rattle.rx_exits.proofs.AnsweringLemmas.{partly_found, partly_none}
use Rattle.rx_exits.proofs.answering.refused.Goals as goal

pub returns-in-Some : goal.returns-in-Some
returns-in-Some c A p F P none =
    partly_found A c.args.facts.now c.args.planned.now c.as_slice-exits.result.now F P c.as_slice-exits.ensures c.as_slice-foreign.result.now c.as_slice-all.result.now c.in-Some.var none
    c.as_slice-foreign.ensures c.as_slice-all.ensures (c.in-Some.ensures A p)

pub returns-in-None : goal.returns-in-None
returns-in-None c A p F P none =
    c.shadowed.ensures A F P none (partly_none A c.args.facts.now c.args.planned.now c.as_slice-exits.result.now F P c.as_slice-exits.ensures c.as_slice-foreign.result.now c.as_slice-all.result.now
    c.as_slice-foreign.ensures c.as_slice-all.ensures (c.in-None.ensures A p))
