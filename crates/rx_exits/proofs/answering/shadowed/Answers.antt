use Rattle.std.proofs.Common.{map, ap}
use Rattle.rx_exits_plan.specs.PlainSyntax.{plain-Jump}
use Rattle.rx_exits.proofs.AnsweringLemmas.{shadowed_found, answered}
use Rattle.rx_exits.proofs.answering.shadowed.Goals as goal

pub returns-in-Some : goal.returns-in-Some
returns-in-Some c A F P none partly =
    shadowed_found A c.args.facts.now c.args.planned.now c.as_slice-exits.result.now F P c.as_slice-exits.ensures c.args.names.now (map plain-Jump c.as_slice-jumps.result.now) c.as_slice-end.result.now
    c.as_slice-all.result.now c.in-Some.var none partly (ap (map plain-Jump) c.as_slice-jumps.ensures) c.as_slice-end.ensures c.as_slice-all.ensures (c.in-Some.ensures A tt)

pub returns-in-None : goal.returns-in-None
returns-in-None c A F P none partly =
    answered A c.args.facts.now c.args.planned.now c.as_slice-exits.result.now F P c.as_slice-exits.ensures c.args.names.now (map plain-Jump c.as_slice-jumps.result.now) c.as_slice-end.result.now
    c.as_slice-all.result.now none partly (ap (map plain-Jump) c.as_slice-jumps.ensures) c.as_slice-end.ensures c.as_slice-all.ensures (c.in-None.ensures A tt)
