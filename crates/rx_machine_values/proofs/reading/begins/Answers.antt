use Rattle.std.proofs.Common.{arith}
use Rattle.std.proofs.lemmas.List.{length-map}
use Rattle.rx_machine_values.specs.PlainValues.{plain-Node, plain-Nodes}
use Rattle.rx_machine_values.proofs.RowLemmas.{searching_goes_on, searching_ends, searching_fails}
use Rattle.rx_machine_values.proofs.reading.begins.Goals as goal

pub returns-in-None-clause-place : goal.returns-in-None-clause-place
returns-in-None-clause-place c =
    searching_fails (plain-Nodes c.args.nodes.now) c.args.number c.loop-turn.turn c.loop-turn.at (let e = c.loop-turn-test.true in omega (arith, e)) c.loop-turn.invariant.searching c.in-None.ensures

pub loop-turn-preserved : goal.loop-turn-preserved
loop-turn-preserved c = record {
  within = c.in-Some.ensures.0;
  searching = searching_goes_on (plain-Nodes c.args.nodes.now) c.args.number c.loop-turn.turn c.loop-turn.at c.in-Some.to c.loop-turn.invariant.searching c.in-Some.ensures.1;
}

pub returns-clause-place : goal.returns-clause-place
returns-clause-place c =
    searching_ends (plain-Nodes c.args.nodes.now) c.args.number c.loop-turn.turn c.loop-turn.at (let e = c.loop-turn-test.false in omega (arith, e)) (let e = c.loop-turn.auto.turn-end in omega (arith, e))
    (let e = length-map c.args.nodes.now plain-Node in let f = c.loop-turn.invariant.within in omega (arith, e, f)) c.loop-turn.invariant.searching
