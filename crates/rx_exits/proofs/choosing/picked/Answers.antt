use Rattle.std.proofs.Common.{ℕ, get_or}
use Rattle.std.proofs.lemmas.List.{get_or_default}
use Rattle.rx_exits.specs.Choosing.{picks}
use Rattle.rx_exits.proofs.ChoosingLemmas.{picked_turn, picked_end}
use Rattle.rx_exits.proofs.choosing.picked.Goals as goal

pub loop-variable-preserved : goal.loop-variable-preserved
loop-variable-preserved c =
    let x : ℕ = get_or c.args.all.now c.loop-variable.variable-index 0 in
    picked_turn (picks c.args.pick) c.args.all.now c.loop-variable.variable-index x c.loop-variable.some c.in_ok-some.some c.loop-variable-test.true
    (get_or_default c.args.all.now c.loop-variable.variable-index 0 x c.loop-variable-test.true) c.in_ok-some.ensures c.loop-variable.invariant

pub returns : goal.returns
returns c = picked_end (picks c.args.pick) c.args.all.now c.loop-variable.variable-index c.loop-variable.some c.loop-variable-test.false c.loop-variable.invariant
