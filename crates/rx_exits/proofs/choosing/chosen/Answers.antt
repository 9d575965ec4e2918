use Rattle.std.proofs.Common.{ℕ, [], get_or, sym, subst}
use Rattle.std.proofs.lemmas.List.{get_or_default}
use Rattle.rx_exits_plan.specs.Plan.{Chosen, none}
use Rattle.rx_exits.specs.Choosing.{Means}
use Rattle.rx_exits.proofs.ChoosingLemmas.{chosen_turn, chosen_end}
use Rattle.rx_exits.proofs.choosing.chosen.Goals as goal

pub loop-variable-init : goal.loop-variable-init
loop-variable-init c A ps of = subst (λ l. Chosen (Means A ps c.args.choice) [] l) (sym c.new-some.ensures) none

pub loop-variable-preserved : goal.loop-variable-preserved
loop-variable-preserved c A ps of =
    let x : ℕ = get_or c.args.all.now c.loop-variable.variable-index 0 in
    chosen_turn (Means A ps c.args.choice) c.args.all.now c.loop-variable.variable-index x c.loop-variable.some c.in_ok-some.some c.loop-variable-test.true
    (get_or_default c.args.all.now c.loop-variable.variable-index 0 x c.loop-variable-test.true) (c.in_ok-some.ensures A ps of) (c.loop-variable.invariant A ps of)

pub returns : goal.returns
returns c A ps of = chosen_end (Means A ps c.args.choice) c.args.all.now c.loop-variable.variable-index c.loop-variable.some c.loop-variable-test.false (c.loop-variable.invariant A ps of)
