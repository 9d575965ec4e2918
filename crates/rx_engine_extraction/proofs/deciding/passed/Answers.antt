use Rattle.std.proofs.Common.{sym, subst}
use Rattle.rx_engine_extraction.specs.declared.refusal.Fault.{Fault}
use Rattle.rx_engine_extraction.specs.Deciding.{asked_by, IsUnpassed}
use Rattle.rx_engine_extraction.proofs.Asking.{sized_there, listed_there, modes_here, refused_here}
use Rattle.rx_engine_extraction.proofs.Planning.{modes_stop}
use Rattle.rx_engine_extraction.proofs.deciding.passed.Goals as goal

pub modes-requires-clause-sized : goal.modes-requires-clause-sized
modes-requires-clause-sized g c =
    sized_there c.args.given.now c.args.function.now c.args.seat.now c.typed.result.now c.typed.ensures.same c.sizes.result.now c.sizes.ensures.sizes c.sizes.ensures.sized

pub modes-requires-clause-plan : goal.modes-requires-clause-plan
modes-requires-clause-plan g c =
    listed_there c.args.given.now c.args.function.now c.args.seat.now c.typed.result.now c.typed.ensures.same c.sizes.result.now c.sizes.ensures.sizes c.args.plan.now c.requires

pub returns-in-Ok-clause-found : goal.returns-in-Ok-clause-found
returns-in-Ok-clause-found g c =
    modes_here c.args.given.now c.args.function.now c.args.seat.now c.typed.result.now c.typed.ensures.same c.sizes.result.now c.sizes.ensures.sizes c.args.plan.now
    (g.P.Policy.choice c.args.policy.now) c.in-Ok.passed c.in-Ok.ensures.modes

pub returns-in-Err-clause-fault : goal.returns-in-Err-clause-fault
returns-in-Err-clause-fault g c =
    let f = c.args.function.now in let k = c.args.plan.now in let A = asked_by c.args.given.now f c.args.seat.now in
    subst (λ (x : Fault). IsUnpassed A f k x) (sym c.of_modes.ensures) (modes_stop A f k c.in-Err.fault
    (refused_here c.args.given.now f c.args.seat.now c.typed.result.now c.typed.ensures.same c.sizes.result.now c.sizes.ensures.sizes k c.in-Err.fault c.in-Err.ensures.refused))
