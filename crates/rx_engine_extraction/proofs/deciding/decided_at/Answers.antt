use Rattle.std.proofs.Common.{sym, subst, ◌∙◌}
use Rattle.rx_exits_plan.specs.Asked.{Asked}
use Rattle.rx_exits_plan.specs.PlainPlan.{plan_of, IsExitPlan}
use Rattle.rx_exits_plan.specs.PlainSyntax.{plain-Home}
use Rattle.rx_modes.specs.Answer.{HasModes}
use Rattle.rx_engine_extraction.specs.Deciding.{text_of, IsUnpassed}
use Rattle.rx_engine_extraction.proofs.Asking.{same, named_told}
use Rattle.rx_engine_extraction.proofs.Planning.{unplanned_stops, unpassed_stops, is_decided}
use Rattle.rx_engine_extraction.proofs.deciding.decided_at.Goals as goal

pub returns-in-Err-clause-fault : goal.returns-in-Err-clause-fault
returns-in-Err-clause-fault g c =
    unplanned_stops (text_of c.args.given.now) c.args.run.now c.args.function.now (plain-Home c.args.seat.now.home) c.requires.seated c.in-Err.fault c.in-Err.ensures.fault

pub passed-requires : goal.passed-requires
passed-requires g c =
    subst (λ (A : Asked). IsExitPlan A c.in-Ok.plan) (sym (same c.args.given.now c.args.run.now c.args.function.now c.args.seat.now c.requires.run)) c.in-Ok.ensures.found.listed

pub returns-in-Err-passed-clause-fault : goal.returns-in-Err-passed-clause-fault
returns-in-Err-passed-clause-fault g c =
    let r = c.args.run.now in let f = c.args.function.now in let k = c.in-Ok.plan in
    let e = same c.args.given.now r f c.args.seat.now c.requires.run in
    unpassed_stops (text_of c.args.given.now) r f (plain-Home c.args.seat.now.home) c.requires.seated k c.in-Ok.ensures.found c.in-Err-passed.fault
    (subst (λ (A : Asked). IsUnpassed A f k c.in-Err-passed.fault) e c.in-Err-passed.ensures.fault)

pub returns-in-Ok-named_plan-clause-found : goal.returns-in-Ok-named_plan-clause-found
returns-in-Ok-named_plan-clause-found g c =
    let n = c.args.given.now in let r = c.args.run.now in let f = c.args.function.now in let s = c.args.seat.now in
    let k = c.in-Ok.plan in let m = c.in-Ok-passed.passed in let choice = g.P.Policy.choice c.args.policy.now in
    is_decided (text_of n) r f (plain-Home s.home) c.requires.seated c.args.name.now choice k m c.in-Ok-named_plan.named c.in-Ok.ensures.found
    (subst (λ (A : Asked). HasModes A f.mutable (plan_of A k) choice m) (same n r f s c.requires.run) c.in-Ok-passed.ensures.found)
    (c.in-Ok-named_plan.ensures ∙ named_told n r f s c.requires.run c.args.name.now choice k m c.typed.result.now
    c.as_slice.result.now c.as_slice-2.result.now c.as_slice-3.result.now c.as_slice-4.result.now
    c.typed.ensures.same (c.as_slice.ensures.value ∙ c.in-Ok-diverging_lets.ensures) c.as_slice-2.ensures c.as_slice-3.ensures c.as_slice-4.ensures)
