use Rattle.std.proofs.Common.{ℕ, List, refl, sym, subst, ◌∙◌}
use Rattle.rx_exits.specs.Refusing.{Answers, Refuses, same_name}
use Rattle.rx_exits_plan.specs.Asked.{Asked}
use Rattle.rx_exits_plan.specs.PlainSyntax.{plain-Home}
use Rattle.rx_engine_extraction.specs.declared.refusal.Fault.{Fault}
use Rattle.rx_engine_extraction.specs.Case.{asked}
use Rattle.rx_engine_extraction.specs.Source.{Text}
use Rattle.rx_engine_extraction.specs.Deciding.{text_of, case_at, IsUnplanned}
use Rattle.rx_engine_extraction.proofs.Asking.{sized_there, asked_is}
use Rattle.rx_engine_extraction.proofs.Planning.{reach_stops, exits_stop, exits_planned}
use Rattle.rx_engine_extraction.proofs.deciding.planned.Goals as goal

pub points-requires : goal.points-requires
points-requires c =
    sized_there c.args.given.now c.args.function.now c.args.seat.now c.typed.result.now c.typed.ensures.same c.sizes.result.now c.sizes.ensures.sizes c.sizes.ensures.sized

pub returns-in-Err-clause-fault : goal.returns-in-Err-clause-fault
returns-in-Err-clause-fault c =
    let g = c.args.given.now in let r = c.args.run.now in let f = c.args.function.now in let s = c.args.seat.now in
    let h = plain-Home s.home in let T : Text = text_of g in let A : Asked = asked T (case_at r f h) in
    let is = asked_is g r f s c.requires.run c.typed.result.now c.typed.ensures.same c.sizes.result.now c.sizes.ensures.sizes c.in-Ok.points (c.in-Ok.ensures.points h (sym c.as_slice-loops.ensures)) in
    subst (λ (x : Fault). IsUnplanned T (case_at r f h) x) (sym c.of_reach.ensures) (reach_stops T r f h c.requires.seated c.in-Err.fault (c.in-Err.ensures A is))

pub exits-requires : goal.exits-requires
exits-requires c = c.in-Ok.ensures.ready

pub returns-clause-fault : goal.returns-clause-fault
returns-clause-fault c =
    let g = c.args.given.now in let r = c.args.run.now in let f = c.args.function.now in let s = c.args.seat.now in
    let h = plain-Home s.home in let T : Text = text_of g in let A : Asked = asked T (case_at r f h) in
    let is = asked_is g r f s c.requires.run c.typed.result.now c.typed.ensures.same c.sizes.result.now c.sizes.ensures.sizes c.in-Ok.points (c.in-Ok.ensures.points h (sym c.as_slice-loops.ensures)) in
    let told = subst (λ (names : List (List ℕ)). Refuses A (same_name names) c.in-Err-exits.fault) (c.as_slice.ensures ∙ c.in-Ok-names_of.ensures) (c.in-Err-exits.ensures A is refl) in
    subst (λ (x : Fault). IsUnplanned T (case_at r f h) x) (sym c.of_exits.ensures) (exits_stop T r f h c.requires.seated c.in-Err-exits.fault (c.in-Ok-reached.ensures A is) told)

pub returns-in-Ok-exits-clause-found : goal.returns-in-Ok-exits-clause-found
returns-in-Ok-exits-clause-found c =
    let g = c.args.given.now in let r = c.args.run.now in let f = c.args.function.now in let s = c.args.seat.now in
    let h = plain-Home s.home in let T : Text = text_of g in let A : Asked = asked T (case_at r f h) in
    let is = asked_is g r f s c.requires.run c.typed.result.now c.typed.ensures.same c.sizes.result.now c.sizes.ensures.sizes c.in-Ok.points (c.in-Ok.ensures.points h (sym c.as_slice-loops.ensures)) in
    let told = subst (λ (names : List (List ℕ)). Answers A (same_name names) c.in-Ok-exits.planned) (c.as_slice.ensures ∙ c.in-Ok-names_of.ensures) (c.in-Ok-exits.ensures A is refl) in
    exits_planned T r f h c.requires.seated c.in-Ok-exits.planned (c.in-Ok-reached.ensures A is) told
