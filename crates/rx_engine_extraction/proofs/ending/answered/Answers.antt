use Rattle.std.proofs.Common.{◌≡◌, true, List, slice_get, sym, subst}
use Rattle.std.specs.Prelude.{IfOk, IfErr}
use Rattle.rx_core.specs.declared.types.Bound.{Bound}
use Rattle.rx_tree.specs.declared.tree.Program.{Program}
use Rattle.rx_tree.specs.PlainOf.{plain-Program}
use Rattle.rx_hoist.specs.Runs.{is_function}
use Rattle.rx_hoist_plan.specs.PlainPlan.{plain-Plan}
use Rattle.rx_check.specs.Passes.{Accepted}
use Rattle.rx_engine_extraction.specs.declared.refusal.Answer.{Answer}
use Rattle.rx_engine_extraction.specs.declared.refusal.Fault.{Fault}
use Rattle.rx_engine_extraction.specs.Ending.{IsUnchecked, IsPrinted, IsUnprinted, IsAnswered, IsUnanswered}
use Rattle.rx_engine_extraction.specs.Splicing.{IsMadeOf, rendered_by}
use Rattle.rx_engine_extraction.proofs.Outcomes.{if_ok, if_err, map_ok, map_err}
use Rattle.rx_engine_extraction.proofs.Ends.{unchecked_kept, unprinted_kept}
use Rattle.rx_engine_extraction.proofs.ending.answered.Goals as goal

pub returns-in-Err-clause-fault : goal.returns-in-Err-clause-fault
returns-in-Err-clause-fault c = λ bs made.
    let p = plain-Program c.args.repaired.program in
    unchecked_kept (rendered_by c.args.given.now c.args.run.now (plain-Plan c.args.plan.now) bs) p c.in-Err.fault
    (if_err (IsUnchecked p) c.rechecked-outcome.result c.in-Err.fault c.in-Err.ensures c.rechecked-outcome.ensures.fault)

pub printed-requires-clause-made : goal.printed-requires-clause-made
printed-requires-clause-made c =
    subst (λ (x : Program × List Bound). is_function (slice_get (plain-Program x.0) c.args.new_fn) ≡ true) (sym c.in-Ok.ensures.1) c.requires.made

pub returns-clause-found : goal.returns-clause-found
returns-clause-found c = λ bs made.
    let p = plain-Program c.args.repaired.program in let g = c.args.given.now in let r = c.args.run.now in let pl = plain-Plan c.args.plan.now in
    let accepted = if_ok (λ _. Accepted p) c.rechecked-outcome.result c.in-Ok.both.0 c.in-Ok.ensures.0 c.rechecked-outcome.ensures.accepted in
    map_ok (λ (a : Answer). IsPrinted (rendered_by g r pl bs) c.args.repaired.bounds a) (λ (a : Answer). IsAnswered (rendered_by g r pl bs) p c.args.repaired.bounds a)
    (λ a h. record { accepted = accepted; printed = h }) c.printed.result
    (subst (λ (x : Program × List Bound). IsMadeOf g r pl (plain-Program x.0) c.args.new_fn bs → IfOk c.printed.result (λ (a : Answer). IsPrinted (rendered_by g r pl bs) x.1 a))
    c.in-Ok.ensures.1 (c.printed.ensures.found bs) made)

pub returns-clause-fault : goal.returns-clause-fault
returns-clause-fault c = λ bs made.
    let p = plain-Program c.args.repaired.program in let g = c.args.given.now in let r = c.args.run.now in let pl = plain-Plan c.args.plan.now in
    let accepted = if_ok (λ _. Accepted p) c.rechecked-outcome.result c.in-Ok.both.0 c.in-Ok.ensures.0 c.rechecked-outcome.ensures.accepted in
    map_err (λ (f : Fault). IsUnprinted (rendered_by g r pl bs) f) (λ (f : Fault). IsUnanswered (rendered_by g r pl bs) p f)
    (λ f h. unprinted_kept (rendered_by g r pl bs) p accepted f h) c.printed.result
    (subst (λ (x : Program × List Bound). IsMadeOf g r pl (plain-Program x.0) c.args.new_fn bs → IfErr c.printed.result (λ (f : Fault). IsUnprinted (rendered_by g r pl bs) f))
    c.in-Ok.ensures.1 (c.printed.ensures.fault bs) made)
