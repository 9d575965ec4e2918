use Rattle.std.proofs.Common.{ℕ, List, Option, subst}
use Rattle.rx_hoist_plan.specs.PlainPlan.{plain-Plan}
use Rattle.rx_engine_extraction.specs.Splicing.{IsRenderedIf}
use Rattle.rx_engine_extraction.proofs.ending.text_of.Goals as goal

pub returns-in-Ok-Some-clause-found : goal.returns-in-Ok-Some-clause-found
returns-in-Ok-Some-clause-found c = λ bs made.
    let pl = plain-Plan c.args.plan.now in
    subst (λ (o : Option (List ℕ)). IsRenderedIf c.args.given.now c.args.run.now pl bs o) c.in-Ok-Some.field-0-is (c.in-Ok-Some.ensures bs made)

pub returns-in-Ok-None-clause-fault : goal.returns-in-Ok-None-clause-fault
returns-in-Ok-None-clause-fault c = λ bs made.
    let pl = plain-Plan c.args.plan.now in
    subst (λ (o : Option (List ℕ)). IsRenderedIf c.args.given.now c.args.run.now pl bs o) c.in-Ok-None.field-0-is (c.in-Ok-None.ensures bs made)

pub returns-in-Err-clause-fault : goal.returns-in-Err-clause-fault
returns-in-Err-clause-fault c = λ bs made. tt
