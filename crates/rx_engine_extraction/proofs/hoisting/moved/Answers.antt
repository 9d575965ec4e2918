use Rattle.std.proofs.Common.{ap, sym, subst, ◌∙◌}
use Rattle.rx_tree.specs.declared.tree.Program.{Program}
use Rattle.rx_tree.specs.PlainOf.{plain-Program}
use Rattle.rx_hoist_plan.specs.PlainPlan.{plain-Plan}
use Rattle.rx_engine_extraction.specs.declared.refusal.Fault.{Fault}
use Rattle.rx_engine_extraction.specs.Deciding.{text_of}
use Rattle.rx_engine_extraction.specs.Moving.{IsUnmoved, IsWithin, IsNotWithin}
use Rattle.rx_engine_extraction.proofs.Outcomes.{if_ok, if_err}
use Rattle.rx_engine_extraction.proofs.Calling.{function_there, unhoisted, outside, moved_by}
use Rattle.rx_engine_extraction.proofs.hoisting.moved.Goals as goal

pub returns-in-Err-clause-fault : goal.returns-in-Err-clause-fault
returns-in-Err-clause-fault c =
    let T = text_of c.args.given.now in let r = c.args.run.now in let pl = plain-Plan c.args.plan.now in
    let there = function_there T.program r.function c.requires.function in
    subst (λ (x : Fault). IsUnmoved T r pl x) (sym c.of_hoist.ensures) (unhoisted T r pl there.0 there.1 there.2 c.in-Err.fault c.in-Err.ensures.limit)

pub within-outcome-requires-clause-there : goal.within-outcome-requires-clause-there
within-outcome-requires-clause-there c = record { text = c.requires.text; function = c.requires.function }

pub within-outcome-requires-clause-made : goal.within-outcome-requires-clause-made
within-outcome-requires-clause-made c = record { program = c.in-Ok.ensures.program; item = c.in-Ok.ensures.number }

pub returns-in-Ok-keep-clause-found : goal.returns-in-Ok-keep-clause-found
returns-in-Ok-keep-clause-found c =
    let T = text_of c.args.given.now in let r = c.args.run.now in let pl = plain-Plan c.args.plan.now in
    let there = function_there T.program r.function c.requires.function in
    let q = plain-Program c.in-Ok.hoisted.program in let kept = plain-Program c.in-Ok-keep.program in
    let is_within = if_ok (λ _. IsWithin T r pl q) c.within-outcome.result c.in-Ok-keep.field-0-0 c.in-Ok-keep.ensures.0 c.within-outcome.ensures.found in
    moved_by T r pl there.0 there.1 there.2 c.in-Ok.ensures.limit kept (ap (λ (x : Program). plain-Program x) c.in-Ok-keep.ensures.1 ∙ c.in-Ok.ensures.program)
    c.short_texts_are_numbered.ensures c.requires.formed c.in-Ok.hoisted.new_fn c.in-Ok.ensures.number
    (subst (λ (x : Program). IsWithin T r pl (plain-Program x)) (sym c.in-Ok-keep.ensures.1) is_within)

pub returns-in-Err-keep-clause-fault : goal.returns-in-Err-keep-clause-fault
returns-in-Err-keep-clause-fault c =
    let T = text_of c.args.given.now in let r = c.args.run.now in let pl = plain-Plan c.args.plan.now in
    let there = function_there T.program r.function c.requires.function in
    let q = plain-Program c.in-Ok.hoisted.program in let f = c.in-Err-keep.fault in
    let told_not = if_err (λ (x : Fault). IsNotWithin T r pl q x) c.within-outcome.result f c.in-Err-keep.ensures c.within-outcome.ensures.fault in
    outside T r pl there.0 there.1 there.2 c.in-Ok.ensures.limit q c.in-Ok.ensures.program f told_not
