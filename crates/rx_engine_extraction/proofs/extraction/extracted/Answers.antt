use Rattle.rx_tree.specs.PlainOf.{plain-Program}
use Rattle.rx_hoist_plan.specs.PlainPlan.{plain-Plan}
use Rattle.rx_hoist_extraction.specs.Extraction.{added}
use Rattle.rx_engine_extraction.specs.Source.{Wish}
use Rattle.rx_engine_extraction.specs.Made.{named}
use Rattle.rx_engine_extraction.specs.Deciding.{text_of, case_of}
use Rattle.rx_engine_extraction.proofs.Starting.{stopped_answer, is_told, is_behind}
use Rattle.rx_engine_extraction.proofs.Answering.{concluded, stopped, hoisted_function, hoisted_program, hoisted_item}
use Rattle.rx_engine_extraction.proofs.extraction.extracted.Goals as goal

pub returns-in-Err : goal.returns-in-Err
returns-in-Err g c = let q = c.args.request.now in record {
  verdict = λ bytes is.
      stopped_answer bytes (text_of c.args.given.now) is (record { start = q.selection.start; end = q.selection.end; name = q.name.now; choice = g.P.Policy.choice c.args.policy.now })
      c.in-Err.fault c.in-Err.ensures.fault;
}

pub finished-requires-clause-there : goal.finished-requires-clause-there
finished-requires-clause-there g c = let q = c.args.request.now in let x = c.in-Ok.hoisting in let is = c.in-Ok.ensures.found in let T = text_of c.args.given.now in
    let w : Wish = record { start = q.selection.start; end = q.selection.end; name = q.name.now; choice = g.P.Policy.choice c.args.policy.now } in
    record { text = c.requires.text; function = hoisted_function T w (case_of T x.decision) (plain-Plan x.decision.plans.named) is.plan (plain-Program x.made.program) x.made.new_fn is.hoisted }

pub finished-requires-clause-made : goal.finished-requires-clause-made
finished-requires-clause-made g c = let q = c.args.request.now in let x = c.in-Ok.hoisting in let is = c.in-Ok.ensures.found in let T = text_of c.args.given.now in
    let w : Wish = record { start = q.selection.start; end = q.selection.end; name = q.name.now; choice = g.P.Policy.choice c.args.policy.now } in
    record {
      program = hoisted_program T w (case_of T x.decision) (plain-Plan x.decision.plans.named) is.plan (plain-Program x.made.program) x.made.new_fn is.hoisted;
      item = hoisted_item T w (case_of T x.decision) (plain-Plan x.decision.plans.named) is.plan (plain-Program x.made.program) x.made.new_fn is.hoisted;
    }

pub finished-requires-clause-numbered : goal.finished-requires-clause-numbered
finished-requires-clause-numbered g c = let is = c.in-Ok.ensures.found in let h = is.hoisted in h.numbered

pub finished-requires-clause-bare : goal.finished-requires-clause-bare
finished-requires-clause-bare g c = let is = c.in-Ok.ensures.found in let h = is.hoisted in h.bare

pub finished-requires-clause-formed : goal.finished-requires-clause-formed
finished-requires-clause-formed g c = let is = c.in-Ok.ensures.found in let h = is.hoisted in h.formed

pub confirmed-requires-clause-told : goal.confirmed-requires-clause-told
confirmed-requires-clause-told g c = let q = c.args.request.now in
    let w : Wish = record { start = q.selection.start; end = q.selection.end; name = q.name.now; choice = g.P.Policy.choice c.args.policy.now } in
    is_told (text_of c.args.given.now) w c.in-Ok.hoisting c.in-Ok.ensures.found

pub confirmed-requires-clause-behind : goal.confirmed-requires-clause-behind
confirmed-requires-clause-behind g c = let q = c.args.request.now in let x = c.in-Ok.hoisting in let is = c.in-Ok.ensures.found in let T = text_of c.args.given.now in
    let w : Wish = record { start = q.selection.start; end = q.selection.end; name = q.name.now; choice = g.P.Policy.choice c.args.policy.now } in let h = is.hoisted in
    is_behind x.made.new_fn x.decision.run.function (added (named T w (case_of T x.decision))) h.item

pub confirmed-requires-clause-short : goal.confirmed-requires-clause-short
confirmed-requires-clause-short g c = let ended = c.in-Ok-finished.ensures in ended.answered.printed.short

pub returns-in-Ok-finished : goal.returns-in-Ok-finished
returns-in-Ok-finished g c = let q = c.args.request.now in let x = c.in-Ok.hoisting in let is = c.in-Ok.ensures.found in let T = text_of c.args.given.now in
    let w : Wish = record { start = q.selection.start; end = q.selection.end; name = q.name.now; choice = g.P.Policy.choice c.args.policy.now } in record {
      verdict = λ bytes reads. concluded c.passed_or_faulty.ensures.fronted c.passed_or_faulty.ensures.accepted c.causes_are_one.ensures
          bytes T w reads (case_of T x.decision) (plain-Program x.made.program) x.made.new_fn is.hoisted (plain-Plan x.decision.plans.named) is.plan
          c.in-Ok-finished.answer c.in-Ok-finished.ensures c.confirmed.result c.confirmed.ensures;
    }

pub returns : goal.returns
returns g c = let q = c.args.request.now in let x = c.in-Ok.hoisting in let is = c.in-Ok.ensures.found in let T = text_of c.args.given.now in
    let w : Wish = record { start = q.selection.start; end = q.selection.end; name = q.name.now; choice = g.P.Policy.choice c.args.policy.now } in record {
      verdict = λ bytes reads. stopped c.passed_or_faulty.ensures.fronted c.passed_or_faulty.ensures.accepted c.causes_are_one.ensures
          bytes T w reads (case_of T x.decision) (plain-Program x.made.program) x.made.new_fn is.hoisted (plain-Plan x.decision.plans.named) is.plan
          c.in-Err-finished.fault c.in-Err-finished.ensures;
    }
