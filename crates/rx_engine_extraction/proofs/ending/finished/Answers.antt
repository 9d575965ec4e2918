use Rattle.std.proofs.Common.{ap, ◌∙◌}
use Rattle.rx_tree.specs.declared.tree.Program.{Program}
use Rattle.rx_tree.specs.PlainOf.{plain-Program}
use Rattle.rx_check.specs.Front.{Front, IsFrontOf}
use Rattle.rx_hoist_plan.specs.PlainPlan.{plain-Plan}
use Rattle.rx_repair.specs.Named.{named_at}
use Rattle.rx_repair.specs.Repaired.{repaired}
use Rattle.rx_engine_extraction.specs.Ending.{IsUnfronted}
use Rattle.rx_engine_extraction.specs.Made.{run_of}
use Rattle.rx_engine_extraction.specs.Splicing.{IsMadeOf, rendered_by}
use Rattle.rx_engine_extraction.proofs.Outcomes.{if_ok, if_err}
use Rattle.rx_engine_extraction.proofs.Calling.{function_there}
use Rattle.rx_engine_extraction.proofs.Ends.{unfronted_finished}
use Rattle.rx_engine_extraction.proofs.Finishing.{has_function, finished_by, numbered_too, bounded, function_made}
use Rattle.rx_engine_extraction.proofs.ending.finished.Goals as goal

pub returns-in-Err : goal.returns-in-Err
returns-in-Err c = let p = plain-Program c.args.program in
    unfronted_finished (rendered_by c.args.given.now c.args.run.now (plain-Plan c.args.plan.now)) p c.args.new_fn c.in-Err.fault
    (if_err (IsUnfronted p) c.fronted-outcome.result c.in-Err.fault c.in-Err.ensures c.fronted-outcome.ensures.fault)

pub repair-outcome-requires : goal.repair-outcome-requires
repair-outcome-requires c = let p = plain-Program c.args.program in
    has_function c.functions_without_bounds_declare_none.ensures.found p c.args.new_fn c.requires.bare c.in-Ok.both.0
    (if_ok (λ (f : Front). IsFrontOf p f) c.fronted-outcome.result c.in-Ok.both.0 c.in-Ok.ensures.0 c.fronted-outcome.ensures.found)

pub answered-requires-clause-made : goal.answered-requires-clause-made
answered-requires-clause-made c =
    let P = plain-Program c.args.given.now.program.now in let r = c.args.run.now in let pl = plain-Plan c.args.plan.now in
    let p = plain-Program c.args.program in let n = c.args.new_fn in let it = c.in-Ok-outcome.repaired in
    let at = function_there P r.function c.requires.there.function in
    let front = if_ok (λ (f : Front). IsFrontOf p f) c.fronted-outcome.result c.in-Ok.both.0 c.in-Ok.ensures.0 c.fronted-outcome.ensures.found in
    function_made P (run_of r) pl at.0 at.1 at.2 (plain-Program it.program) (named_at p n it.bounds)
    (c.in-Ok-outcome.ensures.program ∙ ap (λ (x : Program). repaired (plain-Program x) n it.bounds) c.in-Ok.ensures.1
    ∙ bounded P (run_of r) pl at.0 at.1 at.2 p n c.requires.made.program c.requires.made.item c.requires.formed c.in-Ok.both.0.typed front.accepted it.bounds)
    n c.requires.made.item

pub answered-requires-clause-numbered : goal.answered-requires-clause-numbered
answered-requires-clause-numbered c = let p = plain-Program c.args.program in let n = c.args.new_fn in let it = c.in-Ok-outcome.repaired in
    numbered_too c.repaired_programs_are_numbered.ensures p n it.bounds (plain-Program it.program)
    (c.in-Ok-outcome.ensures.program ∙ ap (λ (x : Program). repaired (plain-Program x) n it.bounds) c.in-Ok.ensures.1) c.requires.numbered

pub returns-in-Ok-outcome : goal.returns-in-Ok-outcome
returns-in-Ok-outcome c =
    let P = plain-Program c.args.given.now.program.now in let r = c.args.run.now in let pl = plain-Plan c.args.plan.now in
    let p = plain-Program c.args.program in let n = c.args.new_fn in let it = c.in-Ok-outcome.repaired in
    let at = function_there P r.function c.requires.there.function in
    let front = if_ok (λ (f : Front). IsFrontOf p f) c.fronted-outcome.result c.in-Ok.both.0 c.in-Ok.ensures.0 c.fronted-outcome.ensures.found in
    let same = c.in-Ok-outcome.ensures.program ∙ ap (λ (x : Program). repaired (plain-Program x) n it.bounds) c.in-Ok.ensures.1 in
    let names = named_at p n it.bounds in
    let made : IsMadeOf c.args.given.now r pl (plain-Program it.program) n names = record {
      program = same ∙ bounded P (run_of r) pl at.0 at.1 at.2 p n c.requires.made.program c.requires.made.item c.requires.formed c.in-Ok.both.0.typed front.accepted it.bounds;
      item = c.requires.made.item;
    } in
    finished_by c.functions_without_bounds_declare_none.ensures.found p n c.requires.bare c.in-Ok.both.0 front
    (rendered_by c.args.given.now c.args.run.now pl) it.bounds (plain-Program it.program) same
    c.in-Ok-outcome.ensures.needs c.answered.result (c.answered.ensures.found names made) (c.answered.ensures.fault names made)
