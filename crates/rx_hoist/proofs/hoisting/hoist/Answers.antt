use Rattle.std.proofs.Common.{ap, ◌∙◌}
use Rattle.rx_tree.specs.PlainOf.{plain-Func, plain-Program}
use Rattle.rx_hoist_plan.specs.PlainPlan.{plain-Plan}
use Rattle.rx_hoist.specs.Runs.{run_of}
use Rattle.rx_hoist.specs.Hoisting as hoisting
use Rattle.rx_hoist.proofs.PlaceLemmas.{extraction_is}
use Rattle.rx_hoist.proofs.hoisting.hoist.Goals as goal

pub returns-clause-program : goal.returns-clause-program
returns-clause-program c =
    let P = plain-Program c.args.program.now in
    let pl = plain-Plan c.args.plan.now in
    let r = run_of c.args.run.now in
    let s = c.function_at.result.0 in
    let f = plain-Func c.function_at.result.1.now in
    c.in_ok-outcome.ensures.program
    ∙ ap (λ b. hoisting.with_items P r.item (hoisting.items_in P r pl b s f)) c.in_ok-body.ensures
    ∙ extraction_is P r pl s f c.function_at.ensures
