use Rattle.std.proofs.Common.{◌≡◌, ap, ◌∙◌}
use Rattle.rx_tree.specs.declared.tree.Block.{Block}
use Rattle.rx_tree.specs.PlainOf.{plain-Block, plain-Program}
use Rattle.rx_hoist_plan.specs.PlainPlan.{plain-Plan}
use Rattle.rx_hoist_extraction.specs.Run.{with_parts as with_parts_of}
use Rattle.rx_hoist_extraction.specs.Call.{replacement as replacement_of}
use Rattle.rx_hoist_made.specs.PlainParts.{plain-Labels}
use Rattle.rx_hoist_made.proofs.Dropped.{ok_map}
use Rattle.rx_hoist.specs.Runs.{run_of}
use Rattle.rx_hoist.specs.Hoisting as hoisting
use Rattle.rx_hoist.proofs.hoisting.block_with_call.Goals as goal

pub returns : goal.returns
returns c =
    let P = plain-Program c.args.program.now in
    let pl = plain-Plan c.args.plan.now in
    let r = run_of c.args.run.now in
    let labels = plain-Labels c.args.labels.now in
    let b = plain-Block c.args.block.now in
    ok_map _ (λ (it : Block). plain-Block it ≡ hoisting.block_with_call P r pl labels b) c.with_parts.result
    (λ it e. e ∙ ap (λ p. with_parts_of r p b) (c.in_ok-call.ensures ∙ ap (replacement_of P pl r.span labels) c.run_parts-parts.ensures))
    c.with_parts.ensures
