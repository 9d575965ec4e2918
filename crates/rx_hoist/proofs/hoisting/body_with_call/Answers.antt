use Rattle.std.proofs.Common.{◌≡◌, [], ap, sym, ◌∙◌}
use Rattle.rx_tree.specs.declared.tree.Block.{Block, out-Block}
use Rattle.rx_tree.specs.PlainOf.{plain-Block, plain-Program}
use Rattle.rx_hoist_plan.specs.PlainPlan.{plain-Plan}
use Rattle.rx_hoist_extraction.specs.Changed.{changed_body}
use Rattle.rx_hoist_extraction.specs.Extraction.{replacing}
use Rattle.rx_hoist_made.specs.PlainParts.{plain-Labels}
use Rattle.rx_hoist_made.proofs.Dropped.{ok_map}
use Rattle.rx_hoist.specs.Runs.{run_of}
use Rattle.rx_hoist.specs.Hoisting as hoisting
use Rattle.rx_hoist.proofs.PlaceLemmas.{block_place}
use Rattle.rx_hoist.proofs.hoisting.body_with_call.Goals as goal

pub returns : goal.returns
returns c =
    let P = plain-Program c.args.program.now in
    let pl = plain-Plan c.args.plan.now in
    let r = run_of c.args.run.now in
    let labels = plain-Labels c.args.site.labels.now in
    let block = c.args.site.block.now in
    let body = plain-Block c.args.site.body.now in
    ok_map _ (λ (it : Block). plain-Block it ≡ hoisting.body_with_call P r pl labels (plain-Block block) body) c.with_block-body.result
    (λ it e. e ∙ ap (λ n. changed_body (replacing (out-Block block).span n) [] [] body) c.in_ok-new.ensures
    ∙ ap (λ s. changed_body (replacing s (hoisting.block_with_call P r pl labels (plain-Block block))) [] [] body) (sym (block_place block)))
    c.with_block-body.ensures
