use Rattle.std.proofs.Common.{◌≡◌, List, ap, map, ◌∙◌}
use Rattle.rx_tree.specs.declared.tree.Item.{Item}
use Rattle.rx_tree.specs.Plain as plain
use Rattle.rx_tree.specs.Plain.{Body, Function}
use Rattle.rx_tree.specs.PlainOf.{plain-Block, plain-Func, plain-Item, plain-Program}
use Rattle.rx_hoist_plan.specs.PlainPlan.{plain-Plan}
use Rattle.rx_hoist_extraction.specs.Run.{chosen_parts}
use Rattle.rx_hoist_made.specs.PlainParts.{plain-Labels}
use Rattle.rx_hoist_made.proofs.Dropped.{held_ok, ok_map}
use Rattle.rx_hoist.specs.Runs.{run_of}
use Rattle.rx_hoist.specs.Hoisting as hoisting
use Rattle.rx_hoist.proofs.HoistingLemmas.{items_all}
use Rattle.rx_hoist.proofs.hoisting.items_of.Goals as goal

pub returns : goal.returns
returns c =
    let P = plain-Program c.args.program.now in
    let pl = plain-Plan c.args.plan.now in
    let r = run_of c.args.run.now in
    let labels = plain-Labels c.args.site.labels.now in
    let block = plain-Block c.args.site.block.now in
    let body = plain-Block c.args.site.body.now in
    let f = plain-Func c.args.function.now in
    let with_body : Body → Function = λ b. record f { body = b } in
    let new = held_ok (λ (it : Item). plain-Item it ≡ hoisting.function_item P r pl labels (chosen_parts r block)) c.function_item-new.result c.in_ok-new.new c.function_item-new.ensures c.in_ok-new.ensures.0 in
    ok_map _ (λ (it : List Item). map plain-Item it ≡ hoisting.items_of P r pl labels block body c.args.span f) c.pushed.result
    (λ it e. items_all it c.in_ok-new.items c.in_ok-items.items c.in_ok-new.new _ (plain.function_item c.args.span (with_body (hoisting.body_with_call P r pl labels block body))) _ _
    c.in_ok-items.ensures (ap (plain.function_item c.args.span) (c.in_ok-with_body.ensures ∙ ap with_body c.in_ok-body.ensures)) c.in_ok-new.ensures.1 e new)
    c.pushed.ensures
