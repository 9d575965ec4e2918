use Rattle.std.proofs.Common.{◌≡◌, ◌+◌, List, map, drop, ap, ◌∙◌}
use Rattle.rx_tree.specs.declared.tree.Pattern.{Pattern}
use Rattle.rx_tree.specs.PlainOf.{plain-Pattern, plain-Stmt}
use Rattle.rx_hoist_plan.specs.declared.plan.Variable.{Variable}
use Rattle.rx_hoist_plan.specs.PlainPlan.{plain-Variable}
use Rattle.rx_hoist_extraction.specs.Names.{declared_by}
use Rattle.rx_hoist_extraction.specs.Values.{variables_held}
use Rattle.rx_hoist_made.specs.Rows.{nth_name}
use Rattle.rx_hoist_made.proofs.Dropped.{drop_is, held_ok, mapped_on, on_ok}
use Rattle.rx_hoist_items.specs.Calling.{all_received, held_value, received}
use Rattle.rx_hoist_items.proofs.CallLemmas.{next_received}
use Rattle.rx_hoist_items.proofs.receiving.with_received.Goals as goal

pub loop-out-preserved : goal.loop-out-preserved
loop-out-preserved c =
    let own = declared_by (map plain-Stmt c.args.run.now) in
    let row = c.loop-out.row in
    let more = c.received.new.row in
    let v = held_value (plain-Variable c.out-item.result) in
    let left = variables_held (map plain-Variable (drop (c.loop-out.out-index + 1) c.args.outs.now)) in
    let cut = drop_is c.args.outs.now c.loop-out.out-index c.out-item.result c.loop-out-test.true c.out-item.is in
    let moved : more ≡ drop 1 row = on_ok _ c.received.result c.in_ok-next.next c.received.ensures.rest c.in_ok-next.ensures.0 in
    let made : plain-Pattern c.in_ok-next.next ≡ received c.args.span own (nth_name row) 0 v =
    held_ok (λ (it : Pattern). plain-Pattern it ≡ received c.args.span own (nth_name row) 0 v) c.received.result c.in_ok-next.next c.received.ensures.made c.in_ok-next.ensures.0 in
    mapped_on plain-Pattern c.loop-out.all c.in_ok-next.held c.in_ok-all.all c.in_ok-next.next (received c.args.span own (nth_name row) 0 v)
    (all_received c.args.span own (nth_name row) 0 (variables_held (map plain-Variable (drop c.loop-out.out-index c.args.outs.now))))
    (all_received c.args.span own (nth_name more) 0 left) _ c.loop-out.invariant
    (ap (λ (vs : List Variable). all_received c.args.span own (nth_name row) 0 (variables_held (map plain-Variable vs))) cut ∙ next_received c.args.span own row more v left moved)
    c.in_ok-next.ensures.1 made c.in_ok-all.ensures
