use Rattle.std.proofs.Common.{◌≡◌, ◌+◌, ◌++◌, List, map, drop, ap, sym, ◌∙◌, append_assoc}
use Rattle.rx_tree.specs.PlainOf.{plain-Stmt}
use Rattle.rx_hoist_plan.specs.declared.plan.Variable.{Variable}
use Rattle.rx_hoist_plan.specs.PlainPlan.{plain-Variable}
use Rattle.rx_hoist_extraction.specs.Names.{declared_by}
use Rattle.rx_hoist_extraction.specs.Values.{variables_held}
use Rattle.rx_hoist_made.specs.Rows.{nth_name}
use Rattle.rx_hoist_made.proofs.Dropped.{drop_is}
use Rattle.rx_hoist_items.specs.Calling.{all_put_back, held_value, put_back}
use Rattle.rx_hoist_items.proofs.CallLemmas.{next_put}
use Rattle.rx_hoist_items.proofs.receiving.with_all_put.Goals as goal

pub loop-out-preserved : goal.loop-out-preserved
loop-out-preserved c =
    let own = declared_by (map plain-Stmt c.args.run.now) in
    let row = c.loop-out.row in
    let more = c.with_put.new.row in
    let v = held_value (plain-Variable c.out-item.result) in
    let left = variables_held (map plain-Variable (drop (c.loop-out.out-index + 1) c.args.outs.now)) in
    let cut = drop_is c.args.outs.now c.loop-out.out-index c.out-item.result c.loop-out-test.true c.out-item.is in
    let moved : more ≡ drop 1 row = c.in_ok-all.ensures.rest in
    ap (λ l. l ++ all_put_back c.args.span own (nth_name more) 0 left) c.in_ok-all.ensures.made
    ∙ append_assoc (map plain-Stmt c.loop-out.all) (put_back c.args.span own (nth_name row) 0 v) (all_put_back c.args.span own (nth_name more) 0 left)
    ∙ ap (λ l. map plain-Stmt c.loop-out.all ++ l)
    (sym (ap (λ (vs : List Variable). all_put_back c.args.span own (nth_name row) 0 (variables_held (map plain-Variable vs))) cut
    ∙ next_put c.args.span own row more v left moved))
    ∙ c.loop-out.invariant
