use Rattle.std.proofs.Common.{◌≡◌, ◌++◌, List, map, ap, ◌∙◌}
use Rattle.rx_tree.specs.declared.tree.Stmt.{Stmt}
use Rattle.rx_tree.specs.PlainOf.{plain-Stmt}
use Rattle.rx_hoist_plan.specs.PlainPlan.{plain-Variable}
use Rattle.rx_hoist_extraction.specs.Names.{declared_by}
use Rattle.rx_hoist_extraction.specs.Values.{variables_held}
use Rattle.rx_hoist_made.specs.PlainHanded.{plain-Handed}
use Rattle.rx_hoist_made.specs.Rows.{nth_name}
use Rattle.rx_hoist_made.proofs.Dropped.{ok_map}
use Rattle.rx_hoist_items.specs.Calling.{all_put_back}
use Rattle.rx_hoist_items.proofs.ReceivedLemmas.{handed_put}
use Rattle.rx_hoist_items.proofs.receiving.all_put_back.Goals as goal

pub returns-in-Some : goal.returns-in-Some
returns-in-Some c =
    let own = declared_by (map plain-Stmt c.args.run.now) in
    let front = map plain-Stmt c.args.stmts in
    let behind = handed_put c.args.span own c.args.names.now c.new-row.result c.skip.new.self c.args.handed c.in-Some.field-0 c.in-Some.is c.new-row.ensures c.skip.ensures in
    ok_map
    (λ (it : List Stmt). map plain-Stmt it ≡ front ++ all_put_back c.args.span own (nth_name c.skip.new.self) 0 (variables_held (map plain-Variable c.args.handed.outs.now)))
    (λ (it : List Stmt). map plain-Stmt it ≡ front ++ all_put_back c.args.span own (nth_name c.args.names.now) 0 (plain-Handed c.args.handed))
    c.with_all_put.result (λ it made. made ∙ ap (λ l. front ++ l) behind) c.with_all_put.ensures
