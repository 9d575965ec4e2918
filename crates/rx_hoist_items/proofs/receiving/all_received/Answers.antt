use Rattle.std.proofs.Common.{◌≡◌, ◌++◌, List, map, ◌∙◌}
use Rattle.rx_tree.specs.declared.tree.Pattern.{Pattern}
use Rattle.rx_tree.specs.PlainOf.{plain-Pattern, plain-Stmt}
use Rattle.rx_hoist_plan.specs.PlainPlan.{plain-Variable}
use Rattle.rx_hoist_extraction.specs.Names.{declared_by}
use Rattle.rx_hoist_extraction.specs.Values.{variables_held}
use Rattle.rx_hoist_made.specs.PlainHanded.{plain-Handed}
use Rattle.rx_hoist_made.specs.Rows.{nth_name}
use Rattle.rx_hoist_made.proofs.Dropped.{ok_map}
use Rattle.rx_hoist_items.specs.Calling.{all_received}
use Rattle.rx_hoist_items.proofs.ReceivedLemmas.{handed_received}
use Rattle.rx_hoist_items.proofs.receiving.all_received.Goals as goal

pub returns-in_ok-patterns-in-Some : goal.returns-in_ok-patterns-in-Some
returns-in_ok-patterns-in-Some c =
    let own = declared_by (map plain-Stmt c.args.run.now) in
    let front = map plain-Pattern c.in_ok-patterns-in-Some.patterns in
    let whole = handed_received c.args.span own c.args.names.now c.new-row.result c.next_name.new.self _ c.args.handed c.in-Some.field-0 c.new.result c.in_ok-patterns-in-Some.patterns c.in_ok-first-in-Some.first
    c.in-Some.is c.new-row.ensures c.next_name.ensures.rest c.in_ok-name-in-Some.ensures.name c.in_ok-first-in-Some.ensures c.new.ensures c.in_ok-patterns-in-Some.ensures in
    ok_map
    (λ (it : List Pattern). map plain-Pattern it ≡ front ++ all_received c.args.span own (nth_name c.next_name.new.self) 0 (variables_held (map plain-Variable c.args.handed.outs.now)))
    (λ (it : List Pattern). map plain-Pattern it ≡ all_received c.args.span own (nth_name c.args.names.now) 0 (plain-Handed c.args.handed))
    c.with_received.result (λ it made. made ∙ whole) c.with_received.ensures
