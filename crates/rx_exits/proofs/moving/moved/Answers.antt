use Rattle.std.proofs.Common.{◌++◌, ap, ◌∙◌}
use Rattle.rx_lower_walks.specs.Orders.{order_function}
use Rattle.rx_lower_walks.specs.Walks.{actions_in}
use Rattle.rx_lower_walks.specs.PlainFlow.{plain-Flow}
use Rattle.rx_exits_plan.specs.PlainPlan.{plain-Run}
use Rattle.rx_exits_plan.specs.PlainSyntax.{plain-Home}
use Rattle.rx_exits_tree.proofs.Actions.{alone_actions}
use Rattle.rx_exits.specs.Moving.{moved_in, moved_in_flow}
use Rattle.rx_exits.proofs.Listing.{if_ok}
use Rattle.rx_exits.proofs.moving.moved.Goals as goal

pub returns : goal.returns
returns c =
    if_ok _ _ c.with_flow-found.result (λ l h. h ∙ ap (λ k. k ++ moved_in_flow (plain-Flow c.in_ok-flow.flow)) c.new.ensures
    ∙ ap (λ o. moved_in (actions_in o)) c.in_ok-flow.ensures ∙ ap (λ f. moved_in (actions_in (order_function f))) c.in_ok-alone.ensures
    ∙ ap moved_in (alone_actions (plain-Run c.args.run) (plain-Home c.args.home.now).body)) c.with_flow-found.ensures
