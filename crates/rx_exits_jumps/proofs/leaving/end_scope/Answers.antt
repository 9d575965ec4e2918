use Rattle.std.proofs.Common.{◌++◌, reverse, ap, ◌∙◌}
use Rattle.rx_exits_plan.specs.Blocks.{declared_by_all}
use Rattle.rx_exits_plan.specs.Runs as runs
use Rattle.rx_exits_plan.specs.Exits as exits
use Rattle.rx_exits_plan.specs.PlainPlan.{plain-Run}
use Rattle.rx_exits_plan.specs.PlainSyntax.{plain-Home}
use Rattle.rx_exits_jumps.proofs.LeavingLemmas.{end_is, scope_as}
use Rattle.rx_exits_jumps.proofs.leaving.end_scope.Goals as goal

pub returns : goal.returns
returns c =
    let r = plain-Run c.args.run in
    let h = plain-Home c.args.home.now in
    scope_as c.reversed.result _ _
    (ap reverse c.as_slice.ensures
    ∙ end_is c.in_ok-around.around (exits.at_start r h) (runs.inside r h.body) c.push_all_declared.new.variables c.in_ok-around.ensures
    (c.in_ok-push_all_declared.ensures ∙ ap (λ ss. c.in_ok-around.around.scope ++ declared_by_all ss) c.inside.ensures))
    c.reversed.ensures
