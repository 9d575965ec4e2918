use Rattle.std.proofs.Common.{◌++◌, reverse, map, ap, ◌∙◌}
use Rattle.rx_exits_plan.specs.Blocks.{declared_by_all}
use Rattle.rx_exits_plan.specs.Runs as runs
use Rattle.rx_exits_plan.specs.PlainPlan.{plain-Run}
use Rattle.rx_exits_plan.specs.PlainSyntax.{plain-Statement, plain-Home}
use Rattle.rx_exits_jumps.proofs.LeavingLemmas.{start_is}
use Rattle.rx_exits_jumps.proofs.leaving.at_start.Goals as goal

pub returns : goal.returns
returns c =
    let h = plain-Home c.args.home.now in
    start_is h.around (runs.in_front (plain-Run c.args.run) h.body) c.push_all_declared.new.variables c.in_ok-loops.loops
    (c.in_ok-push_all_declared.ensures
    ∙ ap (λ s. s ++ declared_by_all (map plain-Statement c.in_front.result.now)) (c.in_ok-scope.ensures ∙ ap reverse c.as_slice-2.ensures)
    ∙ ap (λ ss. reverse c.args.home.now.scope ++ declared_by_all ss) c.in_front.ensures)
    (c.in_ok-loops.ensures ∙ ap reverse c.as_slice.ensures)
