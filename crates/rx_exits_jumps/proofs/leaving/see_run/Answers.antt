use Rattle.std.proofs.Common.{◌++◌, map}
use Rattle.rx_exits_plan.specs.Runs as runs
use Rattle.rx_exits_plan.specs.Exits as exits
use Rattle.rx_exits_plan.specs.PlainPlan.{plain-Run}
use Rattle.rx_exits_plan.specs.PlainSyntax.{plain-Statement, plain-Around, plain-Home, plain-Value}
use Rattle.rx_exits_jumps.specs.PlainSought.{plain-Found}
use Rattle.rx_exits_jumps.proofs.LeavingLemmas.{run_seen, run_seen_as}
use Rattle.rx_exits_jumps.proofs.leaving.see_run.Goals as goal

pub returns : goal.returns
returns c =
    let r = plain-Run c.args.run in
    let b = (plain-Home c.args.home.now).body in
    let ls = c.as_slice.result.now in
    run_seen_as c.args.home.now.loops ls c.see_value.result (plain-Found c.args.found.now) (plain-Found c.see_value.new.found)
    (exits.spots_in_statements (plain-Around c.args.around.now) (runs.inside r b) ++ exits.spots_in_value (exits.past (runs.inside r b) (plain-Around c.args.around.now)) (runs.last_value r b))
    c.as_slice.ensures
    (run_seen ls c.see_value.result (plain-Found c.args.found.now) (plain-Found c.see_stmts.new.found) (plain-Found c.see_value.new.found) c.args.around.now c.see_stmts.new.around
    (runs.inside r b) (map plain-Statement c.inside.result.now) (runs.last_value r b) (plain-Value c.last_value.result) c.inside.ensures c.last_value.ensures
    c.in_ok-see_stmts.ensures.found c.in_ok-see_stmts.ensures.around c.see_value.ensures)
