use Rattle.std.proofs.Common.{List, ◌++◌, map, ap, ◌∙◌}
use Rattle.rx_exits_plan.specs.Runs as runs
use Rattle.rx_exits_plan.specs.Spots.{Around, Spot}
use Rattle.rx_exits_plan.specs.Exits as exits
use Rattle.rx_exits_plan.specs.PlainPlan.{plain-Run}
use Rattle.rx_exits_plan.specs.PlainSyntax.{plain-Around, plain-Home, plain-Jump}
use Rattle.rx_exits_jumps.specs.PlainSought.{plain-Found}
use Rattle.rx_exits_jumps.proofs.LeavingLemmas.{jumps_of}
use Rattle.rx_exits_jumps.proofs.leaving.jumps.Goals as goal

pub returns : goal.returns
returns c =
    let r = plain-Run c.args.run in
    let b = (plain-Home c.args.home.now).body in
    let ls = c.args.home.now.loops in
    let spots : Around → List Spot = λ a. exits.spots_in_statements a (runs.inside r b) ++ exits.spots_in_value (exits.past (runs.inside r b) a) (runs.last_value r b) in
    jumps_of ls (plain-Found (record { homes = c.new.result; jumps = c.new-2.result })) (plain-Found c.see_run.new.found) (spots (plain-Around c.in_ok-around.around)) c.in_ok-see_run.ensures (ap (map plain-Jump) c.new-2.ensures)
    ∙ ap (λ (a : Around). exits.leaving ls (spots a)) c.in_ok-around.ensures
