use Rattle.std.proofs.Common.{◌≡◌, ◌++◌, map, drop}
use Rattle.rx_exits_plan.specs.Exits as exits
use Rattle.rx_exits_plan.specs.PlainPlan.{plain-Exit}
use Rattle.rx_exits_plan.specs.PlainSyntax.{plain-Jump}
use Rattle.rx_exits_jumps.proofs.leaving.push_loops.Given as goal

abbrev pub invariant-loop-number : goal.invariant-loop-number
invariant-loop-number l =
    map plain-Exit l.taken.items ++ exits.of_loops (drop l.number-index l.loops) (map plain-Jump l.jumps) ≡ map plain-Exit l.fn.taken.items ++ exits.of_loops l.fn.loops (map plain-Jump l.fn.jumps)
