use Rattle.std.proofs.Common.{◌≡◌, map, drop}
use Rattle.rx_exits_plan.specs.Exits as exits
use Rattle.rx_exits_plan.specs.PlainPlan.{plain-Exit}
use Rattle.rx_exits_plan.specs.PlainSyntax.{plain-Jump}
use Rattle.rx_exits_jumps.proofs.leaving.is_taken.Given as goal

abbrev pub invariant-loop-jump : goal.invariant-loop-jump
invariant-loop-jump l = exits.is_taken (plain-Exit l.exit) (map plain-Jump (drop l.jump-index l.jumps)) ≡ exits.is_taken (plain-Exit l.fn.exit) (map plain-Jump l.fn.jumps)
