-- The first of all is the first of those that are left.
use Rattle.std.proofs.Common.{◌≡◌, drop, map}
use Rattle.rx_exits_plan.specs.PlainPlan.{plain-Exit}
use Rattle.rx_exits_plan.specs.Unreachable.{first_of}
use Rattle.rx_exits_plan.specs.PlainSyntax.{plain-Jump}
use Rattle.rx_exits.proofs.exit_forms.first_jump.Given as goal

abbrev pub invariant-loop-jump : goal.invariant-loop-jump
invariant-loop-jump l = first_of (plain-Exit l.exit) (map plain-Jump (drop l.jump-index l.jumps)) ≡ first_of (plain-Exit l.exit) (map plain-Jump l.jumps)
