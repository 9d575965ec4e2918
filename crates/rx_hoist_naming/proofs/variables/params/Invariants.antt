use Rattle.std.proofs.Common.{◌≡◌, ◌++◌, map, drop}
use Rattle.rx_hoist_plan.specs.PlainPlan.{plain-Param}
use Rattle.rx_hoist_naming.specs.NamedPlan as spec
use Rattle.rx_hoist_naming.proofs.variables.params.Given as goal

-- the params so far, and those of the numbers, modes and moved flags that are left
abbrev pub invariant-loop-i : goal.invariant-loop-i
invariant-loop-i l =
    map plain-Param l.all ++ spec.named_params (map (λ x. x.now) l.names) l.function (drop l.i l.numbers) (drop l.i l.modes) (drop l.i l.moved)
    ≡ spec.named_params (map (λ x. x.now) l.fn.names) l.fn.function l.fn.numbers l.fn.modes l.fn.moved
