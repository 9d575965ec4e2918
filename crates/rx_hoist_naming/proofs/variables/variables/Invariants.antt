use Rattle.std.proofs.Common.{◌≡◌, ◌++◌, map, drop}
use Rattle.rx_hoist_plan.specs.PlainPlan.{plain-Variable}
use Rattle.rx_hoist_naming.specs.NamedPlan as spec
use Rattle.rx_hoist_naming.proofs.variables.variables.Given as goal

-- the variables so far, and those of the numbers that are left
abbrev pub invariant-loop-number : goal.invariant-loop-number
invariant-loop-number l =
    map plain-Variable l.all ++ spec.named_variables (map (λ x. x.now) l.names) l.function (drop l.number-index l.numbers)
    ≡ spec.named_variables (map (λ x. x.now) l.fn.names) l.fn.function l.fn.numbers
