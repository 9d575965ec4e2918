use Rattle.std.proofs.Common.{◌≡◌, ◌++◌, map, drop}
use Rattle.rx_hoist_plan.specs.PlainPlan.{plain-Leaving}
use Rattle.rx_hoist_naming.specs.NamedPlan as spec
use Rattle.rx_hoist_naming.proofs.exits.leavings.Given as goal

-- the exits so far, and those that are left
abbrev pub invariant-loop-outs : goal.invariant-loop-outs
invariant-loop-outs l =
    map plain-Leaving l.all ++ map (spec.named_leaving (map (λ x. x.now) l.names) l.function l.loops) (drop l.outs-index l.exits)
    ≡ map (spec.named_leaving (map (λ x. x.now) l.fn.names) l.fn.function l.fn.loops) l.fn.exits
