use Rattle.std.proofs.Common.{map, drop, sym, ◌∙◌}
use Rattle.rx_typed.specs.PlainTree.{plain-Param}
use Rattle.rx_lower_lifetimes.proofs.Finding.{types_end, next_type}
use Rattle.rx_lower_lifetimes.proofs.variables.parameter_type.Goals as goal

pub returns-then-i-types : goal.returns-then-i-types
returns-then-i-types c =
    sym (types_end (map plain-Param (drop c.loop-i.i c.args.params.now)) c.args.types.now c.args.variable c.loop-i.i c.if-i-types.true) ∙ c.loop-i.invariant

pub loop-i-preserved : goal.loop-i-preserved
loop-i-preserved c =
    next_type c.args.params.now c.args.types.now c.args.variable c.loop-i.i (record { node = 0; variable = 0 }) c.loop-i-test.true c.if-i-types.false c.if-params-i.false ∙ c.loop-i.invariant
