use Rattle.std.proofs.Common.{ℕ, List, map, refl}
use Rattle.rx_typed.specs.Types.{Typ, parts}
use Rattle.rx_typed_declarations.specs.Sizes.{told}
use Rattle.rx_hoist_plan.specs.declared.plan.Param.{Param}
use Rattle.rx_hoist_plan.specs.PlainPlan.{plain-Param}
use Rattle.rx_hoist_extraction.specs.NewFunction.{passed_types}
use Rattle.rx_hoist_made.specs.Counts.{capped}
use Rattle.rx_hoist.proofs.LevelLemmas.{past_on, past_found}
use Rattle.rx_hoist.proofs.limits.parameters_past.Goals as goal

abbrev counts : List ℕ → List Param → List ℕ
counts sizes ps = map (λ (t : Typ). capped (parts (told sizes) t)) (passed_types (map plain-Param ps))

pub loop-param-preserved : goal.loop-param-preserved
loop-param-preserved c =
    past_on 4096 (counts c.args.sizes.now) c.args.params.now c.loop-param.param-index c.param-item.result c.passed_parts-count.result _ _ c.loop-param-test.true c.param-item.is refl c.passed_parts-count.ensures c.if-count-gt4096.false c.loop-param.invariant

pub returns-then-count-gt4096 : goal.returns-then-count-gt4096
returns-then-count-gt4096 c =
    past_found 4096 (counts c.args.sizes.now) c.args.params.now c.loop-param.param-index c.param-item.result c.passed_parts-count.result _ _ c.loop-param-test.true c.param-item.is refl c.passed_parts-count.ensures c.if-count-gt4096.true c.loop-param.invariant
