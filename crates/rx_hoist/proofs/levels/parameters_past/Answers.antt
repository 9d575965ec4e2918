use Rattle.std.proofs.Common.{ℕ, List, map, refl}
use Rattle.rx_typed.specs.Types.{Typ, levels}
use Rattle.rx_hoist_plan.specs.declared.plan.Param.{Param}
use Rattle.rx_hoist_plan.specs.PlainPlan.{plain-Param}
use Rattle.rx_hoist_extraction.specs.NewFunction.{passed_types}
use Rattle.rx_hoist_made.specs.Counts.{capped}
use Rattle.rx_hoist.proofs.LevelLemmas.{past_on, past_found}
use Rattle.rx_hoist.proofs.levels.parameters_past.Goals as goal

abbrev counts : List Param → List ℕ
counts ps = map (λ (t : Typ). capped (levels t)) (passed_types (map plain-Param ps))

pub loop-param-preserved : goal.loop-param-preserved
loop-param-preserved c =
    past_on 128 counts c.args.params.now c.loop-param.param-index c.param-item.result c.passed_levels-count.result _ _ c.loop-param-test.true c.param-item.is refl c.passed_levels-count.ensures c.if-count-gt128.false c.loop-param.invariant

pub returns-then-count-gt128 : goal.returns-then-count-gt128
returns-then-count-gt128 c =
    past_found 128 counts c.args.params.now c.loop-param.param-index c.param-item.result c.passed_levels-count.result _ _ c.loop-param-test.true c.param-item.is refl c.passed_levels-count.ensures c.if-count-gt128.true c.loop-param.invariant
