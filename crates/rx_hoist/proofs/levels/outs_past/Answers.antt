use Rattle.std.proofs.Common.{ℕ, List, map, refl}
use Rattle.rx_typed.specs.Types.{Typ, levels}
use Rattle.rx_hoist_plan.specs.declared.plan.Variable.{Variable}
use Rattle.rx_hoist_plan.specs.PlainPlan.{plain-Variable}
use Rattle.rx_hoist_extraction.specs.Values.{variables_held, types_of}
use Rattle.rx_hoist_made.specs.Counts.{capped}
use Rattle.rx_hoist.proofs.LevelLemmas.{past_on, past_found}
use Rattle.rx_hoist.proofs.levels.outs_past.Goals as goal

abbrev counts : List Variable → List ℕ
counts vs = map (λ (t : Typ). capped (levels t)) (types_of (variables_held (map plain-Variable vs)))

pub loop-out-preserved : goal.loop-out-preserved
loop-out-preserved c =
    past_on 128 counts c.args.outs.now c.loop-out.out-index c.out-item.result c.levels-count.result _ _ c.loop-out-test.true c.out-item.is refl c.levels-count.ensures c.if-count-gt128.false c.loop-out.invariant

pub returns-then-count-gt128 : goal.returns-then-count-gt128
returns-then-count-gt128 c =
    past_found 128 counts c.args.outs.now c.loop-out.out-index c.out-item.result c.levels-count.result _ _ c.loop-out-test.true c.out-item.is refl c.levels-count.ensures c.if-count-gt128.true c.loop-out.invariant
