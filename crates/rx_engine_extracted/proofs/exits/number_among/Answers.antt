use Rattle.std.proofs.Common.{ap, ◌∙◌, map}
use Rattle.rx_exits_plan.specs.PlainPlan.{plain-Exit, outs_in}
use Rattle.rx_exits_plan.specs.declared.plan.ExitOuts.{ExitOuts}
use Rattle.rx_engine_related.specs.Leaving.{place_from}
use Rattle.rx_engine_extracted.proofs.ArmLemmas.{variant_in, variant_packed}
use Rattle.rx_engine_extracted.proofs.exits.number_among.Goals as goal

pub returns-in-Some : goal.returns-in-Some
returns-in-Some c =
    ap variant_in c.in-Some.ensures
    ∙ variant_packed (outs_in c.args.exits.now (plain-Exit c.args.exit)) (place_from 0 (plain-Exit c.args.exit) (map (λ (e : ExitOuts). plain-Exit e.exit) c.args.exits.now))

pub returns-in-None : goal.returns-in-None
returns-in-None c =
    ap variant_in c.in-None.ensures
    ∙ variant_packed (outs_in c.args.exits.now (plain-Exit c.args.exit)) (place_from 0 (plain-Exit c.args.exit) (map (λ (e : ExitOuts). plain-Exit e.exit) c.args.exits.now))
