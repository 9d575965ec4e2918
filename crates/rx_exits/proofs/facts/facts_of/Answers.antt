use Rattle.std.proofs.Common.{Ok, sym, ap, ◌∙◌}
use Rattle.rx_exits_plan.specs.PlainPlan.{plain-Run}
use Rattle.rx_exits_plan.specs.PlainSyntax.{plain-Home}
use Rattle.rx_exits.proofs.FactsLemmas.{facts_are}
use Rattle.rx_exits.proofs.facts.facts_of.Goals as goal

pub returns : goal.returns
returns c A run home =
    facts_are A (plain-Run c.args.run) (plain-Home c.args.home.now) c.in_ok-variables.variables c.jumps.result c.end_scope.result _ run home
    (ap (λ h. h.0) c.in_ok-end.ensures.1 ∙ c.in_ok-jumps.ensures.1)
    (c.in_ok-jumps.ensures.0 ∙ ap (λ h. Ok h.1) (sym c.in_ok-end.ensures.1)) c.in_ok-end.ensures.0
    c.in_ok-variables.ensures.all c.in_ok-variables.ensures.foreign c.in_ok-variables.ensures.direct c.in_ok-variables.ensures.behind c.jumps.ensures c.end_scope.ensures
