use Rattle.std.proofs.Common.{Ok, sym, ap, ◌∙◌, subst}
use Rattle.rx_exits.specs.Planning.{IsGiven}
use Rattle.rx_exits.proofs.Listing.{if_ok, and_ok}
use Rattle.rx_exits.proofs.planning.plan_with.Goals as goal

pub returns-clause-plan : goal.returns-clause-plan
returns-clause-plan c =
    and_ok _ _ _ c.plan_of.result (λ k h e A run home F G. h A run home F (subst (λ l. IsGiven A l c.in_ok-exits.entry.0 c.in_ok-exits.entry.1) e
    (subst (λ d. IsGiven A k.exits d.0 d.1) (sym c.in_ok-exits.ensures.1) G))) c.plan_of.ensures.plan c.plan_of.ensures.exits

pub returns-clause-exits : goal.returns-clause-exits
returns-clause-exits c = if_ok _ _ c.plan_of.result (λ k e. c.in_ok-exits.ensures.0 ∙ ap Ok (sym e)) c.plan_of.ensures.exits

pub returns-clause-params : goal.returns-clause-params
returns-clause-params c = if_ok _ _ c.plan_of.result (λ k e. e ∙ ap (λ d. d.0) c.in_ok-exits.ensures.1) c.plan_of.ensures.params
