use Rattle.std.proofs.Common.{refl, sym, ap, ◌∙◌, ◌∷◌, []}
use Rattle.rx_resolve_names.specs.Scopes.{variable_named}
use Rattle.rx_resolve_names.specs.Tables.{variables_of}
use Rattle.rx_resolve_names.proofs.scope.Scope.enter.Goals as goal
use Rattle.rx_resolve_names.proofs.Entering.{enters, variables_push}

pub invariant_of-self-in-Ok : goal.invariant_of-self-in-Ok
invariant_of-self-in-Ok c = rw c.in-Ok.ensures.entries (rw c.in_ok-push.ensures.items (enters (λ n. n.now) c.self.inside.newest.entries c.self.inside.entered.items c.args.name
    (record { name = c.args.name; number = c.args.number; hidden = c.get-hidden.result }) c.self.invariant refl (c.get-hidden.ensures ∙ ap (λ vs. variable_named vs c.args.name.now) (sym c.self.view_is))))

pub returns-in-Ok : goal.returns-in-Ok
returns-in-Ok c = record { ok = ap (variables_of []) c.in_ok-push.ensures.items ∙ variables_push [] c.self.inside.entered.items _ ∙ ap (λ vs. record { name = c.args.name.now; number = c.args.number } ∷ vs) c.self.view_is }
