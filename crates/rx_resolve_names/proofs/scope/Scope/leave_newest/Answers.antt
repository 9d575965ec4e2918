use Rattle.std.proofs.Common.{refl, sym, ap, ◌∙◌, [], subst, drop}
use Rattle.rx_resolve_names.specs.Tables.{Stands, variables_of}
use Rattle.rx_resolve_names.proofs.scope.Scope.leave_newest.Goals as goal
use Rattle.rx_resolve_names.proofs.Entering.{leaves, newest_there, variables_push}

pub invariant_of-self : goal.invariant_of-self
invariant_of-self c = rw c.in-Ok.ensures.entries (leaves (λ n. n.now) c.self.inside.newest.entries c.pop.new.self.items c.in-Some.newest.name c.in-Some.newest (subst (Stands (λ n. n.now) c.self.inside.newest.entries) c.in-Some.ensures.items c.self.invariant) refl)

pub invariant_of-self-in-Err : goal.invariant_of-self-in-Err
invariant_of-self-in-Err c = absurd (newest_there (λ n. n.now) c.self.inside.newest.entries c.pop.new.self.items c.in-Some.newest (subst (Stands (λ n. n.now) c.self.inside.newest.entries) c.in-Some.ensures.items c.self.invariant) c.in-Err.ensures.absent)

pub returns-in-Ok : goal.returns-in-Ok
returns-in-Ok c = ap (drop 1) (sym (variables_push [] c.pop.new.self.items c.in-Some.newest) ∙ ap (variables_of []) (sym c.in-Some.ensures.items) ∙ c.self.view_is)

pub returns-in-Err : goal.returns-in-Err
returns-in-Err c = ap (drop 1) (sym (variables_push [] c.pop.new.self.items c.in-Some.newest) ∙ ap (variables_of []) (sym c.in-Some.ensures.items) ∙ c.self.view_is)
