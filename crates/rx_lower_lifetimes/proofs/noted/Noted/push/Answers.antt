use Rattle.std.proofs.Common.{ℕ, List, map, length, subst, sym, ap, ◌∙◌}
use Rattle.std.proofs.lemmas.List.{with_items_is}
use Rattle.rx_lower_lifetimes.specs.Starting.{Starts}
use Rattle.rx_lower_lifetimes.proofs.Starting.{pushed_starts}
use Rattle.rx_lower_lifetimes.proofs.noted.Noted.push.Goals as goal

pub invariant_of-self : goal.invariant_of-self
invariant_of-self g c =
    subst (λ (l : List ℕ). Starts l (map g.T.HasNode.node_of c.push.new.self))
    (sym (with_items_is c.grow.new.starts c.start_at.new.starts (c.start_at.ensures.count ∙ ap (λ (l : List ℕ). length l) c.as_mut_slice.ensures.value ∙ sym c.grow.new.starts.ok.0)))
    (pushed_starts g.T.HasNode.node_of c.self.inside.list c.push.new.self c.args.item c.push.result c.self.inside.starts.items c.grow.new.starts.items c.as_mut_slice.result.now c.start_at.new.starts
    c.node-node.result c.len.result c.push.ensures.ok c.push.ensures.err c.self.invariant c.in-Ok.ensures.same c.as_mut_slice.ensures.value c.start_at.ensures.others c.start_at.ensures.starts
    c.node-node.ensures c.len.ensures)
