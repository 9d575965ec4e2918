use Rattle.std.proofs.Common.{ap, slice_get, arith, ◌∙◌}
use Rattle.rx_lower_lifetimes.specs.Starting.{start_of}
use Rattle.rx_lower_lifetimes.proofs.Starting.{none_before}
use Rattle.rx_lower_lifetimes.proofs.noted.Noted.start.Goals as goal

pub returns-then-start-len-clause-before : goal.returns-then-start-len-clause-before
returns-then-start-len-clause-before g c i x less e = none_before g.T.HasNode.node_of c.self.inside.list c.self.inside.starts.items c.args.node c.start_in-start.result c.self.invariant
    (let s = c.start_in-start.ensures ∙ ap (λ l. start_of l c.args.node) c.as_slice.ensures.value in omega (arith, s)) i x less (ap (λ l. slice_get l i) c.self.view_is ∙ e)

pub returns-else-start-len-clause-before : goal.returns-else-start-len-clause-before
returns-else-start-len-clause-before g c i x less e = none_before g.T.HasNode.node_of c.self.inside.list c.self.inside.starts.items c.args.node c.len-else-start-len.result c.self.invariant
    (let s = c.start_in-start.ensures ∙ ap (λ l. start_of l c.args.node) c.as_slice.ensures.value in
    omega (arith, s, c.len.ensures, c.len-else-start-len.ensures, c.if-start-len.false)) i x less (ap (λ l. slice_get l i) c.self.view_is ∙ e)
