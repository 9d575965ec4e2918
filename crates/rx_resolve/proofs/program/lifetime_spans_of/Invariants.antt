use Rattle.std.proofs.Common.{◌≡◌, ◌++◌, map, drop}
use Rattle.rx_tree.specs.declared.tree.BoundLifetime.{BoundLifetime}
use Rattle.rx_resolve.proofs.program.lifetime_spans_of.Given as goal

abbrev pub invariant-loop-lifetime : goal.invariant-loop-lifetime
invariant-loop-lifetime l = l.spans ++ map (λ (n : BoundLifetime). n.name.span) (drop l.lifetime-index l.lifetimes) ≡ map (λ (n : BoundLifetime). n.name.span) l.fn.lifetimes
