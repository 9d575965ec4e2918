use Rattle.std.proofs.Common.{◌≡◌, [], map, drop}
use Rattle.rx_tree.specs.declared.tree.BoundLifetime.{BoundLifetime}
use Rattle.rx_resolve_names.specs.Meant.{firsts}
use Rattle.rx_resolve.proofs.items.first_lifetimes.Given as goal

abbrev pub invariant-loop-i : goal.invariant-loop-i
invariant-loop-i l = firsts l.names l.i (map (λ (l : BoundLifetime). l.name) (drop l.i l.lifetimes)) ≡ firsts [] 0 (map (λ (l : BoundLifetime). l.name) l.fn.lifetimes)
