use Rattle.std.proofs.Common.{◌≡◌, ◌++◌, map, drop}
use Rattle.rx_tree.specs.declared.tree.Ident.{Ident}
use Rattle.rx_resolve.proofs.program.spans_of.Given as goal

abbrev pub invariant-loop-name : goal.invariant-loop-name
invariant-loop-name l = l.spans ++ map (λ (n : Ident). n.span) (drop l.name-index l.names) ≡ map (λ (n : Ident). n.span) l.fn.names
