use Rattle.std.proofs.Common.{◌≡◌, [], map, drop}
use Rattle.rx_tree.specs.declared.tree.EnumVariant.{EnumVariant}
use Rattle.rx_resolve_names.specs.Meant.{firsts}
use Rattle.rx_resolve.proofs.items.first_variants.Given as goal

abbrev pub invariant-loop-i : goal.invariant-loop-i
invariant-loop-i l = firsts l.names l.i (map (λ (v : EnumVariant). v.name) (drop l.i l.variants)) ≡ firsts [] 0 (map (λ (v : EnumVariant). v.name) l.fn.variants)
