use Rattle.std.proofs.Common.{◌≡◌, map, take}
use Rattle.rx_tree.specs.PlainOf.{plain-TypeText}
use Rattle.rx_compact_lifetimes.specs.Rewritten.{rewritten_type}
use Rattle.rx_compact_lifetimes.proofs.types.+rewritten.Given as goal

abbrev pub invariant-rewritten_types-loop-typ : goal.invariant-rewritten_types-loop-typ
invariant-rewritten_types-loop-typ l = map plain-TypeText l.all ≡ map (rewritten_type l.rewritings) (map plain-TypeText (take l.typ-index l.types))
