use Rattle.std.proofs.Common.{map}
use Rattle.rx_typed.specs.PlainTypes.{plain-VariantDecl, declarations}
use Rattle.rx_cover.specs.PlainCells.{plain-Head}
use Rattle.rx_cover.proofs.LeastLemmas.{NoneBefore}
use Rattle.rx_cover.proofs.least.enum_apart.Given as goal

abbrev pub invariant-loop-k : goal.invariant-loop-k
invariant-loop-k l = NoneBefore (declarations l.decls.items) l.item (map plain-VariantDecl l.variants) (map plain-Head l.heads.keys) l.k
