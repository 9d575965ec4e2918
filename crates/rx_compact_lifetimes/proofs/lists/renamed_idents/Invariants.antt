use Rattle.std.proofs.Common.{◌≡◌, map, take}
use Rattle.rx_compact_lifetimes.specs.Rewritten.{renamed_ident}
use Rattle.rx_compact_lifetimes.proofs.lists.renamed_idents.Given as goal

abbrev pub invariant-loop-lifetime : goal.invariant-loop-lifetime
invariant-loop-lifetime l = l.all ≡ map (renamed_ident l.rewritings) (take l.lifetime-index l.lifetimes)
