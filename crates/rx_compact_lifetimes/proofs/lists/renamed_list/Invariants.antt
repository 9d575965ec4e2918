use Rattle.std.proofs.Common.{◌≡◌, map, take}
use Rattle.rx_compact_lifetimes.specs.Rewritten.{renamed_bound}
use Rattle.rx_compact_lifetimes.proofs.lists.renamed_list.Given as goal

abbrev pub invariant-loop-lifetime : goal.invariant-loop-lifetime
invariant-loop-lifetime l = l.all ≡ map (renamed_bound l.rewritings) (take l.lifetime-index l.lifetimes)
