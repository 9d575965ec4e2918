use Rattle.std.proofs.Common.{◌≡◌, map, take}
use Rattle.rx_compact_lifetimes.specs.Rewritten.{rewritten_lifetime}
use Rattle.rx_compact_lifetimes.proofs.types.rewritten_lifetimes.Given as goal

abbrev pub invariant-loop-lifetime : goal.invariant-loop-lifetime
invariant-loop-lifetime l = l.all ≡ map (rewritten_lifetime l.rewritings) (take l.lifetime-index l.lifetimes)
