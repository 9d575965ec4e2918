use Rattle.std.proofs.Common.{◌≡◌, drop, Ok}
use Rattle.rx_resolve_names.specs.Steps.{both}
use Rattle.rx_resolve_names.specs.Names.{lifetimes_in}
use Rattle.rx_resolve.specs.Walks.{inside}
use Rattle.rx_resolve.proofs.walk.Walk.push_lifetimes.Given as goal

abbrev pub invariant-loop-lifetime : goal.invariant-loop-lifetime
invariant-loop-lifetime l = both (Ok l.numbers) (lifetimes_in (inside l.self) (drop l.lifetime-index l.written)) ≡ both (Ok l.fn.numbers) (lifetimes_in (inside l.fn.self) l.fn.written)
