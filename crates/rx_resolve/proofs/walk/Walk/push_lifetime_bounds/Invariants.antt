use Rattle.std.proofs.Common.{◌≡◌, [], drop, Ok}
use Rattle.rx_resolve_names.specs.Steps.{both}
use Rattle.rx_resolve_names.specs.Items.{lifetimes_of}
use Rattle.rx_resolve.specs.Walks.{inside}
use Rattle.rx_resolve.proofs.walk.Walk.push_lifetime_bounds.Given as goal

abbrev pub invariant-loop-i : goal.invariant-loop-i
invariant-loop-i l = both (Ok l.numbers) (lifetimes_of (inside l.self) l.seen l.i (drop l.i l.lifetimes)) ≡ both (Ok l.fn.numbers) (lifetimes_of (inside l.fn.self) [] 0 l.fn.lifetimes)
