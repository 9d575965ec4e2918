use Rattle.std.proofs.Common.{◌≡◌, drop, Ok}
use Rattle.rx_resolve_names.specs.Steps.{both}
use Rattle.rx_resolve_names.specs.Items.{bounds_in}
use Rattle.rx_resolve.specs.Walks.{inside}
use Rattle.rx_resolve.proofs.walk.Walk.push_bounds.Given as goal

abbrev pub invariant-loop-name : goal.invariant-loop-name
invariant-loop-name l = both (Ok l.numbers) (bounds_in (inside l.self) (drop l.name-index l.bounds)) ≡ both (Ok l.fn.numbers) (bounds_in (inside l.fn.self) l.fn.bounds)
