use Rattle.std.proofs.Common.{◌≡◌, drop}
use Rattle.rx_hoist_extraction.specs.NewFunction.{lifetimes_listed}
use Rattle.rx_hoist_made.specs.Noting.{with_all}
use Rattle.rx_hoist_made.proofs.lifetimes.with_listed.Given as goal

abbrev pub invariant-loop-lifetime : goal.invariant-loop-lifetime
invariant-loop-lifetime l =
    with_all l.all (lifetimes_listed (drop l.lifetime-index l.lifetimes)) ≡ with_all l.fn.found (lifetimes_listed l.lifetimes)
