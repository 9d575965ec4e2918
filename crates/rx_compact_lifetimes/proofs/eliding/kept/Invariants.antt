use Rattle.std.proofs.Common.{◌≡◌, ◌++◌, drop}
use Rattle.std.specs.Prelude.{filter}
use Rattle.rx_tree.specs.PlainOf.{plain-Func}
use Rattle.rx_hoist_extraction.specs.OwnLifetimes.{idents}
use Rattle.rx_compact_lifetimes.specs.Elided.{stays}
use Rattle.rx_compact_lifetimes.proofs.eliding.kept.Given as goal

abbrev pub invariant-loop-lifetime : goal.invariant-loop-lifetime
invariant-loop-lifetime l =
    l.all ++ filter (stays l.single (idents l.body) (plain-Func l.function)) (drop l.lifetime-index l.lifetimes)
    ≡ filter (stays l.single (idents l.body) (plain-Func l.function)) l.lifetimes
