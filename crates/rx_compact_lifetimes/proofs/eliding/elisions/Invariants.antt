use Rattle.std.proofs.Common.{◌≡◌, ◌++◌, map, drop}
use Rattle.std.specs.Prelude.{filter}
use Rattle.rx_tree.specs.PlainOf.{plain-Func}
use Rattle.rx_hoist_extraction.specs.OwnLifetimes.{idents}
use Rattle.rx_compact_lifetimes.specs.Elided.{goes, left_out}
use Rattle.rx_compact_lifetimes.proofs.eliding.elisions.Given as goal

abbrev pub invariant-loop-lifetime : goal.invariant-loop-lifetime
invariant-loop-lifetime l =
    l.all ++ map left_out (filter (goes l.single (idents l.body) (plain-Func l.function)) (drop l.lifetime-index l.lifetimes))
    ≡ map left_out (filter (goes l.single (idents l.body) (plain-Func l.function)) l.lifetimes)
