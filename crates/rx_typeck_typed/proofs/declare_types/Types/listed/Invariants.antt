use Rattle.std.proofs.Common.{◌≡◌, drop}
use Rattle.rx_typeck_typed.specs.Written.{listed}
use Rattle.rx_typeck_typed.specs.Readers.{reading}
use Rattle.rx_typeck_typed.proofs.ReadingLemmas.{before}
use Rattle.rx_typeck_typed.proofs.declare_types.Types.listed.Given as goal

abbrev pub invariant-loop-lifetime : goal.invariant-loop-lifetime
invariant-loop-lifetime l = before l.lifetimes
    (listed l.role l.span (drop l.lifetime-index l.list) l.rest (reading l.reader))
    ≡ listed l.fn.role l.fn.span l.fn.list l.fn.numbers (reading l.fn.reader)
