use Rattle.std.proofs.Common.{◌≡◌, drop}
use Rattle.rx_typeck_typed.specs.Written.{all_elided}
use Rattle.rx_typeck_typed.specs.Readers.{reading}
use Rattle.rx_typeck_typed.proofs.ReadingLemmas.{before}
use Rattle.rx_typeck_typed.proofs.declare_types.Types.all_elided.Given as goal

abbrev pub invariant-loop-lifetime : goal.invariant-loop-lifetime
invariant-loop-lifetime l = before l.numbers (all_elided l.role l.span (drop l._lifetime-index l.declared)
    (reading l.reader)) ≡ all_elided l.fn.role l.fn.span l.fn.declared (reading l.fn.reader)
