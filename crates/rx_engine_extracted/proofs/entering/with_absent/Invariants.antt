-- What is left, with the variables so far, is as from the beginning.
use Rattle.std.proofs.Common.{◌≡◌, drop}
use Rattle.rx_engine_alike.specs.PlainSights.{plain-Renaming}
use Rattle.rx_engine_extracted.specs.Entering.{with_absent}
use Rattle.rx_engine_extracted.proofs.entering.with_absent.Given as goal

abbrev pub invariant-loop-seen : goal.invariant-loop-seen
invariant-loop-seen l =
    with_absent l.beyond (plain-Renaming (drop l.seen-index l.outer)) (plain-Renaming l.inner.items) ≡ with_absent l.beyond (plain-Renaming l.outer) (plain-Renaming l.fn.inner.items)
