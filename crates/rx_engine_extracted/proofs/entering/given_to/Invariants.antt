-- What is left of all, with the params so far, is as from their beginning.
use Rattle.std.proofs.Common.{◌≡◌, length}
use Rattle.rx_engine_alike.specs.PlainSights.{plain-Renaming}
use Rattle.rx_engine_extracted.specs.PlainEntering.{given_by}
use Rattle.rx_engine_extracted.proofs.entering.given_to.Given as goal

abbrev pub invariant-loop-left : goal.invariant-loop-left
invariant-loop-left l =
    given_by (plain-Renaming l.outer) l.closed (plain-Renaming l.inner.items) l.left l.rest ≡ given_by (plain-Renaming l.fn.outer) l.fn.closed
    (plain-Renaming l.fn.inner.items) l.fn.variables l.fn.given

abbrev pub decreases-loop-left : goal.decreases-loop-left
decreases-loop-left l = length l.left
