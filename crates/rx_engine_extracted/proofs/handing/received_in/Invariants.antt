-- The variables so far, in front of those of what is left, are those of all.
use Rattle.std.proofs.Common.{◌≡◌}
use Rattle.rx_engine_extracted.proofs.Received.{with_all, received_from}
use Rattle.rx_engine_extracted.proofs.handing.received_in.Given as goal

abbrev pub invariant-loop-i : goal.invariant-loop-i
invariant-loop-i l = with_all l.found.items (received_from l.parts l.i) ≡ received_from l.parts 0
