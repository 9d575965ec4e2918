use Rattle.std.proofs.Common.{◌≡◌, drop}
use Rattle.rx_compact_lifetimes.specs.Rewritten.{becomes}
use Rattle.rx_compact_lifetimes.proofs.types.becomes.Given as goal

abbrev pub invariant-loop-rewriting : goal.invariant-loop-rewriting
invariant-loop-rewriting l = becomes (drop l.rewriting-index l.rewritings) l.name ≡ becomes l.rewritings l.name
