-- The lines so far, and what is left.
use Rattle.std.proofs.Common.{length}
use Rattle.rx_cert_lines.proofs.Wholes.{LinesSoFar}
use Rattle.rx_cert_lines.proofs.certificate.read_certificate.Given as goal

abbrev pub invariant-loop-lines : goal.invariant-loop-lines
invariant-loop-lines l = LinesSoFar l.bytes l.left l.lines

abbrev pub decreases-loop-lines : goal.decreases-loop-lines
decreases-loop-lines l = length l.left
