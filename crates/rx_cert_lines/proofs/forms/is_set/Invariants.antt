-- It is a set exactly where what is left is one.
use Rattle.std.proofs.Common.{◌≡◌, length}
use Rattle.rx_cert_lines.specs.Lines as spec
use Rattle.rx_cert_lines.proofs.forms.is_set.Given as goal

abbrev pub invariant-loop-left : goal.invariant-loop-left
invariant-loop-left l = spec.is_set l.left ≡ spec.is_set l.items

abbrev pub decreases-loop-left : goal.decreases-loop-left
decreases-loop-left l = length l.left
