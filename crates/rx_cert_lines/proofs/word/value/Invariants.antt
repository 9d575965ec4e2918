-- The digits that are left, behind the number so far, write the number of all; it is below 2^32.
use Rattle.std.proofs.Common.{◌≡◌, ◌<◌, drop}
use Rattle.rx_cert_lines.specs.Reading.{value_on}
use Rattle.rx_cert_lines.proofs.word.value.Given as goal

abbrev pub invariant-loop-digit : goal.invariant-loop-digit
invariant-loop-digit l = (value_on l.value (drop l.digit-index l.digits) ≡ value_on 0 l.digits) × (l.value < 4294967296)
