use Rattle.std.proofs.Common.{◌≡◌, drop}
use Rattle.rx_lex.specs.Numerals.{value_from}
use Rattle.rx_lex.proofs.numeral.value.Given as goal

abbrev pub invariant-loop-byte : goal.invariant-loop-byte
invariant-loop-byte l = value_from l.radix l.value (drop l.byte-index l.digits) ≡ value_from l.radix 0 l.digits
