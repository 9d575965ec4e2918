use Rattle.std.proofs.Common.{◌≡◌, drop}
use Rattle.std.specs.List.{list_all}
use Rattle.rx_lex.specs.Numerals.{is_among_decimal}
use Rattle.rx_lex.proofs.numeral.is_decimal.Given as goal

abbrev pub invariant-loop-byte : goal.invariant-loop-byte
invariant-loop-byte l = list_all is_among_decimal (drop l.byte-index l.body) ≡ list_all is_among_decimal l.body
