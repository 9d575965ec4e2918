use Rattle.std.proofs.Common.{◌≡◌, drop}
use Rattle.std.specs.List.{list_all}
use Rattle.rx_lex.specs.Numerals.{is_digit}
use Rattle.rx_parse_cursor.proofs.numbers.are_digits.Given as goal

abbrev pub invariant-loop-byte : goal.invariant-loop-byte
invariant-loop-byte l = list_all is_digit (drop l.byte-index l.word) ≡ list_all is_digit l.word
