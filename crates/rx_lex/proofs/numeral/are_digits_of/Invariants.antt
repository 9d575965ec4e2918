use Rattle.std.proofs.Common.{◌≡◌, drop}
use Rattle.std.specs.Prelude.{◌&&◌, ◌||◌}
use Rattle.std.specs.List.{list_all, list_any}
use Rattle.rx_lex.specs.Numerals.{is_digit_of, is_among}
use Rattle.rx_lex.proofs.numeral.are_digits_of.Given as goal

abbrev pub invariant-loop-byte : goal.invariant-loop-byte
invariant-loop-byte l =
    (list_all (is_among l.base) (drop l.byte-index l.digits) && (l.any || list_any (is_digit_of l.base) (drop l.byte-index l.digits)))
    ≡ (list_all (is_among l.base) l.digits && list_any (is_digit_of l.base) l.digits)
