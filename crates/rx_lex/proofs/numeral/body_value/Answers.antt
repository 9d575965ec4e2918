use Rattle.std.proofs.Common.{◌-◌, length, take, drop, refl, None, Some, sym, ap, ◌∙◌}
use Rattle.std.specs.Prelude.{◌&&◌}
use Rattle.std.specs.List.{list_all, list_any}
use Rattle.std.proofs.lemmas.List.{take_rest}
use Rattle.rx_lex.specs.Numerals.{value_from, is_among, is_digit_of, radix}
use Rattle.rx_lex.proofs.NumeralLaws.{value_answers, no_body}
use Rattle.rx_lex.proofs.numeral.body_value.Goals as goal

pub returns-then-are_digits_of : goal.returns-then-are_digits_of
returns-then-are_digits_of c =
    let body = c.args.body.now in
    let base = c.in-Some.base in
    value_answers body c.value.result (Some base) (value_from c.radix.result 0 (take (length body - 2) (drop 2 body))) (sym c.base_of.ensures.value ∙ c.in-Some.is)
    (ap (λ l. list_all (is_among base) l && list_any (is_digit_of base) l) (sym (take_rest body 2)) ∙ (sym c.are_digits_of.ensures ∙ c.if-are_digits_of.true))
    (ap (λ r. value_from r 0 (take (length body - 2) (drop 2 body))) c.radix.ensures.value ∙ ap (value_from (radix base) 0) (take_rest body 2)) c.value.ensures

pub returns-else-are_digits_of : goal.returns-else-are_digits_of
returns-else-are_digits_of c =
    let body = c.args.body.now in
    let base = c.in-Some.base in
    λ v i b. no_body body (Some base) (sym c.base_of.ensures.value ∙ c.in-Some.is)
    (ap (λ l. list_all (is_among base) l && list_any (is_digit_of base) l) (sym (take_rest body 2)) ∙ (sym c.are_digits_of.ensures ∙ c.if-are_digits_of.false)) v i

pub returns-then-is_decimal : goal.returns-then-is_decimal
returns-then-is_decimal c =
    value_answers c.args.body.now c.value-then-is_decimal.result None (value_from 10 0 c.args.body.now) (sym c.base_of.ensures.value ∙ c.in-None.is)
    (sym c.is_decimal.ensures ∙ c.if-is_decimal.true) refl c.value-then-is_decimal.ensures
