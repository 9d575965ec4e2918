use Rattle.std.proofs.Common.{sym, ◌∙◌}
use Rattle.std.proofs.lemmas.List.{take_rest}
use Rattle.rx_lex.proofs.NumeralLaws.{numeral_from, no_numeral, no_numeral_value}
use Rattle.rx_lex.proofs.numeral.numeral_in.Goals as goal

pub returns-in_err-suffix-clause-none : goal.returns-in_err-suffix-clause-none
returns-in_err-suffix-clause-none c =
    rw c.from_residual.ensures
    (no_numeral c.args.word.now c.body_length-at.result c.body_length-at.ensures.value
    (λ k e. c.in_err-suffix.ensures k (take_rest c.args.word.now c.body_length-at.result ∙ e)))

pub returns-in_err-value-clause-none : goal.returns-in_err-value-clause-none
returns-in_err-value-clause-none c =
    rw c.from_residual-in_err-value.ensures (no_numeral_value c.args.word.now c.body_length-at.result c.body_length-at.ensures.value c.in_err-value.ensures)

pub returns-clause-some : goal.returns-clause-some
returns-clause-some c =
    numeral_from c.args.word.now c.in_ok-value.value c.body_length-at.result c.in_ok-suffix.suffix c.in_ok-value.ensures
    (sym (take_rest c.args.word.now c.body_length-at.result) ∙ c.in_ok-suffix.ensures)
