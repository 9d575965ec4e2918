use Rattle.std.proofs.Common.{get_or, sym, ap, subst, ◌∙◌}
use Rattle.std.specs.Prelude.{codes}
use Rattle.rx_core.specs.Bytes.{same_bytes, is_one_of}
use Rattle.rx_lex.specs.declared.token.Class.{Class}
use Rattle.rx_lex.specs.declared.token.Class.TheVariants.{Keyword, Mark}
use Rattle.rx_lex.specs.Numerals.{IsNumeral, is_digit}
use Rattle.rx_lex.specs.Words.{IsWord, number, keyword, keywords}
use Rattle.rx_lex.proofs.Names.{run_from}
use Rattle.rx_lex.proofs.FrontWords.{digit_no_word, line_word, name_word, no_name_word, some_bytes}
use Rattle.rx_lex.proofs.front.run_class.Goals as goal

pub returns-in-Some : goal.returns-in-Some
returns-in-Some c =
    let n = c.in-Some.field-0 in
    number (subst (λ w. IsNumeral w n.value n.suffix) c.as_bytes-bytes.ensures.value c.in-Some.ensures.some) c.in-Some.ensures.fits

pub returns-in-None : goal.returns-in-None
returns-in-None c =
    subst (λ w. (d : Class) → IsWord d w → ⊥) c.as_bytes-bytes.ensures.value
    (digit_no_word c.as_bytes-bytes.result.now (sym c.is_digit_byte.ensures ∙ c.if-is_digit_byte.true) c.in-None.ensures.none)

pub returns-then-is_keyword : goal.returns-then-is_keyword
returns-then-is_keyword c = subst (IsWord Keyword) c.as_bytes-bytes.ensures.value (keyword (sym c.is_keyword.ensures ∙ c.if-is_keyword.true))

pub returns-then-is_same : goal.returns-then-is_same
returns-then-is_same c =
    subst (IsWord Mark) c.as_bytes-bytes.ensures.value (line_word c.as_bytes-bytes.result.now (sym c.is_same.ensures ∙ c.if-is_same.true))

pub returns-then-branch : goal.returns-then-branch
returns-then-branch c =
    let e = sym c.as_bytes-bytes.ensures.value in
    name_word c.args.run.now (ap (λ w. is_one_of w keywords) e ∙ (sym c.is_keyword.ensures ∙ c.if-is_keyword.false))
    (ap (λ w. same_bytes w (codes "_")) e ∙ (sym c.is_same.ensures ∙ c.if-is_same.false)) (sym c.in_ok-is_name.ensures ∙ c.if-branch.true)

pub returns : goal.returns
returns c =
    let e = sym c.as_bytes-bytes.ensures.value in
    no_name_word c.args.run.now (run_from c.args.run.now c.utf8.run c.requires.continues (some_bytes c.args.run.now c.requires.not_empty))
    (ap (λ w. is_digit (get_or w 0 0)) e ∙ (sym c.is_digit_byte.ensures ∙ c.if-is_digit_byte.false))
    (ap (λ w. is_one_of w keywords) e ∙ (sym c.is_keyword.ensures ∙ c.if-is_keyword.false))
    (ap (λ w. same_bytes w (codes "_")) e ∙ (sym c.is_same.ensures ∙ c.if-is_same.false)) (sym c.in_ok-is_name.ensures ∙ c.if-branch.false)
