use Rattle.std.proofs.Common.{◌≡◌, drop, take, sym, ap, subst, ◌∙◌, arith}
use Rattle.std.proofs.lemmas.Str.{IsCharBoundary-from_drop}
use Rattle.rx_lex.specs.Words.{goes_on}
use Rattle.rx_lex.specs.FrontWord.{WordOf, NoWord}
use Rattle.rx_lex.specs.declared.token.Class.TheVariants.{Format}
use Rattle.rx_lex.proofs.FrontWords.{from_start, run_of, run_word, run_no_word, class_found, class_none, format_word, no_word}
use Rattle.rx_lex.proofs.front.front_word.Goals as goal

pub range-requires-clause-end_boundary : goal.range-requires-clause-end_boundary
range-requires-clause-end_boundary c = IsCharBoundary-from_drop c.args.rest.now c.run_length-run.result c.run_length-run.ensures.within c.run_length-run.ensures.rest

pub returns-in-Some : goal.returns-in-Some
returns-in-Some c =
    let n = c.run_length-run.result in
    let r = c.run_length-run.ensures in
    run_word c.in-Some.class n c.args.rest.now (run_of n c.args.rest.now c.if-run-gt0.true r.within r.text r.run r.ends)
    (class_found c.range.result.now (take n c.args.rest.now) c.in_ok-class.field-0 c.in-Some.class (c.range.ensures.value ∙ from_start n c.args.rest.now) c.in-Some.is c.in_ok-class.ensures)

pub returns-in-None : goal.returns-in-None
returns-in-None c =
    let n = c.run_length-run.result in
    let r = c.run_length-run.ensures in
    run_no_word n c.args.rest.now (run_of n c.args.rest.now c.if-run-gt0.true r.within r.text r.run r.ends)
    (class_none c.range.result.now (take n c.args.rest.now) c.in_ok-class.field-0 (c.range.ensures.value ∙ from_start n c.args.rest.now) c.in-None.is c.in_ok-class.ensures)

pub returns-then-has_format : goal.returns-then-has_format
returns-then-has_format c =
    subst (WordOf Format 4) c.as_bytes-bytes.ensures.value (format_word c.as_bytes-bytes.result.now (sym c.has_format.ensures ∙ c.if-has_format.true))

pub mark_length-requires : goal.mark_length-requires
mark_length-requires c =
    let z : c.run_length-run.result ≡ 0 = omega arith in
    ap goes_on c.as_bytes-bytes.ensures.value ∙ (ap (λ n. goes_on (drop n c.args.rest.now)) (sym z) ∙ c.run_length-run.ensures.ends)

pub returns-in-None-mark_length : goal.returns-in-None-mark_length
returns-in-None-mark_length c =
    let z : c.run_length-run.result ≡ 0 = omega arith in
    subst NoWord c.as_bytes-bytes.ensures.value
    (no_word c.as_bytes-bytes.result.now c.as_bytes-bytes.ensures.utf8
    (ap goes_on c.as_bytes-bytes.ensures.value ∙ (ap (λ n. goes_on (drop n c.args.rest.now)) (sym z) ∙ c.run_length-run.ensures.ends))
    (sym c.begins_quote.ensures ∙ c.if-begins_quote.false) (sym c.has_format.ensures ∙ c.if-has_format.false) c.in-None-mark_length.ensures)
