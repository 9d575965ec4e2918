use Rattle.std.proofs.Common.{◌≡◌, drop, [], ◌∷◌, ◌++◌, refl, sym, ap, ◌∙◌, arith}
use Rattle.std.proofs.lemmas.Str.{IsCharBoundary-from_drop}
use Rattle.rx_lex.specs.Scan.{gap_rest}
use Rattle.rx_lex.specs.Tok.{tok, toks}
use Rattle.rx_lex.proofs.Reading.{reads_gap, reads_on, reads_word, reads_stuck, reading_ends, word_found, word_none, on_ok, toks_more}
use Rattle.rx_lex.proofs.lexer.read_tokens.Goals as goal

pub range_from-rest-requires : goal.range_from-rest-requires
range_from-rest-requires c = λ p. IsCharBoundary-from_drop c.args.text.now c.loop-at.at c.loop-at.invariant.within c.loop-at.invariant.text

pub loop-at-smaller-in-Some : goal.loop-at-smaller-in-Some
loop-at-smaller-in-Some c = let n = reads_on c.as_bytes.result.now c.in-Some.length c.in-Some.ensures in omega arith

pub loop-at-preserved-in-Some : goal.loop-at-preserved-in-Some
loop-at-preserved-in-Some c =
    reads_gap c.args.text.now c.as_bytes.result.now c.loop-at.at c.in-Some.length (toks c.loop-at.list) (c.as_bytes.ensures.value ∙ c.range_from-rest.ensures.value)
    c.in-Some.ensures c.loop-at.invariant

pub returns-in_default-first-clause-fault : goal.returns-in_default-first-clause-fault
returns-in_default-first-clause-fault c =
    let rest = drop c.loop-at.at c.args.text.now in (
      c.utf8.text,
      reads_stuck c.args.text.now rest c.loop-at.at (toks c.loop-at.list) refl c.loop-at-test.true
          (ap gap_rest (sym (c.as_bytes.ensures.value ∙ c.range_from-rest.ensures.value)) ∙ c.in_default.ensures)
          (word_none c.range_from-rest.result.now rest c.in-Ok.first c.range_from-rest.ensures.value c.in_default-first.is c.in-Ok.ensures) c.loop-at.invariant,
    )

pub loop-at-preserved : goal.loop-at-preserved
loop-at-preserved c =
    let rest = drop c.loop-at.at c.args.text.now in
    let word = c.in-Some-first.word in
    let pushed = on_ok c.push.result (c.push.new.self ≡ c.loop-at.list ++ (c.token_at.result ∷ [])) c.if-is_err.ensures.value c.push.ensures.ok in
    reads_word c.args.text.now rest c.loop-at.at word.length (toks c.loop-at.list) (toks c.push.new.self) (tok c.token_at.result) word.class refl
    (ap gap_rest (sym (c.as_bytes.ensures.value ∙ c.range_from-rest.ensures.value)) ∙ c.in_default.ensures)
    (word_found c.range_from-rest.result.now rest c.in-Ok.first word c.range_from-rest.ensures.value c.in-Some-first.is c.in-Ok.ensures) c.token_at.ensures
    (toks_more c.loop-at.list c.push.new.self c.token_at.result pushed) c.loop-at.invariant

pub returns-clause-tokens : goal.returns-clause-tokens
returns-clause-tokens c = reading_ends c.args.text.now c.loop-at.at (toks c.loop-at.list) (omega arith) c.loop-at.invariant
