use Rattle.std.proofs.Common.{sym, ap, ◌∙◌}
use Rattle.std.proofs.lemmas.Str.{IsCharBoundary-from_drop}
use Rattle.rx_lex.specs.Words.{is_lifetime_name}
use Rattle.rx_lex.proofs.FrontWords.{from_start, quote_boundary, lifetime_word, lifetime_no_word}
use Rattle.rx_lex.proofs.front.lifetime.Goals as goal

pub range_from-name-requires : goal.range_from-name-requires
range_from-name-requires c = λ p. quote_boundary c.args.rest.now c.requires c.utf8.rest

pub range-requires-clause-end_boundary : goal.range-requires-clause-end_boundary
range-requires-clause-end_boundary c = IsCharBoundary-from_drop c.range_from-name.result.now c.run_length-run.result c.run_length-run.ensures.within c.run_length-run.ensures.rest

pub returns-then-branch : goal.returns-then-branch
returns-then-branch c =
    lifetime_word c.run_length-run.result c.args.rest.now c.range_from-name.result.now c.range_from-name.ensures.value c.requires c.run_length-run.ensures.within
    c.run_length-run.ensures.ends (ap is_lifetime_name (sym (c.range.ensures.value ∙ from_start c.run_length-run.result c.range_from-name.result.now)) ∙ (sym c.in_ok-is_lifetime_name.ensures ∙ c.if-branch.true))

pub returns : goal.returns
returns c =
    lifetime_no_word c.run_length-run.result c.args.rest.now c.range_from-name.result.now c.range_from-name.ensures.value c.requires c.run_length-run.ensures.text
    c.run_length-run.ensures.run c.run_length-run.ensures.ends (ap is_lifetime_name (sym (c.range.ensures.value ∙ from_start c.run_length-run.result c.range_from-name.result.now)) ∙ (sym c.in_ok-is_lifetime_name.ensures ∙ c.if-branch.false))
