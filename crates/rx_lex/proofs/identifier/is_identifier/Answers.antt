use Rattle.std.proofs.Common.{sym, ap, ◌∙◌}
use Rattle.rx_lex.specs.Words.{keywords}
use Rattle.rx_core.specs.Bytes.{is_one_of}
use Rattle.rx_lex.proofs.NameTests.{keyword_no_identifier}
use Rattle.rx_lex.proofs.identifier.is_identifier.Goals as goal

pub returns-then-is_keyword : goal.returns-then-is_keyword
returns-then-is_keyword c =
    keyword_no_identifier c.args.word.now (ap (λ l. is_one_of l keywords) (sym c.as_bytes-bytes.ensures.value) ∙ (sym c.is_keyword.ensures ∙ c.if-is_keyword.true))
