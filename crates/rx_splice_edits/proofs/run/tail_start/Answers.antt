use Rattle.std.proofs.Common.{ap, ◌∙◌}
use Rattle.rx_lex.specs.Tok.{toks}
use Rattle.rx_splice_laws.specs.Places.{first_start, tokens_from}
use Rattle.rx_splice_edits.proofs.run.tail_start.Goals as goal

pub returns : goal.returns
returns c =
    let all = toks c.args.tokens.now in
    c.first_start.ensures ∙ ap (first_start c.args.start) (c.tokens_from.ensures ∙ ap (λ at. tokens_from at all) c.behind_statements.ensures)
