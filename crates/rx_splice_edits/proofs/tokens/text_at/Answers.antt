use Rattle.std.proofs.Common.{ap, sym, ◌∙◌}
use Rattle.rx_lex.specs.Tok.{toks}
use Rattle.rx_splice_edits.specs.InOrder.{text_first}
use Rattle.rx_splice_edits.proofs.TokenPlaces.{text_is}
use Rattle.rx_splice_edits.proofs.tokens.text_at.Goals as goal

pub returns : goal.returns
returns c = c.text_first.ensures ∙ ap (text_first c.args.at) c.tokens_from.ensures ∙ sym (text_is c.args.at 0 (toks c.args.tokens.now) c.requires)
