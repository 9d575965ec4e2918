use Rattle.std.proofs.Common.{ap, sym, ◌∙◌}
use Rattle.rx_lex.specs.Tok.{toks}
use Rattle.rx_splice_edits.specs.InOrder.{behind_first}
use Rattle.rx_splice_edits.proofs.TokenPlaces.{behind_is}
use Rattle.rx_splice_edits.proofs.tokens.behind.Goals as goal

pub returns : goal.returns
returns c = c.behind_first.ensures ∙ ap (behind_first c.args.at) c.tokens_from.ensures ∙ sym (behind_is c.args.at 0 (toks c.args.tokens.now) c.requires)
