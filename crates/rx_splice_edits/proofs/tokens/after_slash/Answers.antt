use Rattle.std.proofs.Common.{ap, sym, ◌∙◌}
use Rattle.rx_lex.specs.Tok.{toks}
use Rattle.rx_splice_edits.specs.InOrder.{last_slash}
use Rattle.rx_splice_edits.proofs.TokenPlaces.{after_slash_is}
use Rattle.rx_splice_edits.proofs.tokens.after_slash.Goals as goal

pub returns : goal.returns
returns c = c.ends_slash.ensures ∙ ap (last_slash c.args.at) c.count_in_front.ensures.front ∙ sym (after_slash_is c.args.at 0 (toks c.args.tokens.now) c.requires)
