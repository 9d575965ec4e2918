use Rattle.std.proofs.Common.{sym, ◌∙◌}
use Rattle.rx_lex.proofs.FrontWords.{two_word, one_word, comment_no_mark, no_mark}
use Rattle.rx_lex.proofs.front.mark_length.Goals as goal

pub returns-then-has_long_mark : goal.returns-then-has_long_mark
returns-then-has_long_mark c = two_word c.args.rest.now (sym c.has_long_mark.ensures ∙ c.if-has_long_mark.true)

pub returns-then-begins_comment : goal.returns-then-begins_comment
returns-then-begins_comment c =
    comment_no_mark c.args.rest.now (sym c.has_long_mark.ensures ∙ c.if-has_long_mark.false) (sym c.begins_comment.ensures ∙ c.if-begins_comment.true)

pub returns-then-has_short_mark : goal.returns-then-has_short_mark
returns-then-has_short_mark c =
    one_word c.args.rest.now (sym c.has_long_mark.ensures ∙ c.if-has_long_mark.false) (sym c.begins_comment.ensures ∙ c.if-begins_comment.false)
    (sym c.has_short_mark.ensures ∙ c.if-has_short_mark.true) c.requires

pub returns : goal.returns
returns c = λ g. no_mark c.args.rest.now (sym c.has_long_mark.ensures ∙ c.if-has_long_mark.false) (sym c.has_short_mark.ensures ∙ c.if-has_short_mark.false)
