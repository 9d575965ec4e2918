use Rattle.rx_splice_edits.proofs.Last.{some_last, no_last, slash_some, slash_none}
use Rattle.rx_splice_edits.proofs.tokens.ends_slash.Goals as goal

pub returns-in-Some : goal.returns-in-Some
returns-in-Some c =
    slash_some c.args.at c.args.tokens.now c.in-Some.last.now _ (some_last c.args.tokens.now c.last.result c.in-Some.last c.last.ensures.value c.in-Some.is) c.is_slash.ensures

pub returns-in-None : goal.returns-in-None
returns-in-None c = slash_none c.args.at c.args.tokens.now (no_last c.args.tokens.now c.last.result c.last.ensures.value c.in-None.is)
