use Rattle.std.proofs.lemmas.Result.{on_ok_weaker}
use Rattle.rx_splice_edits.proofs.TextLemmas.{tail_written, no_tail}
use Rattle.rx_splice_edits.proofs.text.push_tail.Goals as goal

pub returns-in_ok-push_feed-in-Some : goal.returns-in_ok-push_feed-in-Some
returns-in_ok-push_feed-in-Some c =
    on_ok_weaker c.push_between.result (tail_written c.args.follows c.goes_on.result c.args.tail.now c.in-Some.tail c.get-tail.result.now c.none-margin.result c.args.out.now c.push_feed.new.out c.push_between.new.out
    c.in-Some.is c.get-tail.ensures c.none-margin.ensures c.goes_on.ensures c.in_ok-push_feed-in-Some.ensures) c.push_between.ensures

pub returns-in-None : goal.returns-in-None
returns-in-None c = no_tail c.args.follows c.args.tail.now c.args.out.now c.in-None.is
