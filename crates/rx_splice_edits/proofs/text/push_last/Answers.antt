use Rattle.std.proofs.Common.{suc, ap, ◌∙◌}
use Rattle.std.proofs.lemmas.Result.{on_ok_weaker}
use Rattle.rx_splice_edits.proofs.TextLemmas.{last_written, no_last_line}
use Rattle.rx_splice_edits.proofs.text.push_last.Goals as goal

pub returns-in_ok-margin-in-Some : goal.returns-in_ok-margin-in-Some
returns-in_ok-margin-in-Some c =
    on_ok_weaker c.push_value.result (last_written c.args.tail.now c.in-Some.tail c.get.result.now c.in_ok-margin-in-Some.margin c.args.out.now c.push_value.new.out
    c.in-Some.is c.get.ensures (c.in_ok-margin-in-Some.ensures ∙ ap suc c.none.ensures)) c.push_value.ensures

pub returns-in-None : goal.returns-in-None
returns-in-None c = no_last_line c.args.tail.now c.args.out.now c.in-None.is
