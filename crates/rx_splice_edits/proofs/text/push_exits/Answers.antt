use Rattle.std.proofs.lemmas.Result.{on_ok_weaker}
use Rattle.rx_splice_edits.proofs.TextLemmas.{exits_written, no_exits}
use Rattle.rx_splice_edits.proofs.text.push_exits.Goals as goal

pub returns-in_ok-push-in-Some : goal.returns-in_ok-push-in-Some
returns-in_ok-push-in-Some c =
    on_ok_weaker c.push_enum.result (exits_written c.args.exits c.in-Some.exits c.args.out.now c.push.new.self c.push_enum.new.out c.in-Some.is c.in_ok-push-in-Some.ensures.ok) c.push_enum.ensures

pub returns-in-None : goal.returns-in-None
returns-in-None c = no_exits c.args.exits c.args.out.now c.in-None.is
