use Rattle.std.proofs.lemmas.Result.{on_ok_weaker}
use Rattle.rx_splice_edits.specs.Deciding.{moving_of}
use Rattle.rx_splice_edits.proofs.Words.{first_opened}
use Rattle.rx_splice_edits.proofs.moving.Moving.push_first_opening.Goals as goal

pub returns : goal.returns
returns c =
    on_ok_weaker c.push-3.result
    (first_opened (moving_of c.args.self.now.decided) c.args.text.now c.push.new.self c.push-2.new.self c.push-3.new.self c.as_str.result.now
    c.in_ok-name.name
    c.in_ok-push.ensures.ok c.in_ok-push-2.ensures.ok c.as_str.ensures c.in_ok-name.ensures)
    c.push-3.ensures.ok
