use Rattle.std.proofs.lemmas.Result.{on_ok_weaker}
use Rattle.rx_splice_edits.specs.Deciding.{moving_of}
use Rattle.rx_splice_edits.proofs.Words.{first_closed}
use Rattle.rx_splice_edits.proofs.moving.Moving.push_first_closing.Goals as goal

pub returns : goal.returns
returns c =
    on_ok_weaker c.push-2.result
    (first_closed (moving_of c.args.self.now.decided) c.args.text.now c.push.new.self c.push_variant.new.out c.push-2.new.self
    c.in_ok-push.ensures.ok c.in_ok-push_variant.ensures)
    c.push-2.ensures.ok
