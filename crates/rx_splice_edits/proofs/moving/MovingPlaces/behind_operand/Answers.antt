use Rattle.std.proofs.Common.{refl}
use Rattle.std.proofs.lemmas.Result.{on_ok_weaker}
use Rattle.rx_splice_laws.specs.Moving.{closing}
use Rattle.rx_splice_edits.specs.Deciding.{moving_of}
use Rattle.rx_splice_edits.proofs.Places.{put_at}
use Rattle.rx_splice_edits.proofs.moving.MovingPlaces.behind_operand.Goals as goal

pub returns : goal.returns
returns c =
    on_ok_weaker c.put.result
    (put_at c.args.out.now c.put.new.self c.args.span.end c.args.span.end c.in_ok-text.text (closing (moving_of c.args.self.now.decided)) refl
    c.in_ok-text.ensures)
    c.put.ensures
