use Rattle.std.proofs.Common.{refl}
use Rattle.std.proofs.lemmas.Result.{on_ok_weaker}
use Rattle.rx_splice_edits.specs.Deciding.{moving_of, tokens_of}
use Rattle.rx_splice_edits.proofs.Places.{opening_put}
use Rattle.rx_splice_edits.proofs.moving.MovingPlaces.before_operand.Goals as goal

pub next_start-at-requires : goal.next_start-at-requires
next_start-at-requires c = c.args.self.now.decided.ordered

pub returns : goal.returns
returns c =
    let d = c.args.self.now.decided in
    record {
      text =
          on_ok_weaker c.put.result
          (opening_put (moving_of d) (tokens_of d) c.args.span c.next_start-at.result c.args.out.now c.put.new.self c.in_ok-text.text
          c.next_start-at.ensures c.in_ok-text.ensures)
          c.put.ensures;
      whole = λ es. refl;
    }
