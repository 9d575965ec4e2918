use Rattle.std.proofs.lemmas.Result.{on_ok_weaker}
use Rattle.rx_splice_edits.proofs.Words.{next_name}
use Rattle.rx_splice_edits.proofs.moving.push_next.Goals as goal

pub returns : goal.returns
returns c =
    on_ok_weaker c.push-2.result
    (λ last. next_name c.args.follows c.args.out.now c.push.new.self c.push-2.new.self c.comma.result.now c.args.name.now c.as_str.result.now
    c.in_ok-push.ensures.ok c.comma.ensures last c.as_str.ensures)
    c.push-2.ensures.ok
