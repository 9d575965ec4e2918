use Rattle.rx_splice_edits.proofs.Words.{enclosed_written}
use Rattle.rx_splice_edits.proofs.moving.enclosed_star.Goals as goal

pub returns : goal.returns
returns c =
    enclosed_written c.in_ok-text.text c.push.new.self c.push-2.new.self c.args.name.now c.as_str.result.now
    c.in_ok-text.ensures c.in_ok-push.ensures.ok c.as_str.ensures c.in_ok-push-2.ensures.ok
