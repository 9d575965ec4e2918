use Rattle.rx_splice_edits.proofs.Words.{star_written}
use Rattle.rx_splice_edits.proofs.moving.star.Goals as goal

pub returns : goal.returns
returns c = star_written c.in_ok-text.text c.push.new.self c.args.name.now c.as_str.result.now c.in_ok-text.ensures c.in_ok-push.ensures.ok c.as_str.ensures
