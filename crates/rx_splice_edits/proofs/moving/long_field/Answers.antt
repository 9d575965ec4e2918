use Rattle.rx_splice_edits.proofs.Words.{long_written}
use Rattle.rx_splice_edits.proofs.moving.long_field.Goals as goal

pub returns : goal.returns
returns c =
    long_written c.in_ok-text.text c.push.new.self c.push-2.new.self c.args.name.now c.as_str.result.now
    c.in_ok-text.ensures c.in_ok-push.ensures.ok c.in_ok-push-2.ensures.ok c.as_str.ensures
