use Rattle.std.proofs.lemmas.Result.{on_ok_weaker}
use Rattle.rx_splice_edits.proofs.Words.{no_values, some_values}
use Rattle.rx_splice_edits.proofs.moving.push_values.Goals as goal

pub returns-then-is_empty : goal.returns-then-is_empty
returns-then-is_empty c = no_values c.args.variables.now c.is_empty.result c.args.out.now c.is_empty.ensures c.if-is_empty.true

pub returns : goal.returns
returns c =
    on_ok_weaker c.push-2.result
    (some_values c.args.variables.now c.is_empty.result c.args.out.now c.push.new.self c.push_names.new.out c.push-2.new.self c.is_empty.ensures
    c.if-is_empty.false
    c.in_ok-push.ensures.ok c.in_ok-push_names.ensures)
    c.push-2.ensures.ok
