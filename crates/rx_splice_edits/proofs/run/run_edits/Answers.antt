use Rattle.rx_hoist_made.specs.PlainParts.{plain-Labels, plain-RunParts}
use Rattle.rx_splice_edits.specs.Deciding.{run_at, tokens_of}
use Rattle.rx_splice_edits.proofs.RunLemmas.{all_written}
use Rattle.rx_splice_edits.proofs.run.run_edits.Goals as goal

pub returns : goal.returns
returns c e i =
    let d = c.args.moving.now.decided in
    all_written (run_at d) (tokens_of d) d.run (plain-Labels c.args.labels.now) (plain-RunParts c.args.run) e
    c.tail_start-at.result c.statements.new.own c.new-own.result c.in_ok-around.around c.new-out.result c.statements.new.out c.put_if_any.new.out c.push_tail.new.out c.put_if_any-2.new.out
    c.new-out.ensures c.new-own.ensures c.in_ok-around.ensures c.in_ok-statements.ensures.made c.in_ok-statements.ensures.own c.tail_start-at.ensures
    (c.in_ok-put_if_any.ensures e.before i.0) c.in_ok-push_tail.ensures (c.in_ok-put_if_any-2.ensures e.behind i.1)
