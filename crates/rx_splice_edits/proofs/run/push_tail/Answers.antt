use Rattle.std.proofs.lemmas.Result.{on_ok_weaker}
use Rattle.rx_splice_edits.specs.Deciding.{run_at}
use Rattle.rx_splice_edits.proofs.RunLemmas.{tail_some, tail_none}
use Rattle.rx_splice_edits.proofs.run.push_tail.Goals as goal

pub returns-in-Some : goal.returns-in-Some
returns-in-Some c =
    on_ok_weaker c.expression.result (tail_some (run_at c.args.moving.now.decided) c.args.own.now c.args.around.now c.args.tail c.in-Some.tail c.args.out.now _ c.in-Some.is) c.expression.ensures

pub returns-in-None : goal.returns-in-None
returns-in-None c = tail_none (run_at c.args.moving.now.decided) c.args.own.now c.args.around.now c.args.tail c.args.out.now c.in-None.is
