use Rattle.rx_facts_tables.proofs.Fronts.{kept_more}
use Rattle.rx_facts_tables.proofs.watching.watch_fronts.Goals as goal

pub loop-k-preserved : goal.loop-k-preserved
loop-k-preserved c = record {
  kept = kept_more c.loop-k.watched c.watch.new.watched c.args.variable c.args.steps.now c.front.result.now c.loop-k.k c.in_ok-watch.ensures.keeps c.front.ensures c.in_ok-watch.ensures.kept c.loop-k.invariant.kept;
  keeps = λ x qs h. c.in_ok-watch.ensures.keeps x qs (c.loop-k.invariant.keeps x qs h);
}
