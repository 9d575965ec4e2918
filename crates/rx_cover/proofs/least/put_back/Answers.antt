use Rattle.rx_cover.proofs.LeastLemmas.{put_next}
use Rattle.rx_cover.proofs.least.put_back.Goals as goal

pub loop-column-preserved : goal.loop-column-preserved
loop-column-preserved c = put_next c.loop-column.columns c.pop.new.self c.loop-column.pending c.push.new.self c.in-Some.column _ c.in-Some.ensures c.in_ok-push.ensures.ok c.loop-column.invariant
