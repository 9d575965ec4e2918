use Rattle.std.proofs.Common.{rules}
use Rattle.rx_splice_edits.proofs.LineLemmas.{last_step, last_end}
use Rattle.rx_splice_edits.proofs.indent.last_line.Goals as goal

pub loop-first-preserved : goal.loop-first-preserved
loop-first-preserved c = (search rules, last_step c.in-Some.first.0.now c.in-Some.first.1.now c.args.text.now c.loop-first.rest.now c.in-Some.ensures.0 c.loop-first.invariant.1)

pub returns : goal.returns
returns c = last_end c.loop-first.rest.now c.args.text.now c.in_default.ensures c.loop-first.invariant.1
