use Rattle.std.proofs.Common.{arith, sym, ◌∙◌}
use Rattle.rx_engine_extracted.proofs.TailLemmas.{behind_short, behind_long}
use Rattle.rx_engine_extracted.proofs.tail_ending.takes_behind.Goals as goal

pub returns-in_default : goal.returns-in_default
returns-in_default c = sym (behind_short c.args.variables.now c.loop-index.index c.loop-index.right.now c.loop-index-test.true (omega (arith, c.in_default.len_below))) ∙ c.loop-index.invariant

pub returns-in-len1-up-right : goal.returns-in-len1-up-right
returns-in-len1-up-right c = sym (behind_long c.args.variables.now c.loop-index.index c.loop-index.right.now c.loop-index-test.false (omega (arith, c.in-len1-up-right.len_at_least))) ∙ c.loop-index.invariant
