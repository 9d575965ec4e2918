use Rattle.std.proofs.Common.{arith, sym, ◌∙◌}
use Rattle.rx_engine_alike.proofs.GivenLemmas.{taken_short, taken_long}
use Rattle.rx_engine_alike.proofs.giving.takes_all.Goals as goal

pub returns-in_default : goal.returns-in_default
returns-in_default c = sym (taken_short c.args.variables.now c.loop-field.field c.loop-field.right.now c.loop-field-test.true (omega (arith, c.in_default.len_below))) ∙ c.loop-field.invariant

pub returns-in-len1-up-right : goal.returns-in-len1-up-right
returns-in-len1-up-right c = sym (taken_long c.args.variables.now c.loop-field.field c.loop-field.right.now c.loop-field-test.false (omega (arith, c.in-len1-up-right.len_at_least))) ∙ c.loop-field.invariant
