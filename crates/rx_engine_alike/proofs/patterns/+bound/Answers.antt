use Rattle.std.proofs.Common.{arith, sym, ◌∙◌}
use Rattle.rx_engine_alike.specs.PlainSights.{plain-Renaming}
use Rattle.rx_engine_alike.specs.PlainWays.{plain-Way, plain-Ways}
use Rattle.rx_engine_alike.proofs.PatternLemmas.{binds_long}
use Rattle.rx_engine_alike.proofs.patterns.+bound.Goals as goal

pub like_bindings_in-returns-in-len1-up-right : goal.like_bindings_in-returns-in-len1-up-right
like_bindings_in-returns-in-len1-up-right t c =
    sym (binds_long (plain-Ways c.args.ways.now) (plain-Way c.args.way) (plain-Renaming c.loop-part.renaming.items) c.args.parts.now c.loop-part.part-index c.loop-part.right.now
    c.loop-part-test.false (omega (arith, c.in-len1-up-right.len_at_least))) ∙ c.loop-part.invariant
