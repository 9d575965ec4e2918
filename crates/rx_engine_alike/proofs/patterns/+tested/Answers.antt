use Rattle.std.proofs.Common.{arith, sym, ◌∙◌}
use Rattle.rx_engine_alike.specs.PlainWays.{plain-Way}
use Rattle.rx_engine_alike.proofs.PatternLemmas.{tests_long}
use Rattle.rx_engine_alike.proofs.patterns.+tested.Goals as goal

pub like_tests_in-returns-in-len1-up-right : goal.like_tests_in-returns-in-len1-up-right
like_tests_in-returns-in-len1-up-right t c =
    sym (tests_long (plain-Way c.args.way) c.args.parts.now c.loop-part.part-index c.loop-part.right.now c.loop-part-test.false (omega (arith, c.in-len1-up-right.len_at_least))) ∙ c.loop-part.invariant
