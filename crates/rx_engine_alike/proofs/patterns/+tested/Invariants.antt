-- What is left of both tests alike where all of it does.
use Rattle.std.proofs.Common.{◌≡◌, drop, map}
use Rattle.rx_typed.specs.PlainTree.{plain-Subpattern, subpatterns_of}
use Rattle.rx_engine_alike.specs.Patterns.{like_tests_in}
use Rattle.rx_engine_alike.specs.PlainWays.{plain-Way}
use Rattle.rx_engine_alike.proofs.patterns.+tested.Given as goal

abbrev pub invariant-like_tests_in-loop-part : goal.invariant-like_tests_in-loop-part
invariant-like_tests_in-loop-part l =
    like_tests_in (plain-Way l.way) (subpatterns_of (map plain-Subpattern (drop l.part-index l.parts))) (subpatterns_of (map plain-Subpattern l.right))
    ≡ like_tests_in (plain-Way l.fn.way) (subpatterns_of (map plain-Subpattern l.fn.parts)) (subpatterns_of (map plain-Subpattern l.fn.others))
