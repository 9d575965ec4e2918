-- What is left of both, with the variables so far, binds as all of it from the beginning.
use Rattle.std.proofs.Common.{◌≡◌, drop, map}
use Rattle.rx_typed.specs.PlainTree.{plain-Subpattern, subpatterns_of}
use Rattle.rx_engine_alike.specs.Patterns.{like_bindings_in}
use Rattle.rx_engine_alike.specs.PlainSights.{plain-Renaming}
use Rattle.rx_engine_alike.specs.PlainWays.{plain-Way, plain-Ways}
use Rattle.rx_engine_alike.proofs.patterns.+bound.Given as goal

abbrev pub invariant-like_bindings_in-loop-part : goal.invariant-like_bindings_in-loop-part
invariant-like_bindings_in-loop-part l =
    like_bindings_in (plain-Ways l.ways) (plain-Way l.way) (plain-Renaming l.renaming.items)
    (subpatterns_of (map plain-Subpattern (drop l.part-index l.parts))) (subpatterns_of (map plain-Subpattern l.right))
    ≡ like_bindings_in (plain-Ways l.fn.ways) (plain-Way l.fn.way) (plain-Renaming l.fn.renaming.items)
    (subpatterns_of (map plain-Subpattern l.fn.parts)) (subpatterns_of (map plain-Subpattern l.fn.others))
