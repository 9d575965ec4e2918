-- Those that are passed borrow.
use Rattle.std.proofs.Common.{◌≡◌, drop, map}
use Rattle.rx_typed.specs.PlainTree.{plain-Subpattern, subpatterns_of}
use Rattle.rx_engine_alike.specs.Patterns.{all_borrow_in}
use Rattle.rx_engine_alike.proofs.patterns.+borrowed.Given as goal

abbrev pub invariant-all_borrow_in-loop-part : goal.invariant-all_borrow_in-loop-part
invariant-all_borrow_in-loop-part l =
    all_borrow_in l.to (subpatterns_of (map plain-Subpattern (drop l.part-index l.parts))) ≡ all_borrow_in l.to (subpatterns_of (map plain-Subpattern l.parts))
