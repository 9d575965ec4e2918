use Rattle.std.proofs.Common.{◌≡◌, ◌++◌, map, drop}
use Rattle.rx_typed.specs.PlainTree.{plain-Subpattern, subpatterns_of}
use Rattle.rx_exits_plan.specs.Bound.{bound_parts}
use Rattle.rx_exits_plan.proofs.bound.+bound.Given as goal

abbrev pub invariant-push_parts-loop-part : goal.invariant-push_parts-loop-part
invariant-push_parts-loop-part l =
    l.variables ++ bound_parts (subpatterns_of (map plain-Subpattern (drop l.part-index l.parts))) ≡ l.fn.variables ++ bound_parts (subpatterns_of (map plain-Subpattern l.fn.parts))
