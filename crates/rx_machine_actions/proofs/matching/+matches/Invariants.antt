use Rattle.std.proofs.Common.{◌≡◌, map, option_map, drop}
use Rattle.rx_typed.specs.PlainTree.{plain-Subpattern, subpatterns_of}
use Rattle.rx_machine_values.specs.PlainValues.{plain-Part}
use Rattle.rx_machine_values.specs.PlainMemory.{plain-Memory}
use Rattle.rx_machine_actions.specs.Matching as spec
use Rattle.rx_machine_actions.proofs.matching.+matches.Given as goal

abbrev pub invariant-parts_hold-loop-part : goal.invariant-parts_hold-loop-part
invariant-parts_hold-loop-part l =
    spec.all_parts_hold (plain-Memory l.memory) (option_map plain-Part l.at) (subpatterns_of (map plain-Subpattern (drop l.part-index l.parts)))
    ≡ spec.all_parts_hold (plain-Memory l.fn.memory) (option_map plain-Part l.fn.at) (subpatterns_of (map plain-Subpattern l.fn.parts))
