use Rattle.std.proofs.Common.{◌≡◌, map, drop}
use Rattle.rx_typed.specs.PlainTree.{plain-Subpattern, subpatterns_of}
use Rattle.rx_cover.specs.Width.{with_tests, tests_among}
use Rattle.rx_cover.specs.PlainTested.{plain-Tested}
use Rattle.rx_cover.proofs.width.+tests.Given as goal

abbrev pub invariant-add_part_tests-loop-part : goal.invariant-add_part_tests-loop-part
invariant-add_part_tests-loop-part l = (with_tests (map plain-Tested l.table.items) (tests_among l.path.items (subpatterns_of (map plain-Subpattern (drop l.part-index l.parts)))) ≡ with_tests (map plain-Tested l.fn.table.items) (tests_among l.fn.path.items (subpatterns_of (map plain-Subpattern l.fn.parts)))) × (l.path.items ≡ l.fn.path.items)
