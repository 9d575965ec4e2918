use Rattle.std.proofs.Common.{◌∙◌, ap, sym, map, drop, ◌+◌}
use Rattle.rx_typed.specs.PlainTree.{plain-Subpattern, subpatterns_of}
use Rattle.rx_cover.specs.PlainTested.{plain-Tested}
use Rattle.rx_cover.specs.Width.{with_tests, tests_among}
use Rattle.rx_cover.proofs.WidthLemmas.{parts_next}
use Rattle.rx_cover.proofs.width.+tests.Goals as goal

pub add_part_tests-loop-part-preserved : goal.add_part_tests-loop-part-preserved
add_part_tests-loop-part-preserved t c =
    let rest = subpatterns_of (map plain-Subpattern (drop (c.loop-part.part-index + 1) c.args.parts.now)) in (
      ap (λ q. with_tests (map plain-Tested c.add_tests_at.new.table.items) (tests_among q rest)) c.in_ok-add_tests_at.ensures.path
          ∙ ap (λ m. with_tests m (tests_among c.loop-part.path.items rest)) c.in_ok-add_tests_at.ensures.table
          ∙ sym (parts_next (map plain-Tested c.loop-part.table.items) c.loop-part.path.items c.args.parts.now c.loop-part.part-index c.part-item.result c.loop-part-test.true c.part-item.is)
          ∙ c.loop-part.invariant.0,
      c.in_ok-add_tests_at.ensures.path ∙ c.loop-part.invariant.1,
    )
