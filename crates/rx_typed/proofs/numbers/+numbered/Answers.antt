use Rattle.std.proofs.Common.{refl}
use Rattle.rx_typed.specs.Numbers.{all_numbered}
use Rattle.rx_typed.proofs.Loops.{numbered_turn, open_turn, rest_end}
use Rattle.rx_typed.proofs.numbers.+numbered.Goals as goal

pub all_numbered-loop-part-preserved : goal.all_numbered-loop-part-preserved
all_numbered-loop-part-preserved t c = record {
  numbered = numbered_turn c.args.from c.loop-part.next c.numbered.new.next c.args.parts.now c.loop-part.part-index c.part-item.result c.in_ok-one.one c.loop-part.all c.in_ok-one.held c.in_ok-all.all c.numbered.result _
      c.loop-part-test.true c.part-item.is c.in_ok-one.ensures.0 c.in_ok-one.ensures.1 c.numbered.ensures.numbered c.numbered.ensures.next c.in_ok-all.ensures c.loop-part.invariant.numbered;
  next = open_turn c.args.from c.loop-part.next c.numbered.new.next c.args.parts.now c.loop-part.part-index c.part-item.result c.in_ok-one.one c.numbered.result _
      c.loop-part-test.true c.part-item.is c.in_ok-one.ensures.0 c.numbered.ensures.next c.loop-part.invariant.next;
}

pub all_numbered-returns-clause-numbered : goal.all_numbered-returns-clause-numbered
all_numbered-returns-clause-numbered t c =
    rest_end (all_numbered c.args.from c.loop-part.next) c.args.parts.now c.loop-part.all c.loop-part.part-index _ c.loop-part-test.false refl c.loop-part.invariant.numbered
