-- The goals that no tactic closes: by the lemmas of texts and lists written one part after the other.
use Rattle.std.proofs.lemmas.Result.{on_ok_weaker}
use Rattle.rx_print_parts.proofs.WrittenLists.{next_written, tuple_written}
use Rattle.rx_print_parts.proofs.Seen.{types_seen}
use Rattle.rx_print_parts.proofs.types.+types.Goals as goal

pub push_types-loop-typ-preserved : goal.push_types-loop-typ-preserved
push_types-loop-typ-preserved t c =
    next_written types_seen c.loop-typ.follows c.args.list.now c.loop-typ.typ-index c.typ-item.result c.loop-typ.out c.push_next.new.out _ c.loop-typ-test.true c.typ-item.is
    c.in_ok-push_next.ensures c.loop-typ.invariant

pub push_tuple-returns : goal.push_tuple-returns
push_tuple-returns t c =
    on_ok_weaker c.push-2.result (tuple_written types_seen c.args.list.now c.args.out.now c.push.new.self c.push_types.new.out c.push-2.new.self c.tuple_end.result.now c.in_ok-push.ensures.ok
    c.in_ok-push_types.ensures c.tuple_end.ensures) c.push-2.ensures.ok
