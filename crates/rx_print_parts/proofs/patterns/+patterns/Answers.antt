-- The goals that no tactic closes: by the lemmas of texts and lists written one part after the other.
use Rattle.std.proofs.Common.{◌++◌, ◌∙◌, ap}
use Rattle.std.proofs.lemmas.Result.{on_ok_weaker}
use Rattle.rx_print_spelling.specs.Pieces.{flat}
use Rattle.rx_print_parts.proofs.WrittenLists.{next_written, tuple_written, some_parts, some_fields}
use Rattle.rx_print_parts.proofs.Seen.{patterns_seen, field_patterns_seen}
use Rattle.rx_print_parts.proofs.patterns.+patterns.Goals as goal

pub push_patterns-loop-pattern-preserved : goal.push_patterns-loop-pattern-preserved
push_patterns-loop-pattern-preserved t c =
    next_written patterns_seen c.loop-pattern.follows c.args.list.now c.loop-pattern.pattern-index c.pattern-item.result c.loop-pattern.out c.push_next.new.out _ c.loop-pattern-test.true c.pattern-item.is
    c.in_ok-push_next.ensures c.loop-pattern.invariant

pub push_fields-loop-field-preserved : goal.push_fields-loop-field-preserved
push_fields-loop-field-preserved t c =
    next_written field_patterns_seen c.loop-field.follows c.args.list.now c.loop-field.field-index c.field-item.result c.loop-field.out c.push_field.new.out _ c.loop-field-test.true c.field-item.is
    c.in_ok-push_field.ensures c.loop-field.invariant

pub push_tuple-returns : goal.push_tuple-returns
push_tuple-returns t c =
    on_ok_weaker c.push-2.result (tuple_written patterns_seen c.args.list.now c.args.out.now c.push.new.self c.push_patterns.new.out c.push-2.new.self c.tuple_end.result.now c.in_ok-push.ensures.ok
    c.in_ok-push_patterns.ensures c.tuple_end.ensures) c.push-2.ensures.ok

pub push_parts-returns : goal.push_parts-returns
push_parts-returns t c =
    on_ok_weaker c.push_arguments.result (λ s. s ∙ ap (λ p. c.args.out.now ++ flat p) (some_parts patterns_seen c.args.list.now c.is_empty.result c.is_empty.ensures c.if-is_empty.false)) c.push_arguments.ensures

pub push_braces-returns : goal.push_braces-returns
push_braces-returns t c =
    on_ok_weaker c.push-3.result (some_fields field_patterns_seen c.args.list.now c.is_empty.result c.is_empty.ensures c.if-is_empty.false c.args.out.now c.push-2.new.self c.push_fields.new.out c.push-3.new.self
    c.in_ok-push.ensures.ok c.in_ok-push_fields.ensures) c.push-3.ensures.ok
