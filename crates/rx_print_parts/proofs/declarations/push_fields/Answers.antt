-- The goals that no tactic closes: by the lemmas of texts and lists written one part after the other.
use Rattle.rx_print_parts.proofs.WrittenItems.{entries_step}
use Rattle.rx_print_parts.proofs.Seen.{declared_fields_seen}
use Rattle.rx_print_parts.proofs.declarations.push_fields.Goals as goal

pub loop-field-preserved : goal.loop-field-preserved
loop-field-preserved c =
    entries_step declared_fields_seen c.args.list.now c.loop-field.field-index c.field-item.result c.loop-field.out c.push_field.new.out _ c.loop-field-test.true c.field-item.is
    c.in_ok-push_field.ensures c.loop-field.invariant
