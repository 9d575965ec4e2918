use Rattle.rx_hoist_made.proofs.Dropped.{found, passed}
use Rattle.rx_hoist_made.proofs.BoundLemmas.{field_here, pattern_here}
use Rattle.rx_hoist_made.proofs.bound.+binds.Goals as goal

pub one_binds-returns-then-binds : goal.one_binds-returns-then-binds
one_binds-returns-then-binds t c = found c.binds.result _ _ _ _ c.loop-pattern.invariant
    (pattern_here c.args.name.now c.args.patterns.now c.loop-pattern.pattern-index c.pattern-item.result c.loop-pattern-test.true c.pattern-item.is)
    c.binds.ensures c.if-binds.true

pub one_binds-loop-pattern-preserved : goal.one_binds-loop-pattern-preserved
one_binds-loop-pattern-preserved t c = passed c.binds.result _ _ _ _ c.loop-pattern.invariant
    (pattern_here c.args.name.now c.args.patterns.now c.loop-pattern.pattern-index c.pattern-item.result c.loop-pattern-test.true c.pattern-item.is)
    c.binds.ensures c.if-binds.false

pub one_field_binds-returns-then-binds : goal.one_field_binds-returns-then-binds
one_field_binds-returns-then-binds t c = found c.binds.result _ _ _ _ c.loop-field.invariant
    (field_here c.args.name.now c.args.fields.now c.loop-field.field-index c.field-item.result c.loop-field-test.true c.field-item.is)
    c.binds.ensures c.if-binds.true

pub one_field_binds-loop-field-preserved : goal.one_field_binds-loop-field-preserved
one_field_binds-loop-field-preserved t c = passed c.binds.result _ _ _ _ c.loop-field.invariant
    (field_here c.args.name.now c.args.fields.now c.loop-field.field-index c.field-item.result c.loop-field-test.true c.field-item.is)
    c.binds.ensures c.if-binds.false
