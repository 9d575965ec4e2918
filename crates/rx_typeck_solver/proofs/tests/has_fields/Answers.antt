use Rattle.rx_typeck_solver.proofs.Looking.{fields_then, fields_else}
use Rattle.rx_typeck_solver.proofs.tests.has_fields.Goals as goal

pub returns-then-fields-len : goal.returns-then-fields-len
returns-then-fields-len c = fields_then c.fields_of-fields.result.now _ c.args.names.now c.len.result c.all_among.result c.fields_of-fields.ensures c.len.ensures c.all_among.ensures c.if-fields-len.true

pub returns-else-fields-len : goal.returns-else-fields-len
returns-else-fields-len c = fields_else c.fields_of-fields.result.now _ c.args.names.now c.len.result c.fields_of-fields.ensures c.len.ensures c.if-fields-len.false
