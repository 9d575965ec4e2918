use Rattle.std.proofs.Common.{◌∙◌}
use Rattle.rx_typeck_solver.proofs.ListReads.{outermost_here, outermost_none}
use Rattle.rx_typeck_solver.proofs.reading.gone.Goals as goal

pub returns-in-Reference : goal.returns-in-Reference
returns-in-Reference c = outermost_here c.args.arena.now.entries.items c.requires.formed.0 c.args.entry c.in-Reference.field-1 c.form.result c.in-Reference.mutable c.args.all c.requires.formed.1 c.requires.term c.form.ensures c.in-Reference.is c.if-all.false

pub returns-in_default : goal.returns-in_default
returns-in_default c = c.nothing_passed.ensures.none ∙ outermost_none c.args.arena.now.entries.items c.requires.formed.0 c.args.entry c.form.result c.args.all c.requires.formed.1 c.requires.term c.form.ensures (λ m j. c.in_default.not-Reference m j) c.if-all.false
