use Rattle.std.proofs.Common.{rules, ◌≡◌, ◌<◌, length, ℕ}
use Rattle.rx_typeck_solver.proofs.Viewing as viewing
use Rattle.rx_typeck_solver.proofs.solver.Solved.look.Goals as goal

pub returns-in-Fixed : goal.returns-in-Fixed
returns-in-Fixed c = viewing.fixed_seen c.args.self.now c.requires.sound c.args.entry c.form.result c.requires.entry c.form.ensures c.in-Fixed.kind c.in-Fixed.is

pub returns-in-KindOf : goal.returns-in-KindOf
returns-in-KindOf c = viewing.open_seen c.args.self.now c.requires.sound c.args.entry c.form.result c.requires.entry c.form.ensures c.in-KindOf.node c.parent_at-class.result c.set_at.result c.pick.result c.in-KindOf.is c.parent_at-class.ensures c.set_at.ensures c.pick.ensures

pub returns-in-Boolean : goal.returns-in-Boolean
returns-in-Boolean c = viewing.truth_seen c.args.self.now c.requires.sound c.args.entry c.form.result c.requires.entry c.form.ensures c.in-Boolean.is

pub returns-in-Tuple : goal.returns-in-Tuple
returns-in-Tuple c = viewing.tuple_seen c.args.self.now c.requires.sound c.args.entry c.form.result c.requires.entry c.form.ensures c.in-Tuple.field-0 c.in-Tuple.is

pub returns-in-Reference : goal.returns-in-Reference
returns-in-Reference c = viewing.reference_seen c.args.self.now c.requires.sound c.args.entry c.form.result c.requires.entry c.form.ensures c.in-Reference.mutable c.in-Reference.to c.in-Reference.is

pub returns-in-Named : goal.returns-in-Named
returns-in-Named c = viewing.named_seen c.args.self.now c.requires.sound c.args.entry c.form.result c.requires.entry c.form.ensures c.in-Named.item c.in-Named.is

pub returns-in-Nothing : goal.returns-in-Nothing
returns-in-Nothing c = viewing.nothing_seen c.args.self.now c.requires.sound c.args.entry c.form.result c.requires.entry c.form.ensures c.in-Nothing.is

pub returns-in-And : goal.returns-in-And
returns-in-And c = viewing.list_seen c.args.self.now c.requires.sound c.args.entry c.form.result c.requires.entry c.form.ensures c.in-And.field-0 c.in-And.field-1 c.in-And.is
