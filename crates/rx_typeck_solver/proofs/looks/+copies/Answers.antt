use Rattle.std.proofs.Common.{sym, ap, ◌∙◌, ◌&&◌}
use Rattle.rx_typeck_solver.specs.Cells.{cell}
use Rattle.rx_typeck_solver.specs.Looks.{copies_cell}
use Rattle.rx_typeck_solver.proofs.Looking as looking
use Rattle.rx_typed.specs.PlainTypes.{declarations}
use Rattle.rx_typeck_solver.proofs.looks.+copies.Goals as goal

pub returns-in-Tuple : goal.returns-in-Tuple
returns-in-Tuple t c = c.copies.ensures ∙ sym (looking.copies_here (declarations c.args.items.now) c.args.arena.now.entries.items c.requires.formed c.args.at c.form.result _ c.requires.within c.form.ensures c.in-Tuple.is)

pub returns-in-Reference : goal.returns-in-Reference
returns-in-Reference t c = sym (looking.copies_here (declarations c.args.items.now) c.args.arena.now.entries.items c.requires.formed c.args.at c.form.result _ c.requires.within c.form.ensures c.in-Reference.is)

pub returns-in-Named : goal.returns-in-Named
returns-in-Named t c = c.derives_copy.ensures ∙ sym (looking.copies_here (declarations c.args.items.now) c.args.arena.now.entries.items c.requires.formed c.args.at c.form.result _ c.requires.within c.form.ensures c.in-Named.is)

pub returns-in-Fixed : goal.returns-in-Fixed
returns-in-Fixed t c = sym (looking.copies_here (declarations c.args.items.now) c.args.arena.now.entries.items c.requires.formed c.args.at c.form.result _ c.requires.within c.form.ensures c.in-Fixed.is)

pub returns-in-KindOf : goal.returns-in-KindOf
returns-in-KindOf t c = sym (looking.copies_here (declarations c.args.items.now) c.args.arena.now.entries.items c.requires.formed c.args.at c.form.result _ c.requires.within c.form.ensures c.in-KindOf.is)

pub returns-in-Boolean : goal.returns-in-Boolean
returns-in-Boolean t c = sym (looking.copies_here (declarations c.args.items.now) c.args.arena.now.entries.items c.requires.formed c.args.at c.form.result _ c.requires.within c.form.ensures c.in-Boolean.is)

pub returns-in-Nothing : goal.returns-in-Nothing
returns-in-Nothing t c = sym (looking.copies_here (declarations c.args.items.now) c.args.arena.now.entries.items c.requires.formed c.args.at c.form.result _ c.requires.within c.form.ensures c.in-Nothing.is)

pub returns-then-copies : goal.returns-then-copies
returns-then-copies t c = c.copies-then-copies.ensures ∙ ap (λ b. b && copies_cell (declarations c.args.items.now) (cell c.args.arena.now.entries.items c.in-And.others)) (sym (sym c.copies-in-And.ensures ∙ c.if-copies.true)) ∙ sym (looking.copies_here (declarations c.args.items.now) c.args.arena.now.entries.items c.requires.formed c.args.at c.form.result _ c.requires.within c.form.ensures c.in-And.is)

pub returns-else-copies : goal.returns-else-copies
returns-else-copies t c = c.if-copies.false ∙ ap (λ b. b && copies_cell (declarations c.args.items.now) (cell c.args.arena.now.entries.items c.in-And.others)) (sym (sym c.copies-in-And.ensures ∙ c.if-copies.false)) ∙ sym (looking.copies_here (declarations c.args.items.now) c.args.arena.now.entries.items c.requires.formed c.args.at c.form.result _ c.requires.within c.form.ensures c.in-And.is)
