use Rattle.std.proofs.Common.{length, refl, ap, ◌∙◌}
use Rattle.rx_typeck_solver.specs.Solver.{integer_in}
use Rattle.rx_typeck_solver.specs.Parents.{state_in}
use Rattle.rx_typeck_solver.specs.Cells.{cell, cell_form, term_in}
use Rattle.rx_typeck_solver.proofs.ClassSteps.{step_of}
use Rattle.rx_typeck_solver.proofs.Pairing.{term_is, no_integer}
use Rattle.rx_typeck_solver.proofs.tables.integer_in.Goals as goal

pub returns-in-Fixed-clause-step : goal.returns-in-Fixed-clause-step
returns-in-Fixed-clause-step c = λ tab. let s = state_in tab c.args.classes.now.parents.items c.args.classes.now.sets.items in
    ap (λ t. integer_in t c.args.kinds s) (term_is c.args.arena.now.entries.items (length c.args.classes.now.parents.items) c.args.entry c.form.result c.requires.formed c.requires.term.0 c.form.ensures ∙ ap (λ f. term_in (cell_form (cell c.args.arena.now.entries.items) f)) c.in-Fixed.is) ∙ step_of c.has.result _ s c.has.ensures

pub returns-in-KindOf-clause-step : goal.returns-in-KindOf-clause-step
returns-in-KindOf-clause-step c = λ tab. let s = state_in tab c.args.classes.now.parents.items c.args.classes.now.sets.items in
    ap (λ t. integer_in t c.args.kinds s) (term_is c.args.arena.now.entries.items (length c.args.classes.now.parents.items) c.args.entry c.form.result c.requires.formed c.requires.term.0 c.form.ensures ∙ ap (λ f. term_in (cell_form (cell c.args.arena.now.entries.items) f)) c.in-KindOf.is) ∙ c.restrict.ensures.step tab

pub returns-in_default : goal.returns-in_default
returns-in_default c = record {
  step = λ tab. no_integer c.args.arena.now.entries.items (length c.args.classes.now.parents.items) c.args.entry c.form.result c.args.kinds _ c.requires.formed c.requires.term.0 c.form.ensures (λ k. c.in_default.not-Fixed k) (λ m. c.in_default.not-KindOf m);
  classed = c.requires.classed;
  as_many = refl;
}
