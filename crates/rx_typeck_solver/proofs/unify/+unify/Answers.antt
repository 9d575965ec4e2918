use Rattle.std.proofs.Common.{length, refl, sym, ap, ◌∙◌}
use Rattle.rx_typeck_solver.specs.Solver.{Step, State, restrict}
use Rattle.rx_typeck_solver.specs.Parents.{state_in}
use Rattle.rx_typeck_solver.specs.Cells.{cell}
use Rattle.rx_typeck_solver.specs.Pairs.{unify_cells, pair_step}
use Rattle.rx_typeck_solver.proofs.ClassSteps.{step_of}
use Rattle.rx_typeck_solver.proofs.Pairing.{by_pair, cells_itself, so_true, so_false}
use Rattle.rx_typeck_solver.proofs.unify.+unify.Goals as goal

pub returns-then-a-b-clause-step : goal.returns-then-a-b-clause-step
returns-then-a-b-clause-step t c = λ tab. let s = state_in tab c.args.classes.now.parents.items c.args.classes.now.sets.items in
    ap (λ x. unify_cells (cell c.args.arena.now.entries.items c.args.a) (cell c.args.arena.now.entries.items x) s) (sym c.if-a-b.true) ∙ cells_itself (cell c.args.arena.now.entries.items c.args.a) s c.requires.classed.left

pub returns-in-Done-clause-step : goal.returns-in-Done-clause-step
returns-in-Done-clause-step t c = λ tab. let s = state_in tab c.args.classes.now.parents.items c.args.classes.now.sets.items in
    by_pair c.args.arena.now.entries.items (length c.args.classes.now.parents.items) c.args.a c.args.b c.form.result c.form-2.result c.compared.result s c.requires.built c.requires.a c.requires.b c.form.ensures c.form-2.ensures c.compared.ensures
    ∙ ap (λ p. pair_step (cell c.args.arena.now.entries.items) p s) c.in-Done.is ∙ step_of _ _ s refl

pub returns-in-Restrict-clause-step : goal.returns-in-Restrict-clause-step
returns-in-Restrict-clause-step t c = λ tab. let s = state_in tab c.args.classes.now.parents.items c.args.classes.now.sets.items in
    by_pair c.args.arena.now.entries.items (length c.args.classes.now.parents.items) c.args.a c.args.b c.form.result c.form-2.result c.compared.result s c.requires.built c.requires.a c.requires.b c.form.ensures c.form-2.ensures c.compared.ensures
    ∙ ap (λ p. pair_step (cell c.args.arena.now.entries.items) p s) c.in-Restrict.is ∙ ap (λ k. restrict c.in-Restrict.n k s) (sym c.only.ensures) ∙ c.restrict.ensures.step tab

pub returns-in-Merge-clause-step : goal.returns-in-Merge-clause-step
returns-in-Merge-clause-step t c = λ tab. let s = state_in tab c.args.classes.now.parents.items c.args.classes.now.sets.items in
    by_pair c.args.arena.now.entries.items (length c.args.classes.now.parents.items) c.args.a c.args.b c.form.result c.form-2.result c.compared.result s c.requires.built c.requires.a c.requires.b c.form.ensures c.form-2.ensures c.compared.ensures
    ∙ ap (λ p. pair_step (cell c.args.arena.now.entries.items) p s) c.in-Merge.is ∙ c.merge.ensures.step tab

pub returns-in-Below-clause-step : goal.returns-in-Below-clause-step
returns-in-Below-clause-step t c = λ tab. let s = state_in tab c.args.classes.now.parents.items c.args.classes.now.sets.items in
    by_pair c.args.arena.now.entries.items (length c.args.classes.now.parents.items) c.args.a c.args.b c.form.result c.form-2.result c.compared.result s c.requires.built c.requires.a c.requires.b c.form.ensures c.form-2.ensures c.compared.ensures
    ∙ ap (λ p. pair_step (cell c.args.arena.now.entries.items) p s) c.in-Below.is ∙ c.unify.ensures.step tab

pub returns-then-unify-clause-step : goal.returns-then-unify-clause-step
returns-then-unify-clause-step t c = λ tab. let s = state_in tab c.args.classes.now.parents.items c.args.classes.now.sets.items in
    let rest : State → Step = λ st. unify_cells (cell c.args.arena.now.entries.items c.in-Both.k) (cell c.args.arena.now.entries.items c.in-Both.l) st in
    let first = unify_cells (cell c.args.arena.now.entries.items c.in-Both.i) (cell c.args.arena.now.entries.items c.in-Both.j) s in
    let after = state_in tab c.unify-in-Both.new.classes.parents.items c.unify-in-Both.new.classes.sets.items in
    by_pair c.args.arena.now.entries.items (length c.args.classes.now.parents.items) c.args.a c.args.b c.form.result c.form-2.result c.compared.result s c.requires.built c.requires.a c.requires.b c.form.ensures c.form-2.ensures c.compared.ensures
    ∙ ap (λ p. pair_step (cell c.args.arena.now.entries.items) p s) c.in-Both.is ∙ so_true first c.unify-in-Both.result after rest (c.unify-in-Both.ensures.step tab) c.if-unify.true ∙ c.unify-then-unify.ensures.step tab

pub returns-else-unify-clause-step : goal.returns-else-unify-clause-step
returns-else-unify-clause-step t c = λ tab. let s = state_in tab c.args.classes.now.parents.items c.args.classes.now.sets.items in
    let rest : State → Step = λ st. unify_cells (cell c.args.arena.now.entries.items c.in-Both.k) (cell c.args.arena.now.entries.items c.in-Both.l) st in
    let first = unify_cells (cell c.args.arena.now.entries.items c.in-Both.i) (cell c.args.arena.now.entries.items c.in-Both.j) s in
    let after = state_in tab c.unify-in-Both.new.classes.parents.items c.unify-in-Both.new.classes.sets.items in
    by_pair c.args.arena.now.entries.items (length c.args.classes.now.parents.items) c.args.a c.args.b c.form.result c.form-2.result c.compared.result s c.requires.built c.requires.a c.requires.b c.form.ensures c.form-2.ensures c.compared.ensures
    ∙ ap (λ p. pair_step (cell c.args.arena.now.entries.items) p s) c.in-Both.is ∙ so_false first c.unify-in-Both.result after after rest (c.unify-in-Both.ensures.step tab) c.if-unify.false
