use Rattle.std.proofs.Common.{arith, sym, ◌∙◌}
use Rattle.rx_typeck_solver.proofs.ClassSteps.{restricted, classed_set, rep_within}
use Rattle.rx_typeck_solver.proofs.classes.Classes.restrict.Goals as goal

pub index-requires : goal.index-requires
index-requires c = let p = rep_within c.args.self.now.parents.items c.args.self.now.sets.items c.args.node c.find-rep.result c.requires.classed c.requires.within c.find-rep.ensures.rep in omega (arith, p)

pub index_mut-requires : goal.index_mut-requires
index_mut-requires c = let p = rep_within c.args.self.now.parents.items c.args.self.now.sets.items c.args.node c.find-rep.result c.requires.classed c.requires.within c.find-rep.ensures.rep in omega (arith, p)

pub returns-then-some_kind-clause-step : goal.returns-then-some_kind-clause-step
returns-then-some_kind-clause-step c = λ tab. restricted tab c.args.self.now.parents.items c.find-rep.new.parents.items c.args.self.now.sets.items c.args.node c.find-rep.result c.args.kinds c.index.result.now c.meet-both.result _ c.requires.classed c.requires.within c.find-rep.ensures.rep c.find-rep.ensures.same c.index.ensures c.meet-both.ensures (sym c.if-some_kind.true ∙ c.some_kind.ensures)

pub returns-then-some_kind-clause-classed : goal.returns-then-some_kind-clause-classed
returns-then-some_kind-clause-classed c = classed_set c.args.self.now.parents.items c.find-rep.new.parents.items c.args.self.now.sets.items c.find-rep.result c.meet-both.result c.requires.classed c.find-rep.ensures.falling c.find-rep.ensures.as_long
    (rep_within c.args.self.now.parents.items c.args.self.now.sets.items c.args.node c.find-rep.result c.requires.classed c.requires.within c.find-rep.ensures.rep) (sym c.some_kind.ensures ∙ c.if-some_kind.true)

pub returns-else-some_kind-clause-step : goal.returns-else-some_kind-clause-step
returns-else-some_kind-clause-step c = λ tab. restricted tab c.args.self.now.parents.items c.find-rep.new.parents.items c.args.self.now.sets.items c.args.node c.find-rep.result c.args.kinds c.index.result.now c.meet-both.result _ c.requires.classed c.requires.within c.find-rep.ensures.rep c.find-rep.ensures.same c.index.ensures c.meet-both.ensures (sym c.if-some_kind.false ∙ c.some_kind.ensures)
