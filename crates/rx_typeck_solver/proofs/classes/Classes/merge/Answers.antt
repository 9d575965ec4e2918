use Rattle.std.proofs.Common.{arith, sym, ◌∙◌}
use Rattle.rx_typeck_solver.proofs.ClassSteps.{both_found, merged, merged_classed}
use Rattle.rx_typeck_solver.proofs.classes.Classes.merge.Goals as goal

pub index-requires : goal.index-requires
index-requires c = let f = both_found c.args.self.now.parents.items c.find-one.new.parents.items c.find-other.new.parents.items c.args.first c.args.second c.find-one.result c.find-other.result c.min-low.result c.max-high.result c.requires.classed.falling c.requires.first c.requires.second c.find-one.ensures.rep c.find-one.ensures.same c.find-one.ensures.as_long c.find-other.ensures.rep c.find-other.ensures.same c.find-other.ensures.falling c.find-other.ensures.as_long c.min-low.ensures c.max-high.ensures in let h = f.low_in in let l = c.requires.classed.as_many in omega (arith, h, l)

pub index-requires-2 : goal.index-requires-2
index-requires-2 c = let f = both_found c.args.self.now.parents.items c.find-one.new.parents.items c.find-other.new.parents.items c.args.first c.args.second c.find-one.result c.find-other.result c.min-low.result c.max-high.result c.requires.classed.falling c.requires.first c.requires.second c.find-one.ensures.rep c.find-one.ensures.same c.find-one.ensures.as_long c.find-other.ensures.rep c.find-other.ensures.same c.find-other.ensures.falling c.find-other.ensures.as_long c.min-low.ensures c.max-high.ensures in let h = f.high_in in let l = c.requires.classed.as_many in omega (arith, h, l)

pub index_mut-requires : goal.index_mut-requires
index_mut-requires c = let f = both_found c.args.self.now.parents.items c.find-one.new.parents.items c.find-other.new.parents.items c.args.first c.args.second c.find-one.result c.find-other.result c.min-low.result c.max-high.result c.requires.classed.falling c.requires.first c.requires.second c.find-one.ensures.rep c.find-one.ensures.same c.find-one.ensures.as_long c.find-other.ensures.rep c.find-other.ensures.same c.find-other.ensures.falling c.find-other.ensures.as_long c.min-low.ensures c.max-high.ensures in let h = f.high_in in let l = f.as_long in omega (arith, h, l)

pub index_mut-requires-then-some_kind : goal.index_mut-requires-then-some_kind
index_mut-requires-then-some_kind c = let f = both_found c.args.self.now.parents.items c.find-one.new.parents.items c.find-other.new.parents.items c.args.first c.args.second c.find-one.result c.find-other.result c.min-low.result c.max-high.result c.requires.classed.falling c.requires.first c.requires.second c.find-one.ensures.rep c.find-one.ensures.same c.find-one.ensures.as_long c.find-other.ensures.rep c.find-other.ensures.same c.find-other.ensures.falling c.find-other.ensures.as_long c.min-low.ensures c.max-high.ensures in let h = f.low_in in let l = c.requires.classed.as_many in omega (arith, h, l)

pub returns-then-some_kind-clause-step : goal.returns-then-some_kind-clause-step
returns-then-some_kind-clause-step c = λ tab. merged tab c.args.self.now.parents.items c.find-other.new.parents.items c.args.self.now.sets.items c.args.first c.args.second c.min-low.result c.max-high.result c.index.result.now c.index-2.result.now c.meet-both.result _ c.requires.classed (both_found c.args.self.now.parents.items c.find-one.new.parents.items c.find-other.new.parents.items c.args.first c.args.second c.find-one.result c.find-other.result c.min-low.result c.max-high.result c.requires.classed.falling c.requires.first c.requires.second c.find-one.ensures.rep c.find-one.ensures.same c.find-one.ensures.as_long c.find-other.ensures.rep c.find-other.ensures.same c.find-other.ensures.falling c.find-other.ensures.as_long c.min-low.ensures c.max-high.ensures) c.index.ensures c.index-2.ensures c.meet-both.ensures (sym c.if-some_kind.true ∙ c.some_kind.ensures)

pub returns-then-some_kind-clause-classed : goal.returns-then-some_kind-clause-classed
returns-then-some_kind-clause-classed c = (merged_classed c.args.self.now.parents.items c.find-other.new.parents.items c.args.self.now.sets.items c.args.first c.args.second c.min-low.result c.max-high.result c.meet-both.result c.requires.classed (both_found c.args.self.now.parents.items c.find-one.new.parents.items c.find-other.new.parents.items c.args.first c.args.second c.find-one.result c.find-other.result c.min-low.result c.max-high.result c.requires.classed.falling c.requires.first c.requires.second c.find-one.ensures.rep c.find-one.ensures.same c.find-one.ensures.as_long c.find-other.ensures.rep c.find-other.ensures.same c.find-other.ensures.falling c.find-other.ensures.as_long c.min-low.ensures c.max-high.ensures) (sym c.some_kind.ensures ∙ c.if-some_kind.true)).0

pub returns-else-some_kind-clause-step : goal.returns-else-some_kind-clause-step
returns-else-some_kind-clause-step c = λ tab. merged tab c.args.self.now.parents.items c.find-other.new.parents.items c.args.self.now.sets.items c.args.first c.args.second c.min-low.result c.max-high.result c.index.result.now c.index-2.result.now c.meet-both.result _ c.requires.classed (both_found c.args.self.now.parents.items c.find-one.new.parents.items c.find-other.new.parents.items c.args.first c.args.second c.find-one.result c.find-other.result c.min-low.result c.max-high.result c.requires.classed.falling c.requires.first c.requires.second c.find-one.ensures.rep c.find-one.ensures.same c.find-one.ensures.as_long c.find-other.ensures.rep c.find-other.ensures.same c.find-other.ensures.falling c.find-other.ensures.as_long c.min-low.ensures c.max-high.ensures) c.index.ensures c.index-2.ensures c.meet-both.ensures (sym c.if-some_kind.false ∙ c.some_kind.ensures)
