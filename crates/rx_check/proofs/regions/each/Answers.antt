use Rattle.std.proofs.Common.{get_or, sym, subst, arith}
use Rattle.rx_region_outlives.specs.Implied.{pairs_of}
use Rattle.rx_typeck_typed.specs.declared.typed.TypedFn.{TypedFn}
use Rattle.rx_facts.specs.declared.lowering.Lowered.{Lowered}
use Rattle.rx_facts.specs.declared.finding.FunctionFacts.{FunctionFacts}
use Rattle.rx_facts.specs.Answers.{IsGraphOf}
use Rattle.rx_facts.proofs.Passing.{as_long, each_at, next_done, next_refused, end_done}
use Rattle.rx_check.specs.Functions.{LacksNone, LacksPair, AreRegionsOf}
use Rattle.rx_check.proofs.Telling.{region_err, regions_lack_none, IsLived}
use Rattle.rx_check.proofs.regions.each.Goals as goal

pub bounds-graphs-i : goal.bounds-graphs-i
bounds-graphs-i c = omega (arith, c.loop-i-test.true, as_long (IsGraphOf c.args.decls.now.items) c.args.functions.now c.args.graphs.now c.requires.graphs)

pub bounds-facts-i : goal.bounds-facts-i
bounds-facts-i c = omega (arith, c.loop-i-test.true, as_long IsLived c.args.functions.now c.args.facts.now c.requires.live)

pub with_next-requires-clause-graph : goal.with_next-requires-clause-graph
with_next-requires-clause-graph c =
    subst (λ (f : TypedFn). IsGraphOf c.args.decls.now.items f c.index-graphs-i.result) (sym c.index-functions-i.is)
    (subst (λ (g : Lowered). IsGraphOf c.args.decls.now.items (get_or c.args.functions.now c.loop-i.i c.index-functions-i.result) g) (sym c.index-graphs-i.is)
    (each_at (IsGraphOf c.args.decls.now.items) c.args.functions.now c.args.graphs.now c.requires.graphs c.loop-i.i c.index-functions-i.result c.index-graphs-i.result c.loop-i-test.true))

pub with_next-requires-clause-live : goal.with_next-requires-clause-live
with_next-requires-clause-live c =
    subst (λ (f : TypedFn). IsLived f c.index-facts-i.result) (sym c.index-functions-i.is)
    (subst (λ (x : FunctionFacts). IsLived (get_or c.args.functions.now c.loop-i.i c.index-functions-i.result) x) (sym c.index-facts-i.is)
    (each_at IsLived c.args.functions.now c.args.facts.now c.requires.live c.loop-i.i c.index-functions-i.result c.index-facts-i.result c.loop-i-test.true))

pub returns-in-Err : goal.returns-in-Err
returns-in-Err c = let D = c.args.decls.now.items in let P = pairs_of c.args.implied.now.items in
    region_err D P c.args.functions.now c.in-Err.fault
    (next_refused (AreRegionsOf D P) (LacksNone D P) (LacksPair D P) c.args.functions.now c.loop-i.i c.loop-i.all
    c.index-functions-i.result c.in-Err.fault c.loop-i-test.true c.index-functions-i.is c.in-Err.ensures.refused c.loop-i.invariant)

pub loop-i-preserved : goal.loop-i-preserved
loop-i-preserved c = let D = c.args.decls.now.items in let P = pairs_of c.args.implied.now.items in
    next_done (AreRegionsOf D P) (LacksNone D P) (LacksPair D P) c.args.functions.now c.loop-i.i c.loop-i.all
    c.in-Ok.more c.index-functions-i.result c.loop-i-test.true c.index-functions-i.is c.in-Ok.ensures.more
    (λ x h. regions_lack_none D P c.index-functions-i.result x h) c.loop-i.invariant

pub returns : goal.returns
returns c = let D = c.args.decls.now.items in let P = pairs_of c.args.implied.now.items in
    end_done (AreRegionsOf D P) (LacksNone D P) (LacksPair D P) c.args.functions.now c.loop-i.i c.loop-i.all c.loop-i-test.false c.loop-i.invariant
