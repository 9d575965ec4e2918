use Rattle.std.proofs.Common.{get_or, sym, subst, arith}
use Rattle.rx_typed.specs.PlainTypes.{declarations}
use Rattle.rx_typeck_typed.specs.declared.typed.TypedFn.{TypedFn}
use Rattle.rx_typed_declarations.specs.Sizes.{told}
use Rattle.rx_facts.specs.declared.lowering.Lowered.{Lowered}
use Rattle.rx_facts.specs.Functions.{IsInitialised, IsUninitialised}
use Rattle.rx_facts.specs.Answers.{IsGraphOf, AreFactsOf}
use Rattle.rx_facts.proofs.Passing.{as_long, each_at, next_done, next_refused, end_done}
use Rattle.rx_facts.proofs.Telling.{init_err}
use Rattle.rx_facts.proofs.finding.each.Goals as goal

pub bounds-graphs-i : goal.bounds-graphs-i
bounds-graphs-i c = omega (arith, c.loop-i-test.true, as_long (IsGraphOf c.args.decls.now.items) c.args.functions.now c.args.graphs.now c.requires.graphs)

pub with_next-requires-clause-lowered : goal.with_next-requires-clause-lowered
with_next-requires-clause-lowered c =
    subst (λ (f : TypedFn). IsGraphOf c.args.decls.now.items f c.index-graphs-i.result) (sym c.index-functions-i.is)
    (subst (λ (g : Lowered). IsGraphOf c.args.decls.now.items (get_or c.args.functions.now c.loop-i.i c.index-functions-i.result) g) (sym c.index-graphs-i.is)
    (each_at (IsGraphOf c.args.decls.now.items) c.args.functions.now c.args.graphs.now c.requires.graphs c.loop-i.i c.index-functions-i.result c.index-graphs-i.result c.loop-i-test.true))

pub returns-in-Err : goal.returns-in-Err
returns-in-Err c = let D = declarations c.args.decls.now.items in let P = told c.args.sizes.now in
    init_err D P c.args.functions.now c.in-Err.fault
    (next_refused (AreFactsOf D P) (IsInitialised D P) (IsUninitialised D P) c.args.functions.now c.loop-i.i c.loop-i.all
    c.index-functions-i.result c.in-Err.fault c.loop-i-test.true c.index-functions-i.is c.in-Err.ensures.refused c.loop-i.invariant)

pub loop-i-preserved : goal.loop-i-preserved
loop-i-preserved c = let D = declarations c.args.decls.now.items in let P = told c.args.sizes.now in
    next_done (AreFactsOf D P) (IsInitialised D P) (IsUninitialised D P) c.args.functions.now c.loop-i.i c.loop-i.all
    c.in-Ok.more c.index-functions-i.result c.loop-i-test.true c.index-functions-i.is c.in-Ok.ensures.more (λ x h. h.initialised) c.loop-i.invariant

pub returns : goal.returns
returns c = let D = declarations c.args.decls.now.items in let P = told c.args.sizes.now in
    end_done (AreFactsOf D P) (IsInitialised D P) (IsUninitialised D P) c.args.functions.now c.loop-i.i c.loop-i.all c.loop-i-test.false c.loop-i.invariant
