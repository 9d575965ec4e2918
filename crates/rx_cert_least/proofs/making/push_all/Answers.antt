use Rattle.std.proofs.Common.{get_or, sym, subst, arith}
use Rattle.rx_region_outlives.specs.Implied.{pairs_of}
use Rattle.rx_typeck_typed.specs.declared.typed.TypedFn.{TypedFn}
use Rattle.rx_facts.specs.declared.finding.FunctionFacts.{FunctionFacts}
use Rattle.rx_facts.specs.Answers.{IsGraphOf}
use Rattle.rx_facts.proofs.Passing.{as_long, each_at}
use Rattle.rx_check.proofs.Telling.{IsLived}
use Rattle.rx_cert.proofs.Shaping.{graph_at}
use Rattle.rx_cert_least.proofs.Adding.{begin, added_next, all_added}
use Rattle.rx_cert_least.proofs.making.push_all.Goals as goal

pub loop-i-init : goal.loop-i-init
loop-i-init c = begin c.args.decls.now.items (pairs_of c.args.implied.now.items) c.args.functions.now c.args.text.now

pub bounds-graphs-i : goal.bounds-graphs-i
bounds-graphs-i c = omega (arith, c.loop-i-test.true, as_long (IsGraphOf c.args.decls.now.items) c.args.functions.now c.args.graphs.now c.requires.graphs)

pub bounds-facts-i : goal.bounds-facts-i
bounds-facts-i c = omega (arith, c.loop-i-test.true, as_long IsLived c.args.functions.now c.args.facts.now c.requires.live)

pub push_one-requires-clause-graph : goal.push_one-requires-clause-graph
push_one-requires-clause-graph c = graph_at c.args.decls.now.items c.args.functions.now c.args.graphs.now c.requires.graphs c.loop-i.i c.index-functions-i.result
    c.index-graphs-i.result c.loop-i-test.true c.index-functions-i.is c.index-graphs-i.is

pub push_one-requires-clause-live : goal.push_one-requires-clause-live
push_one-requires-clause-live c =
    subst (λ (f : TypedFn). IsLived f c.index-facts-i.result) (sym c.index-functions-i.is)
    (subst (λ (x : FunctionFacts). IsLived (get_or c.args.functions.now c.loop-i.i c.index-functions-i.result) x) (sym c.index-facts-i.is)
    (each_at IsLived c.args.functions.now c.args.facts.now c.requires.live c.loop-i.i c.index-functions-i.result c.index-facts-i.result c.loop-i-test.true))

pub loop-i-preserved : goal.loop-i-preserved
loop-i-preserved c = added_next c.args.decls.now.items (pairs_of c.args.implied.now.items) c.args.functions.now c.args.text.now c.loop-i.text c.push_one.new.text c.loop-i.i
    c.index-functions-i.result c.loop-i-test.true c.index-functions-i.is c.in_ok-push_one.ensures c.loop-i.invariant

pub returns : goal.returns
returns c = all_added c.args.decls.now.items (pairs_of c.args.implied.now.items) c.args.functions.now c.args.text.now c.loop-i.text c.loop-i.i c.loop-i-test.false c.loop-i.invariant
