use Rattle.std.proofs.Common.{List, Ok, Err, length, drop, get_or, ap, sym, subst, arith}
use Rattle.std.proofs.lemmas.List.{length-drop}
use Rattle.rx_region_outlives.specs.Implied.{pairs_of}
use Rattle.rx_typeck_typed.specs.declared.typed.TypedFn.{TypedFn}
use Rattle.rx_facts.specs.declared.lowering.Lowered.{Lowered}
use Rattle.rx_facts.specs.declared.finding.FunctionFacts.{FunctionFacts}
use Rattle.rx_facts.specs.Answers.{IsGraphOf}
use Rattle.rx_facts.proofs.Passing.{as_long, each_at}
use Rattle.rx_check.proofs.Telling.{IsLived}
use Rattle.rx_cert_lines.specs.declared.line.Line.{Line}
use Rattle.rx_cert_tables.specs.Fitting.{AllFit}
use Rattle.rx_cert.specs.Shapes.{shape_of}
use Rattle.rx_cert.specs.Parts.{KeepsOne}
use Rattle.rx_cert.proofs.Places.{fit_within, begin_keeping, fits_here, keeps_next, all_keep}
use Rattle.rx_cert.proofs.Shaping.{rule_of}
use Rattle.rx_cert.proofs.rules.keeps_each.Goals as goal

pub loop-i-init : goal.loop-i-init
loop-i-init c = begin_keeping c.args.decls.now.items (pairs_of c.args.implied.now.items) c.args.functions.now c.args.lines.now c.requires.fit

pub bounds-graphs-i : goal.bounds-graphs-i
bounds-graphs-i c = omega (arith, c.loop-i-test.true, as_long (IsGraphOf c.args.decls.now.items) c.args.functions.now c.args.graphs.now c.requires.graphs)

pub bounds-facts-i : goal.bounds-facts-i
bounds-facts-i c = omega (arith, c.loop-i-test.true, as_long IsLived c.args.functions.now c.args.facts.now c.requires.live)

pub keeps_one-requires-clause-graph : goal.keeps_one-requires-clause-graph
keeps_one-requires-clause-graph c =
    subst (λ (f : TypedFn). IsGraphOf c.args.decls.now.items f c.index-graphs-i.result) (sym c.index-functions-i.is)
    (subst (λ (g : Lowered). IsGraphOf c.args.decls.now.items (get_or c.args.functions.now c.loop-i.i c.index-functions-i.result) g) (sym c.index-graphs-i.is)
    (each_at (IsGraphOf c.args.decls.now.items) c.args.functions.now c.args.graphs.now c.requires.graphs c.loop-i.i c.index-functions-i.result c.index-graphs-i.result c.loop-i-test.true))

pub keeps_one-requires-clause-live : goal.keeps_one-requires-clause-live
keeps_one-requires-clause-live c =
    subst (λ (f : TypedFn). IsLived f c.index-facts-i.result) (sym c.index-functions-i.is)
    (subst (λ (x : FunctionFacts). IsLived (get_or c.args.functions.now c.loop-i.i c.index-functions-i.result) x) (sym c.index-facts-i.is)
    (each_at IsLived c.args.functions.now c.args.facts.now c.requires.live c.loop-i.i c.index-functions-i.result c.index-facts-i.result c.loop-i-test.true))

pub keeps_one-requires-clause-fit : goal.keeps_one-requires-clause-fit
keeps_one-requires-clause-fit c =
    let D = c.args.decls.now.items in let P = pairs_of c.args.implied.now.items in
    subst (λ (l : List Line). AllFit (shape_of D c.index-functions-i.result) l) (sym c.from.ensures)
    (fits_here D P c.args.functions.now c.args.lines.now c.loop-i.i c.loop-i.at c.index-functions-i.result c.loop-i-test.true c.index-functions-i.is c.loop-i.invariant)

pub from-requires : goal.from-requires
from-requires c = c.loop-i.invariant.within

pub keeps_one-requires-clause-few : goal.keeps_one-requires-clause-few
keeps_one-requires-clause-few c = omega (arith, c.requires.few, ap (λ (l : List Line). length l) c.from.ensures, length-drop c.loop-i.at c.args.lines.now)

pub overflow_add-at : goal.overflow_add-at
overflow_add-at c =
    let D = c.args.decls.now.items in let P = pairs_of c.args.implied.now.items in let f = c.index-functions-i.result in let ls = c.args.lines.now in
    let h = subst (λ (l : List Line). KeepsOne D P f l (Ok c.in-Ok.count)) c.from.ensures c.in-Ok.ensures in
    let fit = fits_here D P c.args.functions.now ls c.loop-i.i c.loop-i.at f c.loop-i-test.true c.index-functions-i.is c.loop-i.invariant in
    let w = fit_within (shape_of D f) (drop c.loop-i.at ls) fit in
    omega (arith, w, h.0, length-drop c.loop-i.at ls, c.loop-i.invariant.within, c.requires.few)

pub returns-in-Err : goal.returns-in-Err
returns-in-Err c =
    let D = c.args.decls.now.items in let P = pairs_of c.args.implied.now.items in
    rule_of D P c.args.functions.now c.args.lines.now c.loop-i.i c.loop-i.at c.index-functions-i.result c.in-Err.fault c.loop-i-test.true c.index-functions-i.is c.loop-i.invariant
    (subst (λ (l : List Line). KeepsOne D P c.index-functions-i.result l (Err c.in-Err.fault)) c.from.ensures c.in-Err.ensures)

pub loop-i-preserved : goal.loop-i-preserved
loop-i-preserved c =
    let D = c.args.decls.now.items in let P = pairs_of c.args.implied.now.items in
    let h = subst (λ (l : List Line). KeepsOne D P c.index-functions-i.result l (Ok c.in-Ok.count)) c.from.ensures c.in-Ok.ensures in
    keeps_next D P c.args.functions.now c.args.lines.now c.loop-i.i c.loop-i.at c.in-Ok.count c.index-functions-i.result c.loop-i-test.true c.index-functions-i.is
    h.0 h.1 c.loop-i.invariant

pub returns : goal.returns
returns c = all_keep c.args.decls.now.items (pairs_of c.args.implied.now.items) c.args.functions.now c.args.lines.now c.loop-i.i c.loop-i.at c.loop-i-test.false c.loop-i.invariant
