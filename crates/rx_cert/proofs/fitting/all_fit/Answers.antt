use Rattle.std.proofs.Common.{◌≡◌, ◌<◌, ◌≤◌, List, length, drop, get_or, subst, arith, refl, ◌∙◌}
use Rattle.rx_typeck_typed.specs.declared.typed.TypedFn.{TypedFn}
use Rattle.rx_facts.specs.Answers.{IsGraphOf}
use Rattle.rx_facts.proofs.Passing.{as_long}
use Rattle.std.proofs.lemmas.List.{length-drop}
use Rattle.rx_cert.specs.Shapes.{shape_of}
use Rattle.rx_cert.proofs.Places.{fit_within, begin, fits_next, too_many, all_fit}
use Rattle.rx_cert.proofs.Shaping.{graph_at, few_sites, fault_of}
use Rattle.rx_cert.proofs.fitting.all_fit.Goals as goal

pub loop-i-init : goal.loop-i-init
loop-i-init c = begin c.args.typed.now.decls.items c.args.typed.now.functions c.args.lines.now

pub bounds-graphs-i : goal.bounds-graphs-i
bounds-graphs-i c =
    let within = subst (λ (l : List TypedFn). c.loop-i.i < length l) c.as_slice-functions.ensures c.loop-i-test.true in
    omega (arith, within, as_long (IsGraphOf c.args.typed.now.decls.items) c.args.typed.now.functions c.args.graphs.now c.requires.graphs)

pub fit_one-requires-clause-at : goal.fit_one-requires-clause-at
fit_one-requires-clause-at c = c.loop-i.invariant.within

pub fit_one-requires-clause-sites : goal.fit_one-requires-clause-sites
fit_one-requires-clause-sites c =
    let D = c.args.typed.now.decls.items in let fs = c.args.typed.now.functions in let ls = c.args.lines.now in
    let f = c.index-functions-i.result in let i = c.loop-i.i in let at = c.loop-i.at in
    let within = subst (λ (l : List TypedFn). i < length l) c.as_slice-functions.ensures c.loop-i-test.true in
    let is = subst (λ (l : List TypedFn). f ≡ get_or l i f) c.as_slice-functions.ensures c.index-functions-i.is in
    few_sites D f c.index-graphs-i.result (graph_at D fs c.args.graphs.now c.requires.graphs i f c.index-graphs-i.result within is c.index-graphs-i.is)

pub overflow_add-at : goal.overflow_add-at
overflow_add-at c =
    let D = c.args.typed.now.decls.items in let fs = c.args.typed.now.functions in let ls = c.args.lines.now in
    let f = c.index-functions-i.result in let i = c.loop-i.i in let at = c.loop-i.at in
    let within = subst (λ (l : List TypedFn). i < length l) c.as_slice-functions.ensures c.loop-i-test.true in
    let is = subst (λ (l : List TypedFn). f ≡ get_or l i f) c.as_slice-functions.ensures c.index-functions-i.is in
    let graph = graph_at D fs c.args.graphs.now c.requires.graphs i f c.index-graphs-i.result within is c.index-graphs-i.is in
    let h = c.in-Ok.ensures D graph in
    let w = fit_within (shape_of D f) (drop at ls) h.1 in
    omega (arith, w, h.0, length-drop at ls, c.loop-i.invariant.within, c.requires.few)

pub returns-in-Err : goal.returns-in-Err
returns-in-Err c =
    let D = c.args.typed.now.decls.items in let fs = c.args.typed.now.functions in let ls = c.args.lines.now in
    let f = c.index-functions-i.result in let i = c.loop-i.i in let at = c.loop-i.at in
    let within = subst (λ (l : List TypedFn). i < length l) c.as_slice-functions.ensures c.loop-i-test.true in
    let is = subst (λ (l : List TypedFn). f ≡ get_or l i f) c.as_slice-functions.ensures c.index-functions-i.is in
    let graph = graph_at D fs c.args.graphs.now c.requires.graphs i f c.index-graphs-i.result within is c.index-graphs-i.is in
    fault_of D fs ls i at f c.in-Err.fault c.args.typed.now refl refl within is c.loop-i.invariant (c.in-Err.ensures D graph)

pub loop-i-preserved : goal.loop-i-preserved
loop-i-preserved c =
    let D = c.args.typed.now.decls.items in let fs = c.args.typed.now.functions in let ls = c.args.lines.now in
    let f = c.index-functions-i.result in let i = c.loop-i.i in let at = c.loop-i.at in
    let within = subst (λ (l : List TypedFn). i < length l) c.as_slice-functions.ensures c.loop-i-test.true in
    let is = subst (λ (l : List TypedFn). f ≡ get_or l i f) c.as_slice-functions.ensures c.index-functions-i.is in
    let graph = graph_at D fs c.args.graphs.now c.requires.graphs i f c.index-graphs-i.result within is c.index-graphs-i.is in
    let h = c.in-Ok.ensures D graph in
    fits_next D fs ls i at c.in-Ok.count f within is h.0 h.1 c.loop-i.invariant

pub returns-then-at-lines : goal.returns-then-at-lines
returns-then-at-lines c =
    let past = subst (λ (l : List TypedFn). length l ≤ c.loop-i.i) c.as_slice-functions.ensures c.loop-i-test.false in (
      c.loop-i.at,
      too_many c.args.typed.now.decls.items c.args.typed.now.functions c.args.lines.now c.loop-i.i c.loop-i.at past c.if-at-lines.true c.loop-i.invariant,
      c.number_of.ensures ∙ omega arith,
    )

pub returns : goal.returns
returns c =
    let past = subst (λ (l : List TypedFn). length l ≤ c.loop-i.i) c.as_slice-functions.ensures c.loop-i-test.false in
    all_fit c.args.typed.now.decls.items c.args.typed.now.functions c.args.lines.now c.loop-i.i c.loop-i.at past c.if-at-lines.false c.loop-i.invariant
