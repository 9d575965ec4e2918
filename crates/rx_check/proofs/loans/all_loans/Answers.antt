use Rattle.std.proofs.Common.{◌≡◌, ◌<◌, ◌≤◌, List, length, get_or, subst, arith}
use Rattle.rx_typeck_typed.specs.declared.typed.TypedFn.{TypedFn}
use Rattle.rx_facts.specs.Answers.{IsGraphOf}
use Rattle.rx_facts.proofs.Passing.{as_long, next_done, next_refused, end_done}
use Rattle.rx_check.specs.Functions.{AreRegionsOf, Borrows, MeetsLoan, AreLoansOf}
use Rattle.rx_check.proofs.Telling.{few_sites, here, loan_err}
use Rattle.rx_check.proofs.loans.all_loans.Goals as goal

pub bounds-graphs-i : goal.bounds-graphs-i
bounds-graphs-i c = let t = c.args.typed.now in
    omega (arith, subst (λ (l : List TypedFn). c.loop-i.i < length l) c.as_slice-functions.ensures c.loop-i-test.true, as_long (IsGraphOf t.decls.items) t.functions c.args.graphs.now c.requires.graphs)

pub bounds-regions-i : goal.bounds-regions-i
bounds-regions-i c = let t = c.args.typed.now in
    omega (
      arith,
      subst (λ (l : List TypedFn). c.loop-i.i < length l) c.as_slice-functions.ensures c.loop-i-test.true,
      as_long (AreRegionsOf t.decls.items c.requires.regions.implied) t.functions c.args.regions.now c.requires.regions.each,
    )

pub with_next-requires : goal.with_next-requires
with_next-requires c = let t = c.args.typed.now in
    few_sites t.decls.items c.index-functions-i.result c.index-graphs-i.result
    (here (IsGraphOf t.decls.items) t.functions c.as_slice-functions.result.now c.args.graphs.now c.loop-i.i c.index-functions-i.result c.index-graphs-i.result
    c.as_slice-functions.ensures c.requires.graphs c.loop-i-test.true c.index-functions-i.is c.index-graphs-i.is)

pub returns-in-Err : goal.returns-in-Err
returns-in-Err c = let t = c.args.typed.now in let D = t.decls.items in let P = c.requires.regions.implied in
    let less = subst (λ (l : List TypedFn). c.loop-i.i < length l) c.as_slice-functions.ensures c.loop-i-test.true in
    let is = subst (λ (l : List TypedFn). c.index-functions-i.result ≡ get_or l c.loop-i.i c.index-functions-i.result) c.as_slice-functions.ensures c.index-functions-i.is in
    loan_err t P c.requires.regions.asked c.in-Err.fault
    (next_refused (AreLoansOf D P) (Borrows D P) (MeetsLoan D P) t.functions c.loop-i.i c.loop-i.all c.index-functions-i.result c.in-Err.fault less is
    (c.in-Err.ensures.refused D P
    (here (IsGraphOf D) t.functions c.as_slice-functions.result.now c.args.graphs.now c.loop-i.i c.index-functions-i.result c.index-graphs-i.result
    c.as_slice-functions.ensures c.requires.graphs c.loop-i-test.true c.index-functions-i.is c.index-graphs-i.is)
    (here (AreRegionsOf D P) t.functions c.as_slice-functions.result.now c.args.regions.now c.loop-i.i c.index-functions-i.result c.index-regions-i.result
    c.as_slice-functions.ensures c.requires.regions.each c.loop-i-test.true c.index-functions-i.is c.index-regions-i.is))
    (c.loop-i.invariant P c.requires.regions.each))

pub loop-i-preserved : goal.loop-i-preserved
loop-i-preserved c P regions = let t = c.args.typed.now in let D = t.decls.items in
    let less = subst (λ (l : List TypedFn). c.loop-i.i < length l) c.as_slice-functions.ensures c.loop-i-test.true in
    let is = subst (λ (l : List TypedFn). c.index-functions-i.result ≡ get_or l c.loop-i.i c.index-functions-i.result) c.as_slice-functions.ensures c.index-functions-i.is in
    let new = c.in-Ok.ensures.more in
    next_done (AreLoansOf D P) (Borrows D P) (MeetsLoan D P) t.functions c.loop-i.i c.loop-i.all c.in-Ok.more c.index-functions-i.result less is (
      new.0,
      new.1,
      new.2 D P
          (here (IsGraphOf D) t.functions c.as_slice-functions.result.now c.args.graphs.now c.loop-i.i c.index-functions-i.result c.index-graphs-i.result
          c.as_slice-functions.ensures c.requires.graphs c.loop-i-test.true c.index-functions-i.is c.index-graphs-i.is)
          (here (AreRegionsOf D P) t.functions c.as_slice-functions.result.now c.args.regions.now c.loop-i.i c.index-functions-i.result c.index-regions-i.result
          c.as_slice-functions.ensures regions c.loop-i-test.true c.index-functions-i.is c.index-regions-i.is),
    )
    (λ x h. h.accepted) (c.loop-i.invariant P regions)

pub returns : goal.returns
returns c = let t = c.args.typed.now in let D = t.decls.items in let P = c.requires.regions.implied in
    record {
      implied = P;
      asked = c.requires.regions.asked;
      each = end_done (AreLoansOf D P) (Borrows D P) (MeetsLoan D P) t.functions c.loop-i.i c.loop-i.all
          (subst (λ (l : List TypedFn). length l ≤ c.loop-i.i) c.as_slice-functions.ensures c.loop-i-test.false) (c.loop-i.invariant P c.requires.regions.each);
    }
