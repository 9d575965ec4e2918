use Rattle.std.proofs.Common.{List, sym, subst}
use Rattle.rx_region_outlives.specs.Implied.{pairs_of}
use Rattle.rx_typeck_typed.specs.declared.typed.TypedFn.{TypedFn}
use Rattle.rx_facts.specs.declared.finding.FunctionFacts.{FunctionFacts}
use Rattle.rx_facts.specs.Passing.{Each}
use Rattle.rx_check.proofs.Telling.{IsLived}
use Rattle.rx_cert.specs.Parts.{KeepsEach}
use Rattle.rx_cert.proofs.Shaping.{all_live}
use Rattle.rx_cert.proofs.Answering.{keeps_by}
use Rattle.rx_cert.proofs.rules.keep_rules.Goals as goal

pub keeps_each-requires-clause-live : goal.keeps_each-requires-clause-live
keeps_each-requires-clause-live c = let t = c.args.typed.now in let x = c.args.facts.now in
    subst (λ (l : List TypedFn). Each IsLived l c.as_slice-in-Ok.result.now) (sym c.as_slice.ensures)
    (subst (λ (l : List FunctionFacts). Each IsLived t.functions l) (sym c.as_slice-in-Ok.ensures) (all_live t x.sizes x.functions c.requires.facts.each))

pub returns-in-Ok : goal.returns-in-Ok
returns-in-Ok c = let t = c.args.typed.now in
    keeps_by t (pairs_of c.in-Ok.implied.items) c.args.lines.now c.in-Ok.ensures.each c.keeps_each.result
    (subst (λ (l : List TypedFn). KeepsEach t.decls.items (pairs_of c.in-Ok.implied.items) l c.args.lines.now c.keeps_each.result) c.as_slice.ensures c.keeps_each.ensures)
