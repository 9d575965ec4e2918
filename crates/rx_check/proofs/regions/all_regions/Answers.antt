use Rattle.std.proofs.Common.{List, sym, subst}
use Rattle.rx_typed.specs.PlainTypes.{declarations}
use Rattle.rx_typed_declarations.specs.Sizes.{told}
use Rattle.rx_region_outlives.specs.Implied.{pairs_of}
use Rattle.rx_typeck_typed.specs.declared.typed.TypedFn.{TypedFn}
use Rattle.rx_facts.specs.declared.finding.FunctionFacts.{FunctionFacts}
use Rattle.rx_facts.specs.Passing.{Each}
use Rattle.rx_facts.specs.Answers.{AreFactsOf}
use Rattle.rx_check.specs.Answers.{EachRegions}
use Rattle.rx_check.proofs.Telling.{IsLived, each_mapped, regions_by}
use Rattle.rx_check.proofs.regions.all_regions.Goals as goal

pub each-requires-clause-live : goal.each-requires-clause-live
each-requires-clause-live c = let t = c.args.typed.now in let x = c.args.facts.now in
    subst (λ (l : List TypedFn). Each IsLived l c.as_slice-in-Ok.result.now) (sym c.as_slice.ensures)
    (subst (λ (l : List FunctionFacts). Each IsLived t.functions l) (sym c.as_slice-in-Ok.ensures)
    (each_mapped (AreFactsOf (declarations t.decls.items) (told x.sizes)) IsLived (λ f y h. h.live) t.functions x.functions c.requires.facts.each))

pub returns-in-Ok : goal.returns-in-Ok
returns-in-Ok c = let t = c.args.typed.now in
    regions_by t (pairs_of c.in-Ok.implied.items) c.in-Ok.ensures.each c.each.result
    (subst (λ (l : List TypedFn). EachRegions t.decls.items (pairs_of c.in-Ok.implied.items) l c.each.result) c.as_slice.ensures c.each.ensures)
