use Rattle.std.proofs.Common.{ap, ◌∙◌, subst}
use Rattle.rx_typed.specs.PlainTypes.{declarations}
use Rattle.rx_typed_declarations.specs.Sizes.{told}
use Rattle.rx_facts.specs.Answers.{AreFactsOf}
use Rattle.rx_check.specs.Front.{Front, IsFronted}
use Rattle.rx_check.proofs.ReaderLemmas.{within, reads, some_found}
use Rattle.rx_check.proofs.front_end.FrontEnd.live.Goals as goal

pub bounds-as_slice-place : goal.bounds-as_slice-place
bounds-as_slice-place c = let known : IsFronted c.args.self.now = subst IsFronted c.self.view_is c.self.invariant in
    within (AreFactsOf (declarations c.args.self.now.typed.decls.items) (told c.args.self.now.facts.sizes)) c.args.self.now.typed.functions c.as_slice.result.now c.args.self.now.facts.functions c.as_slice-2.result.now c.args.function c.place_of-place.result
    (c.as_slice.ensures ∙ ap (λ (x : Front). x.typed.functions) c.self.view_is) (c.as_slice-2.ensures ∙ ap (λ (x : Front). x.facts.functions) c.self.view_is) known.1.facts.each c.requires c.place_of-place.ensures

pub returns-clause-live : goal.returns-clause-live
returns-clause-live c f is = let known : IsFronted c.args.self.now = subst IsFronted c.self.view_is c.self.invariant in
    (reads (AreFactsOf (declarations c.args.self.now.typed.decls.items) (told c.args.self.now.facts.sizes)) c.args.self.now.typed.functions c.as_slice.result.now c.args.self.now.facts.functions c.as_slice-2.result.now c.args.function c.place_of-place.result
    (c.as_slice.ensures ∙ ap (λ (x : Front). x.typed.functions) c.self.view_is) (c.as_slice-2.ensures ∙ ap (λ (x : Front). x.facts.functions) c.self.view_is) known.1.facts.each c.requires c.place_of-place.ensures c.index-as_slice-place.result f is).live

pub returns-clause-index : goal.returns-clause-index
returns-clause-index c = let f = some_found c.args.self.now.typed.functions c.args.function c.requires in (returns-clause-live c f.0 f.1).index
