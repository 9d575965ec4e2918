use Rattle.std.proofs.Common.{get_or, ap, ◌∙◌, subst}
use Rattle.rx_facts.specs.Answers.{IsGraphOf}
use Rattle.rx_check.proofs.Telling.{few_sites}
use Rattle.rx_check.specs.Front.{Front, IsFronted}
use Rattle.rx_check.proofs.ReaderLemmas.{within, reads, some_found}
use Rattle.rx_check.proofs.front_end.FrontEnd.graph.Goals as goal

pub bounds-as_slice-place : goal.bounds-as_slice-place
bounds-as_slice-place c = let known : IsFronted c.args.self.now = subst IsFronted c.self.view_is c.self.invariant in
    within (IsGraphOf c.args.self.now.typed.decls.items) c.args.self.now.typed.functions c.as_slice.result.now c.args.self.now.graphs c.as_slice-2.result.now c.args.function c.place_of-place.result
    (c.as_slice.ensures ∙ ap (λ (x : Front). x.typed.functions) c.self.view_is) (c.as_slice-2.ensures ∙ ap (λ (x : Front). x.graphs) c.self.view_is) known.1.graphs c.requires c.place_of-place.ensures

pub returns-clause-graph : goal.returns-clause-graph
returns-clause-graph c f is = let known : IsFronted c.args.self.now = subst IsFronted c.self.view_is c.self.invariant in
    reads (IsGraphOf c.args.self.now.typed.decls.items) c.args.self.now.typed.functions c.as_slice.result.now c.args.self.now.graphs c.as_slice-2.result.now c.args.function c.place_of-place.result
    (c.as_slice.ensures ∙ ap (λ (x : Front). x.typed.functions) c.self.view_is) (c.as_slice-2.ensures ∙ ap (λ (x : Front). x.graphs) c.self.view_is) known.1.graphs c.requires c.place_of-place.ensures c.index-as_slice-place.result f is

pub returns-clause-few : goal.returns-clause-few
returns-clause-few c = let f = some_found c.args.self.now.typed.functions c.args.function c.requires in
    few_sites c.args.self.now.typed.decls.items f.0 (get_or c.as_slice-2.result.now c.place_of-place.result c.index-as_slice-place.result) (returns-clause-graph c f.0 f.1)
