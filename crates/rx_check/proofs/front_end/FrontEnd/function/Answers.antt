use Rattle.std.proofs.Common.{ap, ◌∙◌}
use Rattle.rx_check.specs.Front.{Front}
use Rattle.rx_check.proofs.ReaderLemmas.{stands, finds}
use Rattle.rx_check.proofs.front_end.FrontEnd.function.Goals as goal

pub bounds-as_slice-place : goal.bounds-as_slice-place
bounds-as_slice-place c = stands c.args.self.now.typed.functions c.as_slice.result.now c.as_slice-2.result.now c.args.function c.place_of-place.result
    (c.as_slice.ensures ∙ ap (λ (x : Front). x.typed.functions) c.self.view_is) (c.as_slice-2.ensures ∙ ap (λ (x : Front). x.typed.functions) c.self.view_is) c.requires c.place_of-place.ensures

pub returns : goal.returns
returns c = finds c.args.self.now.typed.functions c.as_slice.result.now c.as_slice-2.result.now c.args.function c.place_of-place.result
    (c.as_slice.ensures ∙ ap (λ (x : Front). x.typed.functions) c.self.view_is) (c.as_slice-2.ensures ∙ ap (λ (x : Front). x.typed.functions) c.self.view_is) c.requires c.place_of-place.ensures
    c.index-as_slice-place.result c.index-as_slice-place.result c.index-as_slice-place.is
