use Rattle.std.proofs.Common.{get_or, ap, ◌∙◌, subst}
use Rattle.rx_typeck_typed.specs.declared.typed.Typed.{Typed}
use Rattle.rx_region.specs.Tables.{sets_of}
use Rattle.rx_check.specs.Functions.{AreRegionsOf}
use Rattle.rx_check.proofs.Settling.{any_pairs}
use Rattle.rx_check.specs.Front.{Judged, IsChecked}
use Rattle.rx_check.proofs.ReaderLemmas.{within, reads}
use Rattle.rx_check.proofs.front_end.Checked.regions.Goals as goal

pub bounds-as_slice-place : goal.bounds-as_slice-place
bounds-as_slice-place c = let known : IsChecked c.args.self.now = subst IsChecked c.self.view_is c.self.invariant in let x = c.args.self.now in
    within (AreRegionsOf x.front.typed.decls.items known.1.regions.implied) x.front.typed.functions c.as_slice.result.now x.regions c.as_slice-2.result.now c.args.function c.place_of-place.result
    (c.as_slice.ensures ∙ (ap (λ (t : Typed). t.functions) c.typed.ensures.same ∙ ap (λ (y : Judged). y.front.typed.functions) c.self.view_is))
    (c.as_slice-2.ensures ∙ ap (λ (y : Judged). y.regions) c.self.view_is) known.1.regions.each c.requires c.place_of-place.ensures

pub returns : goal.returns
returns c f is P asked = let known : IsChecked c.args.self.now = subst IsChecked c.self.view_is c.self.invariant in let x = c.args.self.now in
    any_pairs x.front.typed.decls.items known.1.regions.implied P known.1.regions.asked asked f (sets_of (get_or c.as_slice-2.result.now c.place_of-place.result c.index-as_slice-place.result).regions)
    (reads (AreRegionsOf x.front.typed.decls.items known.1.regions.implied) x.front.typed.functions c.as_slice.result.now x.regions c.as_slice-2.result.now c.args.function c.place_of-place.result
    (c.as_slice.ensures ∙ (ap (λ (t : Typed). t.functions) c.typed.ensures.same ∙ ap (λ (y : Judged). y.front.typed.functions) c.self.view_is))
    (c.as_slice-2.ensures ∙ ap (λ (y : Judged). y.regions) c.self.view_is) known.1.regions.each c.requires c.place_of-place.ensures c.index-as_slice-place.result f is).0
