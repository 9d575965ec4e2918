use Rattle.std.proofs.Common.{ap, ◌∙◌, subst}
use Rattle.rx_typeck_typed.specs.declared.typed.Typed.{Typed}
use Rattle.rx_check.specs.Functions.{AreLoansOf}
use Rattle.rx_check.proofs.Settling.{any_pairs}
use Rattle.rx_check.specs.Front.{Judged, IsChecked}
use Rattle.rx_check.proofs.ReaderLemmas.{within, reads}
use Rattle.rx_check.proofs.front_end.Checked.loans.Goals as goal

pub bounds-as_slice-place : goal.bounds-as_slice-place
bounds-as_slice-place c = let known : IsChecked c.args.self.now = subst IsChecked c.self.view_is c.self.invariant in let x = c.args.self.now in
    within (AreLoansOf x.front.typed.decls.items known.1.loans.implied) x.front.typed.functions c.as_slice.result.now x.loans c.as_slice-2.result.now c.args.function c.place_of-place.result
    (c.as_slice.ensures ∙ (ap (λ (t : Typed). t.functions) c.typed.ensures.same ∙ ap (λ (y : Judged). y.front.typed.functions) c.self.view_is))
    (c.as_slice-2.ensures ∙ ap (λ (y : Judged). y.loans) c.self.view_is) known.1.loans.each c.requires c.place_of-place.ensures

pub returns : goal.returns
returns c f is P asked R least = let known : IsChecked c.args.self.now = subst IsChecked c.self.view_is c.self.invariant in let x = c.args.self.now in
    (reads (AreLoansOf x.front.typed.decls.items known.1.loans.implied) x.front.typed.functions c.as_slice.result.now x.loans c.as_slice-2.result.now c.args.function c.place_of-place.result
    (c.as_slice.ensures ∙ (ap (λ (t : Typed). t.functions) c.typed.ensures.same ∙ ap (λ (y : Judged). y.front.typed.functions) c.self.view_is))
    (c.as_slice-2.ensures ∙ ap (λ (y : Judged). y.loans) c.self.view_is) known.1.loans.each c.requires c.place_of-place.ensures c.index-as_slice-place.result f is).exact
    R (any_pairs x.front.typed.decls.items P known.1.loans.implied asked known.1.loans.asked f R least)
