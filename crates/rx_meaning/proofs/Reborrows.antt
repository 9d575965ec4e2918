-- What is borrowed behind a reference that stands in a variable: the place is followed by what is given of the state.
use Rattle.std.proofs.Common.{◌≡◌, ℕ, Bool, true, ◌&&◌, List, [], ◌∷◌, Option, Some, ap, ◌∙◌}
use Rattle.rx_core.specs.declared.types.Step.{Step}
use Rattle.rx_typed.specs.Tree.{Temporary, own, under}
use Rattle.rx_lower_walks.specs.Actions.{Borrow}
use Rattle.rx_meaning.specs.Endings.{astray}
use Rattle.rx_meaning.specs.Straying.{why_not_found}
use Rattle.rx_meaning.specs.Values.{Value, pointer, and_then, get, element, slot_of, State}
use Rattle.rx_meaning.specs.Results.{Done, gives, or_ends}
use Rattle.rx_meaning.specs.Places.{Spot, in_slot, pointed, follow, reference_to}
use Rattle.rx_meaning.specs.Acting.{does_plainly}

module _ (x i j : ℕ) (q : List Step) (k b m : Bool) (d : Temporary) (s : State) where
  -- by the spot where it is
  abbrev at_spot : Option Spot → Done ℕ
  at_spot o = or_ends (why_not_found (under (own x) (Step.Deref b ∷ [])) [] s) o (λ at. or_ends astray (reference_to k at) (λ w. gives [] w s))

  pub reborrow_is : slot_of s.frame.slots x ≡ Some i → element s.memory i ≡ Some (pointer j q m)
      → does_plainly (Borrow k (under (own x) (Step.Deref b ∷ [])) d) [] s ≡ gives [] (pointer j q (k && m)) s
  reborrow_is e h =
      ap (λ (o : Option ℕ). at_spot (and_then (and_then o (λ n. Some (in_slot n [] true))) (λ at. follow s.memory (Step.Deref b ∷ []) at))) e
      ∙ ap (λ (o : Option Value). at_spot (and_then (and_then o (λ u. get [] u)) (λ u. and_then (pointed true u) (λ to. follow s.memory [] to)))) h
