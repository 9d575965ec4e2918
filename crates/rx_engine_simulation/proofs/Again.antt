-- The reference in a variable that was written is asked for again: it is that reference, or a shared one to where it leads; or what was
-- written there is none, and the run goes astray.
use Rattle.std.proofs.Common.{◌≡◌, ℕ, Bool, true, ◌&&◌, List, [], ◌∷◌, Some, refl, sym, ap, ◌∙◌, true≢false}
use Rattle.rx_core.specs.declared.types.Step.{Step}
use Rattle.rx_core.specs.declared.types.Step.TheVariants as step
use Rattle.rx_typed.specs.Tree.{Temporary, own, under}
use Rattle.rx_lower_walks.specs.Actions.{Borrow}
use Rattle.rx_meaning.specs.Endings.{astray, missing_reference, wrong}
use Rattle.rx_meaning.specs.Straying.{where_some, unlike, why_no_part, why_no_content, why_not_followed}
use Rattle.rx_meaning.specs.Values.{Value, number, truth, whole, tagged, pointer, lacking, is_set, and_then, get, element, slot_of, State}
use Rattle.rx_meaning.specs.Results.{Done, gives, ends, or_ends}
use Rattle.rx_meaning.specs.Places.{Spot, in_slot, pointed, follow, reference_to}
use Rattle.rx_meaning.specs.Acting.{does_plainly}
use Rattle.rx_meaning.proofs.Reborrows.{reborrow_is}

module _ (k : Bool) (y : ℕ) (n : Bool) (i : ℕ) (t : Temporary) (s : State) where
  abbrev pub asking : Done ℕ
  asking = does_plainly (Borrow k (under (own y) (step.Deref n ∷ [])) t) [] s

  -- by the value of the variable
  pub data Asked (v : Value) : Type 0 where
    leads : (q : ℕ) (ss : List Step) (b : Bool) → v ≡ pointer q ss b → asking ≡ gives [] (pointer q ss (k && b)) s → Asked v
    is_none : asking ≡ ends [] (wrong missing_reference) → Asked v

  asking_is : (v : Value) → slot_of s.frame.slots y ≡ Some i → element s.memory i ≡ Some v
      → asking ≡ or_ends (where_some (pointed true v) (unlike missing_reference v) (λ to. why_no_content s.memory to)) (and_then (pointed true v) (λ to. Some to)) (λ at. or_ends astray (reference_to k at) (λ w. gives [] w s))
  asking_is v e f =
      ap (λ o. or_ends {A = Spot} (where_some (and_then o (λ i. Some (in_slot i [] true))) astray (λ at. why_not_followed s.memory (step.Deref n ∷ []) at)) (and_then (and_then o (λ i. Some (in_slot i [] true))) (λ at. follow s.memory (step.Deref n ∷ []) at)) (λ at. or_ends astray (reference_to k at) (λ w. gives [] w s))) e
      ∙ ap (λ o. or_ends {A = Spot} (where_some (and_then o (λ u. get [] u)) (where_some o astray (λ u. why_no_part [] u)) (λ u. where_some (pointed true u) (unlike missing_reference u) (λ to. why_no_content s.memory to))) (and_then (and_then o (λ u. get [] u)) (λ u. and_then (pointed true u) (λ to. Some to))) (λ at. or_ends astray (reference_to k at) (λ w. gives [] w s))) f

  pub asked_again : (v : Value) → slot_of s.frame.slots y ≡ Some i → element s.memory i ≡ Some v → is_set v ≡ true → Asked v
  asked_again (number a z) e f set = is_none (asking_is (number a z) e f)
  asked_again (truth b) e f set = is_none (asking_is (truth b) e f)
  asked_again (whole vs) e f set = is_none (asking_is (whole vs) e f)
  asked_again (tagged a vs) e f set = is_none (asking_is (tagged a vs) e f)
  asked_again (lacking l) e f set = absurd (true≢false (sym set))
  asked_again (pointer q ss b) e f set = leads q ss b refl (reborrow_is y i q ss k n b t s e f)
