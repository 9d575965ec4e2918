-- What is given away and not moved is needed at no exit: where it is, it has no mode, and the run is refused.
use Rattle.std.proofs.Common.{◌≡◌, refl, sym, ◌∙◌, not, ◌&&◌, ◌||◌, ◌⊎◌, inl, inr, ℕ, Bool, true, false, List, [], ◌∷◌, true≢false}
use Rattle.std.specs.Bool.{Decides}
use Rattle.rx_lower_walks.specs.Walks.{Among, here, there}
use Rattle.rx_exits_plan.specs.Asked.{Asked}
use Rattle.rx_exits_plan.specs.Plan.{Plan, is_moved}
use Rattle.rx_modes_policy.specs.declared.uses.Mode.{Mode}
use Rattle.rx_modes_policy.specs.declared.uses.Mode.TheVariants as mode
use Rattle.rx_modes_policy.specs.declared.uses.Uses.{Uses}
use Rattle.rx_modes_policy.specs.Allowed.{IsMember, HasMember, allowed_by}
use Rattle.rx_modes_uses.specs.First.{First, this, later}
use Rattle.rx_modes_uses.specs.Uses.{IsLiveOut, IsSetIn, IsUses}
use Rattle.rx_modes_uses.specs.NotMut.{NotMut}
use Rattle.rx_modes_uses.proofs.Deciding.{told, are_uses}
use Rattle.rx_modes_uses.proofs.Planned.{same_moves}
use Rattle.rx_modes_given.specs.GivenAway.{is_given_away}
use Rattle.rx_modes_given.proofs.Telling.{given_told}
use Rattle.rx_modes_given.proofs.Rows.{unmoved_given, given_value, given_or_copy}

-- where nothing is the first of which something holds, it holds of none
none_first : {Q : ℕ → Type 0} (l : List ℕ) → ((y : ℕ) → ¬ (First Q l y)) → (x : ℕ) → Among x l → ¬ (Q x)
none_first [] n x i = elim i [ ]
none_first (_ ∷ l) n x here = λ q. n x (this q)
none_first (y ∷ l) n x (there i) = none_first l (λ z f. n z (later (λ q. n y (this q)) f)) x i

module _ (A : Asked) (muts : List Bool) (k : Plan) (x : ℕ) where
  pub passed_by_value : (u : Uses) (m : Mode) → IsUses A muts k x u → is_given_away A muts x ≡ true → IsMember m (allowed_by u) → m ≡ mode.Value
  passed_by_value u m a g h = given_value u m (sym (given_told A muts k x u a) ∙ g) h

  pub by_value_or_copied : (u : Uses) → IsUses A muts k x u → IsMember mode.Value (allowed_by u) → (is_given_away A muts x ≡ true) ⊎ (u.copy ≡ true)
  by_value_or_copied u a h = by (given_or_copy u h)
    where
      by : (u.moved || (u.through && not (u.mut_ref || u.declared_mut))) ≡ true ⊎ (u.copy ≡ true) → (is_given_away A muts x ≡ true) ⊎ (u.copy ≡ true)
      by (inl e) = inl (given_told A muts k x u a ∙ e)
      by (inr e) = inr e

  pub passed_not_needed : (u : Uses) → IsUses A muts k x u → is_given_away A muts x ≡ true → is_moved A x ≡ false → HasMember (allowed_by u) → ¬ (IsLiveOut A k x)
  passed_not_needed u a g f h live =
      true≢false (sym (a.live_out.1 live) ∙ (unmoved_given u h.0 (sym (given_told A muts k x u a) ∙ g) (same_moves A muts k x u a ∙ f) h.1).1)

  -- a variable that is needed at an exit has uses, but for whether some walk that enters the run has it set; that need not be known
  pub unrefused_not_needed : ((y : ℕ) → ¬ (NotMut A muts k y)) → Among x k.params → is_given_away A muts x ≡ true → is_moved A x ≡ false → ¬ (IsLiveOut A k x)
  unrefused_not_needed allowed i g f live = at false ((λ q. absurd (true≢false (sym q))), λ s. absurd (at true ((λ q. s), λ q. refl)))
    where
      at : (set : Bool) → Decides set (IsSetIn A x) → ⊥
      at set d =
          let are = are_uses A muts k x true set ((λ q. live), λ q. refl) d in
          none_first k.params allowed x i (record { uses = told A muts x true set; are_uses = are; none = λ some. passed_not_needed (told A muts x true set) are g f some live })
