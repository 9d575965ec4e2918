-- A variable that is live behind some exit of a list: behind one of those that are left, unless it was found.
use Rattle.std.proofs.Common.{◌≡◌, refl, sym, ap, ◌∙◌, ℕ, zero, suc, ◌<◌, ◌≤◌, ◌+◌, List, [], ◌∷◌, length, drop, get_or, subst, arith, ◌↔◌, Bool, true, false, true≢false}
use Rattle.std.specs.Bool.{Decides}
use Rattle.std.proofs.lemmas.List.{drop_more, drop_all}
use Rattle.rx_lower_walks.specs.Walks.{Among, here, there}
use Rattle.rx_exits_plan.specs.Points.{Exit}
use Rattle.rx_exits_plan.specs.declared.plan.ExitOuts.{ExitOuts}
use Rattle.rx_exits_plan.specs.Asked.{Asked, IsLiveAt}
use Rattle.rx_exits_plan.specs.PlainPlan.{plain-Exit}
use Rattle.rx_modes.specs.Told.{listed, LiveBehind}

listed_at : (es : List ExitOuts) (i : ℕ) (e : ExitOuts) → i < length es → e ≡ get_or es i e → Among (plain-Exit e.exit) (listed es)
listed_at [] i e less is = absurd (omega (arith, less))
listed_at (d ∷ es) zero e less is = subst (λ (x : ExitOuts). Among (plain-Exit e.exit) (plain-Exit x.exit ∷ listed es)) is here
listed_at (d ∷ es) (suc i) e less is = there (listed_at es i e (omega (arith, less)) is)

module _ (A : Asked) (params : List ℕ) (x : ℕ) where
  pub live_here : (es : List ExitOuts) (i : ℕ) (e : ExitOuts) → i < length es → e ≡ get_or es i e → IsLiveAt A params (plain-Exit e.exit) x → LiveBehind A params es x
  live_here es i e less is live = (plain-Exit e.exit, listed_at es i e less is, live)

  other : (e : ExitOuts) (es : List ExitOuts) → (IsLiveAt A params (plain-Exit e.exit) x → ⊥) → LiveBehind A params (e ∷ es) x → LiveBehind A params es x
  other e es not h = by h.1 h.2
    where
      by : {d : Exit} → Among d (listed (e ∷ es)) → IsLiveAt A params d x → LiveBehind A params es x
      by here live = absurd (not live)
      by {d = d} (there i) live = (d, i, live)

  pub live_next : (es : List ExitOuts) (i : ℕ) (e : ExitOuts) → i < length es → e ≡ get_or es i e → (IsLiveAt A params (plain-Exit e.exit) x → ⊥)
      → LiveBehind A params (drop i es) x → LiveBehind A params (drop (i + 1) es) x
  live_next es i e less is not h =
      other e (drop (i + 1) es) not (subst (λ l. LiveBehind A params l x) (drop_more es i e less ∙ ap (λ d. d ∷ drop (i + 1) es) (sym is)) h)

  pub live_nowhere : (es : List ExitOuts) (i : ℕ) → length es ≤ i → LiveBehind A params (drop i es) x → ⊥
  live_nowhere es i past h = none (subst (λ l. LiveBehind A params l x) (drop_all i es past) h)
    where
      none : LiveBehind A params [] x → ⊥
      none h = elim h.1 [ ]

  pub told_here : (es : List ExitOuts) (i : ℕ) (e : ExitOuts) (b : Bool) → i < length es → e ≡ get_or es i e → b ≡ true
      → (b ≡ true) ↔ IsLiveAt A params (plain-Exit e.exit) x → Decides true (LiveBehind A params es x)
  told_here es i e b less is so told = ((λ t. live_here es i e less is (told.0 so)), (λ h. refl))

  pub told_next : (es : List ExitOuts) (i : ℕ) (e : ExitOuts) (b : Bool) → i < length es → e ≡ get_or es i e → b ≡ false
      → (b ≡ true) ↔ IsLiveAt A params (plain-Exit e.exit) x → LiveBehind A params (drop i es) x → LiveBehind A params (drop (i + 1) es) x
  told_next es i e b less is not told = live_next es i e less is (λ l. true≢false (sym (told.1 l) ∙ not))

  pub told_nowhere : (es : List ExitOuts) (i : ℕ) → length es ≤ i → (LiveBehind A params es x → LiveBehind A params (drop i es) x) → Decides false (LiveBehind A params es x)
  told_nowhere es i past left = ((λ e. absurd (true≢false (sym e))), (λ h. absurd (live_nowhere es i past (left h))))
