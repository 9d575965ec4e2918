-- A variable from outside is a param or a local of a run that is refused for none: what is wholly there on one way into the run is so on each.
use Rattle.std.proofs.Common.{◌≡◌, ℕ, Bool, true, false, if◌then◌else◌, List, [], ◌∷◌, refl, ◌⊎◌, inl, inr}
use Rattle.rx_lower_walks.specs.Actions.{Action}
use Rattle.rx_lower_walks.specs.Walks.{Among, here, there}
use Rattle.rx_typed.specs.Tree.{own}
use Rattle.rx_facts_tables.specs.Setting.{AllSet, is_set}
use Rattle.rx_facts_tables.specs.Wholes.{stands}
use Rattle.rx_exits_plan.specs.Points.{enters}
use Rattle.rx_exits_plan.specs.Asked.{Asked, ComesTo}
use Rattle.rx_exits_plan.specs.MixedInit.{MixedInit}
use Rattle.rx_exits_plan.specs.PartlyMoved.{at_entry, PartlyMoved}
use Rattle.rx_exits_plan.specs.Occurrences.{those}
use Rattle.rx_exits_plan.specs.Plan.{Chosen, foreign_of, IsPlan, left, none, Plan, taken}
use Rattle.rx_hoist_meant.proofs.Patterns.{none_among}

-- each of a list is chosen, or that isn't so of it
pub chosen_or_not : {Q : ℕ → Type 0} {l m : List ℕ} → Chosen Q l m → (x : ℕ) → Among x l → Among x m ⊎ (Q x → ⊥)
chosen_or_not none x i = absurd (none_among i)
chosen_or_not {Q} (taken {l = l} {m = m} q c) x i = at i (chosen_or_not c x)
  where
    at : {y : ℕ} → Among x (y ∷ l) → (Among x l → Among x m ⊎ (Q x → ⊥)) → Among x (y ∷ m) ⊎ (Q x → ⊥)
    at here on = inl here
    at {y} (there j) on = by (on j)
      where
        by : Among x m ⊎ (Q x → ⊥) → Among x (y ∷ m) ⊎ (Q x → ⊥)
        by (inl k) = inl (there k)
        by (inr n) = inr n
chosen_or_not {Q} (left {l = l} {m = m} n c) x i = at i n (chosen_or_not c x)
  where
    at : {y : ℕ} → Among x (y ∷ l) → (Q y → ⊥) → (Among x l → Among x m ⊎ (Q x → ⊥)) → Among x m ⊎ (Q x → ⊥)
    at here n on = inr n
    at (there j) n on = on j

pub chosen_among : {Q : ℕ → Type 0} {l m : List ℕ} → Chosen Q l m → (x : ℕ) → Among x m → Among x l
chosen_among none x i = i
chosen_among (taken {l = l} {m = m} q c) x i = at i (chosen_among c x)
  where
    at : {y : ℕ} → Among x (y ∷ m) → (Among x m → Among x l) → Among x (y ∷ l)
    at here on = here
    at (there j) on = there (on j)
chosen_among (left q c) x i = there (chosen_among c x i)

-- those of which it is so
pub chosen_those : (f : ℕ → Bool) (x : ℕ) (l : List ℕ) → Among x (those f l) → (f x ≡ true) × Among x l
chosen_those f x [] i = absurd (none_among i)
chosen_those f x (y ∷ l) i = by (f y) refl i (chosen_those f x l)
  where
    at : {z : ℕ} → f z ≡ true → Among x (z ∷ those f l) → (Among x (those f l) → (f x ≡ true) × Among x l) → (f x ≡ true) × Among x (z ∷ l)
    at e here on = (e, here)
    at e (there j) on = let r = on j in (r.0, there r.1)

    by : (b : Bool) → f y ≡ b → Among x (if b then y ∷ those f l else those f l) → (Among x (those f l) → (f x ≡ true) × Among x l) → (f x ≡ true) × Among x (y ∷ l)
    by true e i on = at e i on
    by false e i on = let r = on i in (r.0, there r.1)

module _ (A : Asked) (k : Plan) (plan : IsPlan A k) (mixed : (x : ℕ) → MixedInit A x → ⊥) (partly : (x : ℕ) → PartlyMoved A k x → ⊥) where
  -- where it is there on one way, each part of it is set on each
  set_everywhere : (x : ℕ) (u w : List Action) → Among x (foreign_of A) → ComesTo A enters u → stands u x [] ≡ true → ComesTo A enters w → AllSet A.frame w (own x)
  set_everywhere x u w i from there_it_is to n is = by (is_set A.frame w n) refl (is_set A.frame u n) refl
    where
      by : (b : Bool) → is_set A.frame w n ≡ b → (c : Bool) → is_set A.frame u n ≡ c → is_set A.frame w n ≡ true
      by true e c f = e
      by false e true f = absurd (mixed x (record { named = i; part = n; is_one = is; set = (u, from, f); unset = (w, to, e) }))
      by false e false f = absurd (partly x (at_entry u i from (n, is, f) there_it_is))

  pub param_or_local : (x : ℕ) → Among x (foreign_of A) → Among x k.params ⊎ Among x k.locals
  param_or_local x i = by (chosen_or_not plan.params x i) (chosen_or_not plan.locals x i)
    where
      by : Among x k.params ⊎ (((w : List Action) → ComesTo A enters w → AllSet A.frame w (own x)) → ⊥) → Among x k.locals ⊎ (((w : List Action) → ComesTo A enters w → stands w x [] ≡ false) → ⊥)
          → Among x k.params ⊎ Among x k.locals
      by (inl p) l = inl p
      by (inr n) (inl l) = inr l
      by (inr n) (inr m) = absurd (m (λ w comes. at w comes (stands w x []) refl))
        where
          at : (w : List Action) → ComesTo A enters w → (b : Bool) → stands w x [] ≡ b → stands w x [] ≡ false
          at w comes true e = absurd (n (λ v to. set_everywhere x w v i comes e to))
          at w comes false e = e
