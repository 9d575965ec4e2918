-- Where each place that a place is in stands, so does it with these: nothing that begins or ends the variable, nor a move of what it is in,
-- came since it was written.
use Rattle.std.proofs.Common.{◌≡◌, ◌⊎◌, inl, inr, ℕ, Bool, true, false, not, ◌&&◌, ◌||◌, ◌==◌, List, [], ◌∷◌, refl, sym, ◌∙◌, subst, ap}
use Rattle.rx_core.specs.declared.types.Step.{Step}
use Rattle.rx_typed.specs.TypedPlaces.{is_front, same_steps}
use Rattle.rx_lower_walks.specs.Actions.{Act, Declare, Dead, Read, Write, Borrow, Test, Call, Build, Input, Print, Give, Action}
use Rattle.rx_facts_tables.specs.Along.{behind, after}
use Rattle.rx_facts_tables.specs.Wholes.{is_variable, is_all, regains, loses, standing, stands}
use Rattle.rx_engine_initial.specs.Variables.{lost, standing_in}
use Rattle.rx_engine_initial.proofs.Ways.{no, and_left, and_right, and_both, or_left, or_right, either, clash, same_steps_self, front_self, front_trans}

lost_too : {A : Type 0} (k t b : Bool) → k ≡ true → t ≡ true → (not (k && t) && b) ≡ true → A
lost_too true true b p q h = no h
lost_too true false b p q h = no q
lost_too false t b p q h = no p

kept_on : (k c : Bool) → k ≡ false → c ≡ true → (not k && c) ≡ true
kept_on false c p q = q
kept_on true c p q = clash true refl p

passes : (k t b : Bool) → (not (k && t) && b) ≡ true → b ≡ true
passes true true b h = no h
passes true false b h = h
passes false t b h = h

module _ (x : ℕ) (qs : List Step) where
  step_in : (a : Act) (b : List Step → Bool) (c : Bool) → (((q : List Step) → is_front q qs ≡ true → b q ≡ true) → c ≡ true)
      → ((q : List Step) → is_front q qs ≡ true → (regains x q a || (not (loses x q a) && b q)) ≡ true) → (regains x qs a || (not (lost x qs a) && c)) ≡ true
  step_in (Declare y) b c f g = by (y == x) refl
    where
      by : (t : Bool) → (y == x) ≡ t → (not (y == x) && c) ≡ true
      by true e = lost_too (y == x) true (b []) e refl (g [] refl)
      by false e = kept_on (y == x) c e (f (λ q i. passes (y == x) (is_all q) (b q) (g q i)))
  step_in (Dead y) b c f g = by (y == x) refl
    where
      by : (t : Bool) → (y == x) ≡ t → (not (y == x) && c) ≡ true
      by true e = lost_too (y == x) true (b []) e refl (g [] refl)
      by false e = kept_on (y == x) c e (f (λ q i. passes (y == x) (is_all q) (b q) (g q i)))
  step_in (Read true p d) b c f g = by (is_variable p.root x && is_front p.steps qs) refl
    where
      by : (t : Bool) → (is_variable p.root x && is_front p.steps qs) ≡ t → (not (is_variable p.root x && is_front p.steps qs) && c) ≡ true
      by true e = lost_too (is_variable p.root x) (same_steps p.steps p.steps) (b p.steps) (and_left (is_variable p.root x) (is_front p.steps qs) e) (same_steps_self p.steps)
          (g p.steps (and_right (is_variable p.root x) (is_front p.steps qs) e))
      by false e = kept_on (is_variable p.root x && is_front p.steps qs) c e (f (λ q i. passes (is_variable p.root x) (same_steps p.steps q) (b q) (g q i)))
  step_in (Read false p d) b c f g = f g
  step_in (Write p t ss) b c f g = by (is_variable p.root x && is_front p.steps qs) refl
    where
      by : (t : Bool) → (is_variable p.root x && is_front p.steps qs) ≡ t → ((is_variable p.root x && is_front p.steps qs) || c) ≡ true
      by true e = or_left (is_variable p.root x && is_front p.steps qs) c e
      by false e = or_right (is_variable p.root x && is_front p.steps qs) c (f (λ q i. held q i (either (is_variable p.root x && is_front p.steps q) (b q) (g q i))))
        where
          held : (q : List Step) → is_front q qs ≡ true → ((is_variable p.root x && is_front p.steps q) ≡ true) ⊎ (b q ≡ true) → b q ≡ true
          held q i (inl h) = clash (is_variable p.root x && is_front p.steps qs)
              (and_both (is_variable p.root x) (is_front p.steps qs) (and_left (is_variable p.root x) (is_front p.steps q) h) (front_trans p.steps q qs (and_right (is_variable p.root x) (is_front p.steps q) h) i)) e
          held q i (inr h) = h
  step_in (Borrow k p d) b c f g = f g
  step_in (Test p k) b c f g = f g
  step_in (Call m ts d) b c f g = f g
  step_in (Build w is ts d) b c f g = f g
  step_in (Input d) b c f g = f g
  step_in (Print t) b c f g = f g
  step_in (Give t) b c f g = f g

  all_in : (w : List Action) (b : List Step → Bool) (c : Bool) → (((q : List Step) → is_front q qs ≡ true → b q ≡ true) → c ≡ true)
      → ((q : List Step) → is_front q qs ≡ true → after (standing x q) w (b q) ≡ true) → after (standing_in x qs) w c ≡ true
  all_in [] b c f g = f g
  all_in (a ∷ w) b c f g = all_in w (λ q. behind (standing x q) a (b q)) (behind (standing_in x qs) a c) (λ h. step_in a.act b c f h) g

  pub stands_in : (w : List Action) → ((q : List Step) → is_front q qs ≡ true → stands w x q ≡ true) → after (standing_in x qs) w false ≡ true
  stands_in w g = all_in w (λ q. false) false (λ h. h qs (front_self qs)) g
