-- Where variables are wholly set, taking each once is in order.
use Rattle.std.proofs.Common.{◌≡◌, ℕ, Bool, true, false, not, ◌&&◌, ◌||◌, ◌==◌, List, [], ◌∷◌, ◌++◌, refl, sym, ◌∙◌, subst, ap, eqb-true}
use Rattle.rx_core.specs.declared.types.Step.{Step}
use Rattle.rx_core.specs.declared.types.Step.TheVariants as step
use Rattle.rx_typed.specs.Tree.{temporary, Place, Temporary, own}
use Rattle.rx_lower_walks.specs.Actions.{Act, Read, Borrow, Write, Give, Action, does}
use Rattle.rx_lower_walks.specs.Walks.{Among, here, there}
use Rattle.rx_facts_tables.specs.Along.{Switch, behind, after}
use Rattle.rx_facts_tables.specs.Places.{is_part}
use Rattle.rx_facts_tables.specs.Setting.{unsets, setting, is_set, AllSet}
use Rattle.rx_facts_tables.specs.Wholes.{loses, standing, stands}
use Rattle.rx_facts_tables.specs.Initialised.{InOrder}
use Rattle.rx_meaning_keeping.proofs.Parts.{Parted}
use Rattle.rx_engine_initial.specs.Matching.{Good}
use Rattle.rx_engine_initial.specs.Variables.{Kept, by_reference, Sides}
use Rattle.rx_engine_initial.specs.Copies.{IsEasy, easy_copy, easy_take, easy_borrow, easy_test, easy_write, easy_call, easy_build, easy_input, easy_print, easy_give, IsSafe, in_temporary, behind_it, world}
use Rattle.rx_engine_initial.specs.Handing.{Takes, by_read, by_borrow, by_reborrow, Handing, none_taken, takes_one, does_one}
use Rattle.rx_engine_initial.proofs.Tracing.{joined, after_one}
use Rattle.rx_engine_initial.proofs.Ways.{no, is_false, clash}
use Rattle.rx_engine_initial.proofs.Uses.{some_is, none_is, no_part}

none_among : {A B : Type 0} (a : A) → Among a [] → B
none_among a q = elim q [ ]

module _ (S : Sides) (new : Parted S.frame) where
  -- what looks at temporaries alone is in order
  temporary_set : (us : List Action) {p : Place} → IsSafe [] p → AllSet S.frame us p
  temporary_set us (in_temporary {t = t} {ss = ss}) n k = absurd (no_part S.frame t ss n k)
  temporary_set us (behind_it {x = x} q) n k = none_among (by_reference x) q

  write_safe : (us : List Action) (n : ℕ) {p : Place} (t : Temporary) (ss : List Step) → IsSafe [] p → InOrder S.frame S.muts us (does n (Write p t ss))
  write_safe us n t ss in_temporary = record { looks = λ p e. none_is e; enters = λ x qs h. no h; assigns = λ x h k. no h }
  write_safe us n t ss (behind_it {x = x} q) = none_among (by_reference x) q

  looking : (us : List Action) {p : Place} → IsSafe [] p → (q : Place) → p ≡ q → AllSet S.frame us q
  looking us s q e = subst (λ p. AllSet S.frame us p) e (temporary_set us s)

  pub easy_in_order : (us : List Action) (n : ℕ) {a : Act} → IsEasy [] a → InOrder S.frame S.muts us (does n a)
  easy_in_order us n (easy_copy s) = record { looks = λ p e. looking us s p (some_is e); enters = λ x qs h. no h; assigns = λ x h k. no h }
  easy_in_order us n (easy_take {t = t} {ss = ss}) = record { looks = λ p e. looking us (in_temporary {t = t} {ss = ss}) p (some_is e); enters = λ x qs h. no h; assigns = λ x h k. no h }
  easy_in_order us n (easy_borrow s) = record { looks = λ p e. looking us s p (some_is e); enters = λ x qs h. no h; assigns = λ x h k. no h }
  easy_in_order us n (easy_test s) = record { looks = λ p e. looking us s p (some_is e); enters = λ x qs h. no h; assigns = λ x h k. no h }
  easy_in_order us n (easy_write {t = t} {ss = ss} s) = write_safe us n t ss s
  easy_in_order us n easy_call = record { looks = λ p e. none_is e; enters = λ x qs h. no h; assigns = λ x h k. no h }
  easy_in_order us n easy_build = record { looks = λ p e. none_is e; enters = λ x qs h. no h; assigns = λ x h k. no h }
  easy_in_order us n easy_input = record { looks = λ p e. none_is e; enters = λ x qs h. no h; assigns = λ x h k. no h }
  easy_in_order us n easy_print = record { looks = λ p e. none_is e; enters = λ x qs h. no h; assigns = λ x h k. no h }
  easy_in_order us n easy_give = record { looks = λ p e. none_is e; enters = λ x qs h. no h; assigns = λ x h k. no h }

  pub easy_unsets : (n : ℕ) {a : Act} → IsEasy [] a → unsets S.frame n a ≡ false
  easy_unsets n (easy_copy s) = refl
  easy_unsets n (easy_take {v = true} {t = t} {ss = ss}) = is_false (is_part S.frame (record { root = temporary t; steps = ss }) n) (no_part S.frame t ss n)
  easy_unsets n (easy_take {v = false}) = refl
  easy_unsets n (easy_borrow s) = refl
  easy_unsets n (easy_test s) = refl
  easy_unsets n (easy_write s) = refl
  easy_unsets n easy_call = refl
  easy_unsets n easy_build = refl
  easy_unsets n easy_input = refl
  easy_unsets n easy_print = refl
  easy_unsets n easy_give = refl

  -- what leaves a part set
  pub stays : (us : List Action) (a : Action) (n : ℕ) → unsets S.frame n a.act ≡ false → is_set S.frame us n ≡ true → is_set S.frame (us ++ a ∷ []) n ≡ true
  stays us a n k e = after_one (setting S.frame n) us a false ∙ by ((setting S.frame n).gives a) ((setting S.frame n).kills a) (is_set S.frame us n) k e
    where
      by : (g k b : Bool) → k ≡ false → b ≡ true → (g || (not k && b)) ≡ true
      by true k b p q = refl
      by false false b p q = q
      by false true b p q = clash true refl p

  pub take_unsets : (x y n : ℕ) {a : Act} → (x ≡ y → ⊥) → Takes x a → is_part S.frame (own y) n ≡ true → unsets S.frame n a ≡ false
  take_unsets x y n d (by_read {v = true}) h = is_false (is_part S.frame (own x) n) (λ k. new.other x y [] [] n d k h)
  take_unsets x y n d (by_read {v = false}) h = refl
  take_unsets x y n d by_borrow h = refl
  take_unsets x y n d by_reborrow h = refl

  pub take_in_order : (us : List Action) (n x : ℕ) {a : Act} → Takes x a → AllSet S.frame us (own x) → InOrder S.frame S.muts us (does n a)
  take_in_order us n x by_read f = record { looks = λ p e. subst (λ q. AllSet S.frame us q) (some_is e) f; enters = λ z qs h. no h; assigns = λ z h k. no h }
  take_in_order us n x by_borrow f = record { looks = λ p e. subst (λ q. AllSet S.frame us q) (some_is e) f; enters = λ z qs h. no h; assigns = λ z h k. no h }
  take_in_order us n x by_reborrow f = record { looks = λ p e. subst (λ q. AllSet S.frame us q) (some_is e) f; enters = λ z qs h. no h; assigns = λ z h k. no h }

  pub handing_in_order : {xs : List ℕ} {l : List Action} → Handing xs l → (us : List Action) → ((x : ℕ) → Among x xs → AllSet S.frame us (own x)) → Good (world S) us l
  handing_in_order none_taken us f = tt
  handing_in_order (takes_one {n = n} {x = x} {a = a} {xs = xs} t d h) us f = (take_in_order us n x t (f x here), handing_in_order h (us ++ does n a ∷ []) (λ y q m k. stays us (does n a) m (take_unsets x y m (λ e. d (subst (λ z. Among z xs) (sym e) q)) t k) (f y (there q) m k)))
  handing_in_order (does_one {n = n} {a = a} e h) us f = (easy_in_order us n e, handing_in_order h (us ++ does n a ∷ []) (λ y q m k. stays us (does n a) m (easy_unsets m e) (f y q m k)))

  pub good_front : (us vs ws : List Action) → Good (world S) us (vs ++ ws) → Good (world S) us vs
  good_front us [] ws g = tt
  good_front us (a ∷ vs) ws g = (g.0, good_front (us ++ a ∷ []) vs ws g.1)

  pub good_more : (us l : List Action) (n : ℕ) (t : Temporary) → Good (world S) us l → Good (world S) us (l ++ does n (Give t) ∷ [])
  good_more us [] n t g = (easy_in_order us n easy_give, tt)
  good_more us (a ∷ l) n t g = (g.0, good_more (us ++ a ∷ []) l n t g.1)
