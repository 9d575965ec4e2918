-- Steps of the code's walk in turn.
use Rattle.std.proofs.Common.{◌≡◌, ℕ, zero, suc, ◌<◌, Bool, true, false, List, [], ◌∷◌, ◌++◌, length, take, get_or, arith, cond, Option, Some, None, Result, Ok, Err, MatchOption, refl, sym, ap, ◌∙◌}
use Rattle.rx_resolve_names.specs.declared.resolved.ItemNames.{ItemNames}
use Rattle.rx_resolve.specs.declared.walk.Walk.{Walk}
use Rattle.rx_tree.specs.declared.tree.Ident.{Ident}
use Rattle.rx_resolve.specs.declared.walk.Around as code
use Rattle.rx_resolve.specs.declared.walk.Around.TheVariants as form
use Rattle.rx_resolve_names.specs.Meant.{Around, a_loop, Target, to_loop, out_of_test, nowhere, through_test, is_meant, target}
use Rattle.rx_resolve.specs.Walks.{above, around_from, around_of, with_tables, with_around}

pub above_push : {A : Type 0} (xs : List A) (y : A) → above (xs ++ y ∷ []) ≡ xs
unfolding above
above_push [] y = refl
above_push (x ∷ []) y = refl
above_push (x ∷ z ∷ xs) y = ap (λ l. x ∷ l) (above_push (z ∷ xs) y)

pub above_popped : {A : Type 0} (old new : List A) (r : Option A) → MatchOption r ((old ≡ []) × (new ≡ [])) (λ last. old ≡ new ++ last ∷ []) → new ≡ above old
unfolding above
above_popped old new None h = h.1 ∙ ap above (sym h.0)
above_popped old new (Some y) h = sym (ap above h ∙ above_push new y)

pub around_push : (done : List Around) (l : List code.Around) (x : code.Around) → around_from done (l ++ x ∷ []) ≡ around_of x ∷ around_from done l
around_push done [] x = refl
around_push done (y ∷ l) x = around_push (around_of y ∷ done) l x

-- where a jump leads that was out of a test already
abbrev pub beyond : Bool → Target → Target
beyond false t = t
beyond true t = through_test t

through_twice : (t : Target) → through_test (through_test t) ≡ through_test t
through_twice nowhere = refl
through_twice out_of_test = refl
through_twice (to_loop n) = refl

beyond_test : (b : Bool) (t : Target) → beyond b (through_test t) ≡ through_test t
beyond_test false t = refl
beyond_test true t = through_twice t

take_last : {A : Type 0} (l : List A) (k : ℕ) (d : A) → k < length l → take (suc k) l ≡ take k l ++ get_or l k d ∷ []
take_last [] k d h = absurd (omega (arith, h))
take_last (x ∷ l) zero d h = refl
take_last (x ∷ l) (suc k) d h = ap (λ t. x ∷ t) (take_last l k d (omega (arith, h)))

module _ (wanted : Option Ident) where
  -- behind the last one
  pub target_at : (l : List code.Around) (k : ℕ) (x d : code.Around) → k < length l → get_or l k d ≡ x → target wanted (around_from [] (take (suc k) l)) ≡ target wanted (around_of x ∷ around_from [] (take k l))
  target_at l k x d within is = ap (λ t. target wanted (around_from [] t)) (take_last l k d within ∙ ap (λ y. take k l ++ y ∷ []) is) ∙ ap (target wanted) (around_push [] (take k l) x)

  pub past_test : (l : List code.Around) (k : ℕ) (b : Bool) (r : Target) (d : code.Around) → k < length l → get_or l k d ≡ form.Test → beyond b (target wanted (around_from [] (take (suc k) l))) ≡ r
      → beyond true (target wanted (around_from [] (take k l))) ≡ r
  past_test l k b r d within is before = sym (beyond_test b (target wanted (around_from [] (take k l)))) ∙ sym (ap (beyond b) (target_at l k form.Test d within is)) ∙ before

  -- a loop that is not the one
  pub past_loop : (l : List code.Around) (k : ℕ) (b : Bool) (r : Target) (x d : code.Around) (m : Option Ident) (n : ℕ) → k < length l → get_or l k d ≡ x → around_of x ≡ a_loop m n → is_meant wanted m ≡ false
      → beyond b (target wanted (around_from [] (take (suc k) l))) ≡ r → beyond b (target wanted (around_from [] (take k l))) ≡ r
  past_loop l k b r x d m n within is loop other before = sym (ap (beyond b) (target_at l k x d within is ∙ ap (λ a. target wanted (a ∷ around_from [] (take k l))) loop ∙ ap (λ c. cond c (to_loop n) (target wanted (around_from [] (take k l)))) other)) ∙ before

  -- the loop
  pub at_loop : (l : List code.Around) (k : ℕ) (b : Bool) (r : Target) (x d : code.Around) (m : Option Ident) (n : ℕ) → k < length l → get_or l k d ≡ x → around_of x ≡ a_loop m n → is_meant wanted m ≡ true
      → beyond b (target wanted (around_from [] (take (suc k) l))) ≡ r → beyond b (to_loop n) ≡ r
  at_loop l k b r x d m n within is loop same before = sym (ap (beyond b) (target_at l k x d within is ∙ ap (λ a. target wanted (a ∷ around_from [] (take k l))) loop ∙ ap (λ c. cond c (to_loop n) (target wanted (around_from [] (take k l)))) same)) ∙ before

-- where a loop has opened
pub opened : (w0 w1 w2 : Walk) (x : code.Around) (t : ItemNames) → with_tables t w0 ≡ w1 → with_around (w1.around ++ x ∷ []) w1 ≡ w2
    → (around_from [] w2.around ≡ around_of x ∷ around_from [] w0.around) × (above w2.around ≡ w0.around) × (w2 ≡ with_around w2.around (with_tables t w0))
opened w0 w1 w2 x t first second =
    let now : w2.around ≡ w0.around ++ x ∷ [] = sym (ap (λ (w : Walk). w.around) second) ∙ ap (λ (w : Walk). w.around ++ x ∷ []) (sym first) in (
      ap (around_from []) now ∙ around_push [] w0.around x,
      ap above now ∙ above_push w0.around x,
      sym second ∙ (λ i. with_around (ap (λ (w : Walk). w.around) second i) (sym first i)),
    )
