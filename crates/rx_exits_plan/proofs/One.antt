-- A run has one plan: of a list those variables are chosen of which something holds, and no others, so each list of the plan is told;
-- params first, then locals, the outs of each exit, and what rests on them.
use Rattle.std.proofs.Common.{◌≡◌, ◌≢◌, ◌⊎◌, inl, inr, ℕ, Bool, not, ◌&&◌, ◌||◌, if◌then◌else◌, List, [], ◌∷◌, refl, sym, ◌∙◌, subst, ap}
use Rattle.rx_lower_walks.specs.Walks.{Among, here, there}
use Rattle.rx_exits_plan.specs.Points.{Exit, next, breaks, continues, returns}
use Rattle.rx_exits_plan.specs.Occurrences.{has_number, those}
use Rattle.rx_exits_plan.specs.Asked.{Asked, IsLiveAt}
use Rattle.rx_exits_plan.specs.Plan.{Plan, Chosen, none, taken, left, IsPlan, variables_of, offered, out_of_some, is_redeclared, is_named_outside, is_loose}

one_choice : {Q : ℕ → Type 0} {l m k : List ℕ} → Chosen Q l m → Chosen Q l k → m ≡ k
one_choice none none = refl
one_choice (taken {x = x} q c) (taken r d) = ap (λ l. x ∷ l) (one_choice c d)
one_choice (taken q c) (left r d) = absurd (r q)
one_choice (left r c) (taken q d) = absurd (r q)
one_choice (left r c) (left s d) = one_choice c d

those_alike : (f g : ℕ → Bool) → ((x : ℕ) → f x ≡ g x) → (l : List ℕ) → those f l ≡ those g l
those_alike f g e [] = refl
those_alike f g e (x ∷ l) = ap (λ t. if t then x ∷ those f l else those f l) (e x) ∙ ap (λ k. if g x then x ∷ k else k) (those_alike f g e l)

later : (e : Exit) (es : List Exit) → e ≢ next → Among next es ⊎ ¬ (Among next es) → Among next (e ∷ es) ⊎ ¬ (Among next (e ∷ es))
later e es ne (inl i) = inl (there i)
later e es ne (inr n) = inr by
  where
    by : Among next (e ∷ es) → ⊥
    by h = is_it e h ne
      where
        is_it : (c : Exit) → Among next (c ∷ es) → c ≢ next → ⊥
        is_it _ here ne = ne refl
        is_it c (there i) ne = n i

module _ (A : Asked) (k m : Plan) (a : IsPlan A k) (b : IsPlan A m) where
  pub same_exits : k.exits ≡ m.exits
  same_exits = a.exits ∙ sym b.exits

  pub same_params : k.params ≡ m.params
  same_params = one_choice a.params b.params

  pub same_locals : k.locals ≡ m.locals
  same_locals = one_choice a.locals b.locals

  pub same_value : k.value ≡ m.value
  same_value = a.value ∙ sym b.value

  in_loops : (e : Exit) → Among e k.exits → e ≢ returns → k.outs e ≡ m.outs e
  in_loops e i ne =
      one_choice (a.outs e i ne) (subst (λ ps. Chosen (IsLiveAt A ps e) (offered A k.locals) (m.outs e)) (sym same_params)
      (subst (λ ls. Chosen (IsLiveAt A m.params e) (offered A ls) (m.outs e)) (sym same_locals) (b.outs e (subst (λ es. Among e es) same_exits i) ne)))

  pub same_outs : (e : Exit) → Among e k.exits → k.outs e ≡ m.outs e
  same_outs next i = in_loops next i (λ h. absurd (cc))
  same_outs (breaks l) i = in_loops (breaks l) i (λ h. absurd (cc))
  same_outs (continues l) i = in_loops (continues l) i (λ h. absurd (cc))
  same_outs returns i = a.none_returned ∙ sym b.none_returned

  of_these : (es : List Exit) (x : ℕ) → ((e : Exit) → Among e es → k.outs e ≡ m.outs e) → out_of_some es k.outs x ≡ out_of_some es m.outs x
  of_these [] x f = refl
  of_these (e ∷ es) x f = ap (λ l. has_number x l || out_of_some es k.outs x) (f e here) ∙ ap (λ t. has_number x (m.outs e) || t) (of_these es x (λ c i. f c (there i)))

  same_given : (x : ℕ) → is_loose A k x ≡ is_loose A m x
  same_given x =
      ap (λ ps. is_named_outside A x && not (has_number x ps) && not (out_of_some k.exits k.outs x)) same_params
      ∙ ap (λ t. is_named_outside A x && not (has_number x m.params) && not t) (of_these k.exits x same_outs ∙ ap (λ es. out_of_some es m.outs x) same_exits)

  pub same_loose : k.loose ≡ m.loose
  same_loose = a.loose ∙ those_alike (is_loose A k) (is_loose A m) same_given (variables_of A) ∙ sym b.loose

  -- whether the end of the run is an exit
  next_among : (es : List Exit) → Among next es ⊎ ¬ (Among next es)
  next_among [] = inr (λ h. elim h [ ])
  next_among (next ∷ es) = inl here
  next_among (breaks l ∷ es) = later (breaks l) es (λ h. absurd (cc)) (next_among es)
  next_among (continues l ∷ es) = later (continues l) es (λ h. absurd (cc)) (next_among es)
  next_among (returns ∷ es) = later returns es (λ h. absurd (cc)) (next_among es)

  same_at_end : Among next k.exits ⊎ ¬ (Among next k.exits) → k.outs next ≡ m.outs next
  same_at_end (inl i) = same_outs next i
  same_at_end (inr n) = a.none_elsewhere next n ∙ sym (b.none_elsewhere next (λ i. n (subst (λ es. Among next es) (sym same_exits) i)))

  pub same_redeclared : k.redeclared ≡ m.redeclared
  same_redeclared =
      a.redeclared ∙ ap (λ l. those (is_redeclared A l) (variables_of A)) (same_at_end (next_among k.exits)) ∙ sym b.redeclared
