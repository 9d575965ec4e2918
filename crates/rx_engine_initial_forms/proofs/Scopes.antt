-- A variable begins in both: what is in scope agrees still.
use Rattle.std.proofs.Common.{◌≡◌, ◌⊎◌, inl, inr, ℕ, Bool, true, false, nat_eq, if◌then◌else◌, List, [], ◌∷◌, Option, Some, None, refl, sym, ◌∙◌, subst, ap, eqb-true}
use Rattle.rx_lower_walks.specs.Walks.{Among, here, there}
use Rattle.rx_engine_simulation.specs.Sights.{Hold, How, through, viewed, Sight, sight, Renaming, sight_of, IsNew}
use Rattle.rx_engine_simulation.specs.Places.{IsDirect}
use Rattle.rx_engine_initial.specs.Variables.{Kept, as_itself, by_reference, Sides, LikeVariable, KnownVariables}
use Rattle.rx_engine_initial.specs.Entered.{OneMore}
use Rattle.rx_engine_initial.proofs.Ways.{same_self, other_number}
use Rattle.rx_engine_initial.proofs.Uses.{some_is, none_is}
use Rattle.rx_engine_initial_forms.specs.Agreeing.{Agrees}

module _ (S : Sides) (N : Renaming) (R : KnownVariables S) (g : Agrees S N R) (x y : ℕ) (w : How) (d : IsDirect w) (new_there : sight_of N x ≡ None) (new_here : IsNew N y) (like : LikeVariable S y x) where
  -- the new function's variable is none of those in scope, nor is the text's
  not_here : {A : Type 0} (b : ℕ) → Among (as_itself y b) R.variables → A
  not_here b i = let z = g.no_others b y i in absurd (new_here b (sight y z.0) z.1 refl)

  not_there : {A : Type 0} (a : ℕ) → Among (as_itself a x) R.variables → A
  not_there a i = let z = g.no_others x a i in none_is (sym new_there ∙ z.1)

  no_reference : {A : Type 0} → Among (by_reference y) R.variables → A
  no_reference i = let z = g.no_other_references y i in absurd (new_here z.0 (sight y z.1) z.2 refl)

  split : (a b : ℕ) → Among (as_itself a b) (as_itself y x ∷ R.variables) → ((a ≡ y) × (b ≡ x)) ⊎ Among (as_itself a b) R.variables
  split a b here = inl (refl, refl)
  split a b (there i) = inr i

  one_there : (a b c : ℕ) → Among (as_itself a b) (as_itself y x ∷ R.variables) → Among (as_itself a c) (as_itself y x ∷ R.variables) → b ≡ c
  one_there a b c i j = by (split a b i) (split a c j)
    where
      by : ((a ≡ y) × (b ≡ x)) ⊎ Among (as_itself a b) R.variables → ((a ≡ y) × (c ≡ x)) ⊎ Among (as_itself a c) R.variables → b ≡ c
      by (inl p) (inl q) = p.1 ∙ sym q.1
      by (inl p) (inr q) = not_here c (subst (λ v. Among (as_itself v c) R.variables) p.0 q)
      by (inr p) (inl q) = not_here b (subst (λ v. Among (as_itself v b) R.variables) q.0 p)
      by (inr p) (inr q) = R.one_there a b c p q

  one_here : (a b c : ℕ) → Among (as_itself a c) (as_itself y x ∷ R.variables) → Among (as_itself b c) (as_itself y x ∷ R.variables) → a ≡ b
  one_here a b c i j = by (split a c i) (split b c j)
    where
      by : ((a ≡ y) × (c ≡ x)) ⊎ Among (as_itself a c) R.variables → ((b ≡ y) × (c ≡ x)) ⊎ Among (as_itself b c) R.variables → a ≡ b
      by (inl p) (inl q) = p.0 ∙ sym q.0
      by (inl p) (inr q) = not_there b (subst (λ v. Among (as_itself b v) R.variables) p.1 q)
      by (inr p) (inl q) = not_there a (subst (λ v. Among (as_itself a v) R.variables) q.1 p)
      by (inr p) (inr q) = R.one_here a b c p q

  apart : (a b : ℕ) → Among (as_itself a b) (as_itself y x ∷ R.variables) → Among (by_reference a) (as_itself y x ∷ R.variables) → ⊥
  apart a b here (there j) = no_reference j
  apart a b (there i) (there j) = R.apart a b i j

  alike : (a b : ℕ) → Among (as_itself a b) (as_itself y x ∷ R.variables) → LikeVariable S a b
  alike a b here = like
  alike a b (there i) = R.alike a b i

  abbrev more : KnownVariables S
  more = record { variables = as_itself y x ∷ R.variables; loops = R.loops; one_there = one_there; one_here = one_here; apart = apart; alike = alike }

  -- what the longer renaming says: of the new variable, or what was said
  first_or : (z : ℕ) (e : Sight) → sight_of ((x, sight y w) ∷ N) z ≡ Some e → (P : ℕ → Sight → Type 0) → P x (sight y w) → (sight_of N z ≡ Some e → P z e) → P z e
  first_or z e h P p f = by (nat_eq z x) refl h
    where
      by : (b : Bool) → nat_eq z x ≡ b → (if b then Some (sight y w) else sight_of N z) ≡ Some e → P z e
      by true q k = subst (λ v. P v e) (sym (eqb-true z x q)) (subst (λ s. P x s) (some_is k) p)
      by false q k = f k

  -- what was said is said still
  further : (z : ℕ) (e : Sight) → sight_of N z ≡ Some e → sight_of ((x, sight y w) ∷ N) z ≡ Some e
  further z e h = ap (λ b. if b then Some (sight y w) else sight_of N z) (other_number z x (λ q. none_is (sym new_there ∙ (ap (λ v. sight_of N v) (sym q) ∙ h)))) ∙ h

  first : sight_of ((x, sight y w) ∷ N) x ≡ Some (sight y w)
  first = ap (λ b. if b then Some (sight y w) else sight_of N x) (same_self x)

  no_others : (z a : ℕ) → Among (as_itself a z) (as_itself y x ∷ R.variables) → (h : How) × (sight_of ((x, sight y w) ∷ N) z ≡ Some (sight a h)) × IsDirect h
  no_others z a here = (w, first, d)
  no_others z a (there i) = let q = g.no_others z a i in (q.0, further z (sight a q.0) q.1, q.2)

  no_other_references : (a : ℕ) → Among (by_reference a) (as_itself y x ∷ R.variables) → (z : ℕ) × (h : How) × (sight_of ((x, sight y w) ∷ N) z ≡ Some (sight a h))
  no_other_references a (there i) = let q = g.no_other_references a i in (q.0, q.1, further q.0 (sight a q.1) q.2)

  pub one_more : (T : KnownVariables S) × OneMore S R T (as_itself y x) × Agrees S ((x, sight y w) ∷ N) T
  one_more = (
    more,
    record { variables = refl; loops = refl },
    record {
      as_they_are = λ z a h e i. first_or z (sight a h) e (λ v s. IsDirect s.how → Among (as_itself s.to v) (as_itself y x ∷ R.variables)) (λ j. here) (λ q j. there (g.as_they_are z a h q j)) i;
      behind_them = λ z a h m e. first_or z (sight a (through h m)) e (λ v s. (IsDirect s.how → ⊥) → Among (by_reference s.to) (as_itself y x ∷ R.variables)) (λ n. absurd (n d)) (λ q n. there (g.behind_them z a h m q)) (λ n. n);
      seen_through = λ z a e. first_or z (sight a viewed) e (λ v s. (IsDirect s.how → ⊥) → Among (by_reference s.to) (as_itself y x ∷ R.variables)) (λ n. absurd (n d)) (λ q n. there (g.seen_through z a q)) (λ n. n);
      no_others = no_others;
      no_other_references = no_other_references;
    },
  )
