-- What a name means in a scope: a variable of that name; so variables of one name mean one.
use Rattle.std.proofs.Common.{◌≡◌, ◌≢◌, ℕ, zero, suc, ◌<◌, Bool, true, false, if◌then◌else◌, List, [], ◌∷◌, get_or, Option, Some, None, slice_get, refl, sym, ap, ◌∙◌, ◌⊎◌, inl, inr, arith}
use Rattle.std.proofs.lemmas.Bool.{cases_order}
use Rattle.rx_exits_plan.specs.Shadowed.{meant}
use Rattle.rx_exits.specs.Refusing.{same_names, same_name}

-- what is not shown to be another is this
pub not_another : (m : Option ℕ) (x : ℕ) → ((m ≢ Some x) → ⊥) → m ≡ Some x
not_another None x h = absurd (h (λ e. cc))
not_another (Some y) x h = by (cases_order y x)
  where
    apart : y ≢ x → ⊥
    apart n = h (λ e. n (cc))

    by : (y ≡ x) ⊎ ((y < x) ⊎ (x < y)) → ◌≡◌ {A = Option ℕ} (Some y) (Some x)
    by (inl e) = ap (λ (z : ℕ). Some z) e
    by (inr (inl l)) = absurd (apart (λ e. omega (arith, l, e)))
    by (inr (inr l)) = absurd (apart (λ e. omega (arith, l, e)))

module _ (names : List (List ℕ)) where
  -- by its name alone
  pub one_name : (x y : ℕ) → slice_get names x ≡ slice_get names y → (scope : List ℕ) → meant (same_name names) x scope ≡ meant (same_name names) y scope
  one_name x y e [] = refl
  one_name x y e (z ∷ zs) =
      λ j. if same_names (slice_get names z) (e j) then Some z else one_name x y e zs j

  found_named : (x z : ℕ) → same_name names z x ≡ true → (o : Option (List ℕ)) → slice_get names x ≡ o → (n : List ℕ) × (o ≡ Some n)
  found_named x z h None e =
      let f : same_names (slice_get names z) None ≡ true = ap (λ (o : Option (List ℕ)). same_names (slice_get names z) o) (sym e) ∙ h in
      absurd (nothing (slice_get names z) f)
    where
      nothing : (o : Option (List ℕ)) → same_names o None ≡ true → ⊥
      nothing None h = absurd (cc)
      nothing (Some a) h = absurd (cc)
  found_named x z h (Some n) e = (n, refl)

  -- a variable that is meant has a name
  pub has_name : (x y : ℕ) (scope : List ℕ) → meant (same_name names) x scope ≡ Some y → (n : List ℕ) × (slice_get names x ≡ Some n)
  has_name x y [] e = absurd (cc)
  has_name x y (z ∷ zs) e = by (same_name names z x) refl e (λ h. has_name x y zs h)
    where
      by : (b : Bool) → same_name names z x ≡ b → (if b then Some z else meant (same_name names) x zs) ≡ Some y
          → (meant (same_name names) x zs ≡ Some y → (n : List ℕ) × (slice_get names x ≡ Some n)) → (n : List ℕ) × (slice_get names x ≡ Some n)
      by true h e later = found_named x z h (slice_get names x) refl
      by false h e later = later e

  named_at : (x : ℕ) (n : List ℕ) → slice_get names x ≡ Some n → get_or names x [] ≡ n
  named_at x n e = at names x e
    where
      at : (ns : List (List ℕ)) (x : ℕ) → slice_get ns x ≡ Some n → get_or ns x [] ≡ n
      at [] x e = absurd (cc)
      at (m ∷ ns) zero e = cc
      at (m ∷ ns) (suc x) e = at ns x e

  -- two that are what their names mean in one scope
  pub own_names : (x y : ℕ) (scope : List ℕ) → meant (same_name names) x scope ≡ Some x → meant (same_name names) y scope ≡ Some y → get_or names x [] ≡ get_or names y [] → x ≡ y
  own_names x y scope a b e =
      let m = has_name x x scope a in
      let n = has_name y y scope b in
      let same : slice_get names x ≡ slice_get names y = m.1 ∙ ap (λ (z : List ℕ). Some z) (sym (named_at x m.0 m.1) ∙ e ∙ named_at y n.0 n.1) ∙ sym n.1 in
      let both : ◌≡◌ {A = Option ℕ} (Some x) (Some y) = sym a ∙ one_name x y same scope ∙ b in
      cc
