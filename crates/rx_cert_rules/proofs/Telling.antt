-- Tests and what they tell; loops over numbers that stop at the first that fails.
use Rattle.std.proofs.Common.{◌≡◌, ◌⊎◌, inl, inr, ℕ, ◌+◌, ◌<◌, ◌≤◌, Bool, true, false, not, refl, sym, ◌∙◌, subst, arith, true≢false}
use Rattle.std.proofs.lemmas.Bool.{cases_eq}
use Rattle.rx_cert_rules.specs.Parts.{Tells}

abbrev pub Below : (ℕ → Type 0) → ℕ → Type 0
Below P k = (i : ℕ) → i < k → P i

pub none_yet : (P : ℕ → Type 0) → Below P 0
none_yet P i h = absurd (omega (arith, h))

pub one_more : (P : ℕ → Type 0) (k : ℕ) → P k → Below P k → Below P (k + 1)
one_more P k here before i h = by (cases_eq i k) where
  by : (i ≡ k) ⊎ (i ≡ k → ⊥) → P i
  by (inl e) = subst P (sym e) here
  by (inr d) = before i (omega (arith, h, d))

pub holds : (A : Type 0) → A → Tells true A
holds A a = (λ e. a, λ b. refl)

pub fails : (A : Type 0) → (A → ⊥) → Tells false A
fails A n = (λ e. absurd (true≢false (sym e)), λ a. absurd (n a))

pub all_hold : (P : ℕ → Type 0) (n k : ℕ) → n ≤ k → Below P k → Tells true (Below P n)
all_hold P n k past before = holds (Below P n) (λ i h. before i (omega (arith, h, past)))

pub one_fails : (P : ℕ → Type 0) (n k : ℕ) → k < n → (P k → ⊥) → Tells false (Below P n)
one_fails P n k within f = fails (Below P n) (λ all. f (all k within))

pub is_so : (A : Type 0) (b : Bool) → Tells b A → b ≡ true → A
is_so A b tells e = tells.0 e

pub is_not : (A : Type 0) (b : Bool) → Tells b A → b ≡ false → A → ⊥
is_not A b tells e a = true≢false (sym (tells.1 a) ∙ e)

pub not_true : (b : Bool) → (b ≡ true → ⊥) → b ≡ false
not_true true f = absurd (f refl)
not_true false f = refl

pub not_both : (a b : Bool) → a ≡ true → b ≡ false → a ≡ b → ⊥
not_both a b e f same = true≢false (sym e ∙ same ∙ f)

pub tells_not : (A : Type 0) (b : Bool) → (b ≡ false → A) → (A → b ≡ false) → Tells (not b) A
tells_not A true f g = fails A (λ a. true≢false (g a))
tells_not A false f g = holds A (f refl)
