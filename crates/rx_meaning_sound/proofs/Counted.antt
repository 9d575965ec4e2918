-- As many numbers as there are below one, each of which is among them, are apart.
use Rattle.std.proofs.Common.{◌≡◌, ◌⊎◌, inl, inr, ℕ, zero, suc, ◌+◌, ◌<◌, ◌≤◌, Bool, true, false, List, [], ◌∷◌, length, refl, sym, ap, ◌∙◌, subst, arith}
use Rattle.std.specs.Prelude.{nat_eq}
use Rattle.std.proofs.lemmas.Bool.{eqb-true, eq-eqb, true≢false}

abbrev pub Has : ℕ → List ℕ → Type 0
Has k [] = ⊥
Has k (j ∷ js) = (k ≡ j) ⊎ Has k js

abbrev pub Apart : List ℕ → Type 0
Apart [] = Unit {0}
Apart (j ∷ js) = (Has j js → ⊥) × Apart js

-- without one of them
record Without (k : ℕ) (l : List ℕ) : Type 0 where
  rest : List ℕ
  one_less : length l ≡ suc (length rest)
  others : (m : ℕ) → (m ≡ k → ⊥) → Has m l → Has m rest

without : (k : ℕ) (l : List ℕ) → Has k l → Without k l
without k [] h = absurd h
without k (j ∷ l) (inl e) = record { rest = l; one_less = refl; others = λ m n h. by m n h }
  where
    by : (m : ℕ) → (m ≡ k → ⊥) → (m ≡ j) ⊎ Has m l → Has m l
    by m n (inl q) = absurd (n (q ∙ sym e))
    by m n (inr r) = r
without k (j ∷ l) (inr h) = behind k j l (without k l h)
  where
    behind : (k j : ℕ) (l : List ℕ) → Without k l → Without k (j ∷ l)
    behind k j l t = record { rest = j ∷ t.rest; one_less = ap suc t.one_less; others = λ m n g. by m n g }
      where
        by : (m : ℕ) → (m ≡ k → ⊥) → (m ≡ j) ⊎ Has m l → Has m (j ∷ t.rest)
        by m n (inl q) = inl q
        by m n (inr r) = inr (t.others m n r)

at_least : (n : ℕ) (l : List ℕ) → ((k : ℕ) → k < n → Has k l) → n ≤ length l
at_least zero l h = omega arith
at_least (suc n) l h =
    let t = without n l (h n (omega arith)) in
    let s = at_least n t.rest (λ k g. t.others k (λ q. omega (arith, g, q)) (h k (omega (arith, g)))) in
    let e = t.one_less in omega (arith, s, e)

has_or : (j : ℕ) (js : List ℕ) → Has j js ⊎ (Has j js → ⊥)
has_or j [] = inr (λ h. h)
has_or j (k ∷ js) = by (nat_eq j k) refl (has_or j js)
  where
    neither : (nat_eq j k ≡ false) → (Has j js → ⊥) → (j ≡ k) ⊎ Has j js → ⊥
    neither q n (inl e) = true≢false (sym (eq-eqb j k e) ∙ q)
    neither q n (inr h) = n h

    by : (b : Bool) → nat_eq j k ≡ b → Has j js ⊎ (Has j js → ⊥) → Has j (k ∷ js) ⊎ (Has j (k ∷ js) → ⊥)
    by true q x = inl (inl (eqb-true j k q))
    by false q (inl h) = inl (inr h)
    by false q (inr n) = inr (neither q n)

-- a list with the same numbers that is shorter
record Shorter (js : List ℕ) : Type 0 where
  rest : List ℕ
  one_less : length js ≡ suc (length rest)
  all : (k : ℕ) → Has k js → Has k rest

apart_or : (js : List ℕ) → Apart js ⊎ Shorter js
apart_or [] = inl tt
apart_or (j ∷ js) = by (has_or j js) (apart_or js)
  where
    twice : Has j js → (k : ℕ) → (k ≡ j) ⊎ Has k js → Has k js
    twice h k (inl e) = subst (λ (m : ℕ). Has m js) (sym e) h
    twice h k (inr r) = r

    later : (t : Shorter js) (k : ℕ) → (k ≡ j) ⊎ Has k js → Has k (j ∷ t.rest)
    later t k (inl e) = inl e
    later t k (inr r) = inr (t.all k r)

    by : Has j js ⊎ (Has j js → ⊥) → Apart js ⊎ Shorter js → Apart (j ∷ js) ⊎ Shorter (j ∷ js)
    by (inl h) x = inr (record { rest = js; one_less = refl; all = twice h })
    by (inr n) (inl a) = inl (n, a)
    by (inr n) (inr t) = inr (record { rest = j ∷ t.rest; one_less = ap suc t.one_less; all = later t })

pub all_apart : (n : ℕ) (js : List ℕ) → length js ≡ n → ((k : ℕ) → k < n → Has k js) → Apart js
all_apart n js e h = by (apart_or js)
  where
    by : Apart js ⊎ Shorter js → Apart js
    by (inl a) = a
    by (inr t) = let s = at_least n t.rest (λ k g. t.all k (h k g)) in let q = t.one_less in absurd (omega (arith, s, q, e))
