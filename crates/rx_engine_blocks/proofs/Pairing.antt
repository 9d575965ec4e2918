-- A numbering by pairs can be undone.
use Rattle.std.proofs.Common.{◌≡◌, ℕ, ◌+◌, ◌-◌, ◌<◌, nat_eq, Bool, true, false, Option, Some, None, refl, sym, ap, ◌∙◌, eq-eqb, eqb-true, arith}
use Rattle.rx_engine_blocks.specs.Along.{PartialInverse}
use Rattle.rx_engine_blocks.specs.Paired.{Pairs, second_of, first_of_pair, or_greater, numbered, unpaired, less, or_less, numbered_back, OneToOne, by_pairs}

module _ (ps : Pairs) (big : ℕ) (o : OneToOne ps big) where
  not_second : (n : ℕ) (f : Option ℕ) → first_of_pair ps (n + big) ≡ f → f ≡ None
  not_second n None e = refl
  not_second n (Some k) e = let h : n + big < big = o.small k (n + big) (o.back k (n + big) e) in absurd (omega (arith, h))

  greater_back : (n : ℕ) → second_of ps n ≡ None → numbered_back ps big (n + big) ≡ Some n
  greater_back n e =
      let m : (n + big) - big ≡ n = omega arith in
      let l : nat_eq (((n + big) - big) + big) (n + big) ≡ true = eq-eqb _ _ (ap (λ k. k + big) m) in
      ap (λ f. or_less f ps big (n + big)) (not_second n (first_of_pair ps (n + big)) refl)
      ∙ ap (λ b. less b ps ((n + big) - big)) l
      ∙ ap (λ k. unpaired (second_of ps k) k) m ∙ ap (λ f. unpaired f n) e

  pub numbered_there : (n : ℕ) → numbered_back ps big (numbered ps big n) ≡ Some n
  numbered_there n = go (second_of ps n) refl
    where
      go : (f : Option ℕ) → second_of ps n ≡ f → numbered_back ps big (or_greater big n f) ≡ Some n
      go None e = greater_back n e
      go (Some m) e = ap (λ f. or_less f ps big m) (o.there n m e)

  pub numbered_from : (m n : ℕ) → numbered_back ps big m ≡ Some n → m ≡ numbered ps big n
  numbered_from m n e = go (first_of_pair ps m) refl e
    where
      some_same : (a b : ℕ) → ◌≡◌ {A = Option ℕ} (Some a) (Some b) → a ≡ b
      some_same a b h = cc

      none_some : (a : ℕ) → ◌≡◌ {A = Option ℕ} None (Some a) → ⊥
      none_some a h = cc

      by : (k : ℕ) → k + big ≡ m → (f : Option ℕ) → second_of ps k ≡ f → unpaired f k ≡ Some n → m ≡ numbered ps big n
      by k i None h w = sym i ∙ sym (ap (or_greater big k) h) ∙ ap (numbered ps big) (some_same k n w)
      by k i (Some l) h w = absurd (none_some n w)

      smaller : (b : Bool) → nat_eq ((m - big) + big) m ≡ b → less b ps (m - big) ≡ Some n → m ≡ numbered ps big n
      smaller true h w = by (m - big) (eqb-true _ _ h) (second_of ps (m - big)) refl w
      smaller false h w = absurd (none_some n w)

      go : (f : Option ℕ) → first_of_pair ps m ≡ f → or_less f ps big m ≡ Some n → m ≡ numbered ps big n
      go None h w = smaller (nat_eq ((m - big) + big) m) refl w
      go (Some k) h w = sym (ap (or_greater big n) (o.back n m (h ∙ w)))

pub pairs_inverse : (ns xs : Pairs) (big : ℕ) (items : ℕ → ℕ) → OneToOne ns big → OneToOne xs big → PartialInverse (by_pairs ns xs big items)
pairs_inverse ns xs big items o p = record {
  node = numbered_back ns big;
  node_there = numbered_there ns big o;
  variable = numbered_back xs big;
  variable_there = numbered_there xs big p;
  variable_back = numbered_from xs big p;
}
