-- As much is known of the lifetimes of a short signature as of those that they were: by numbers that go on behind them.
use Rattle.std.proofs.Common.{◌≡◌, ◌↔◌, ◌⊎◌, inl, inr, ℕ, ◌-◌, ◌+◌, ◌<◌, ◌≤◌, List, map, Some, slice_get, sym, ap, subst, ◌∙◌, arith, if◌then◌else◌, lt-ltb, le-ltb}
use Rattle.std.proofs.lemmas.Bool.{cases_lt}
use Rattle.rx_typed.specs.declared.declarations.Decl.{Decl}
use Rattle.rx_typed.specs.declared.declarations.Decl.TheVariants as decl
use Rattle.rx_typed.specs.PlainTypes.{declarations}
use Rattle.rx_typed.specs.Regions.{regions_of, region-Ty}
use Rattle.rx_region_outlives.specs.Implied.{HasPair}
use Rattle.rx_typeck_typed.specs.Bindings.{lifetimes}
use Rattle.rx_repair.proofs.Parameters.{Fitting}
use Rattle.rx_compact.specs.Outliving as outliving
use Rattle.rx_compact.specs.Outliving.{Outlives}
use Rattle.rx_compact_laws.specs.MergedSignatures.{IsUnder, MergesKnown}
use Rattle.rx_compact_laws.proofs.Merging.{knows_the_same}
use Rattle.rx_compact_types.specs.ShortLets.{extended}
use Rattle.rx_compact_accepted.proofs.Below.{type_below, types_below, bounds_below, type_agrees, types_agree}
use Rattle.rx_compact_accepted.proofs.Function.{BothFit}

module _ (i : ℕ) (f : ℕ → ℕ) (D E : List Decl) (B : BothFit i f D E) where
  abbrev S : IsUnder f (slice_get D i) (slice_get E i)
  S = B.short.like.under

  abbrev g : ℕ → ℕ
  g = extended f S.count S.new_count

  own_is : (l : ℕ) → l < S.count → g l ≡ f l
  own_is l w = ap (λ b. if b then f l else (l - S.count) + S.new_count) (lt-ltb l S.count w)

  behind_is : (l : ℕ) → S.count ≤ l → g l ≡ (l - S.count) + S.new_count
  behind_is l w = ap (λ b. if b then f l else (l - S.count) + S.new_count) (le-ltb l S.count w)

  count_is : lifetimes (slice_get D i) ≡ S.count
  count_is = ap lifetimes S.old

  new_count_is : lifetimes (slice_get E i) ≡ S.new_count
  new_count_is = ap lifetimes S.new

  within : (l : ℕ) → l < S.count → f l < S.new_count
  within l w = subst (λ x. f l < x) new_count_is (B.short.numbers.within l (subst (λ x. l < x) (sym count_is) w))

  fit : Fitting (declarations D) (Some (decl.Func S.count S.params S.answer S.bounds))
  fit = subst (Fitting (declarations D)) S.old (B.fitting i)

  below : (l k : ℕ) → HasPair S.bounds l k → (l < S.count) × (k < S.count)
  below = bounds_below S.count S.bounds fit.bounds

  under : IsUnder g (slice_get D i) (slice_get E i)
  under = record {
    count = S.count;
    params = S.params;
    answer = S.answer;
    bounds = S.bounds;
    old = S.old;
    new_count = S.new_count;
    new_params = S.new_params;
    new_answer = S.new_answer;
    new_bounds = S.new_bounds;
    new = S.new;
    params_are = S.params_are ∙ types_agree f g (regions_of (map region-Ty S.params)) (λ l w. sym (own_is l (types_below (declarations D) S.count (regions_of (map region-Ty S.params)) fit.params l w)));
    answer_is = S.answer_is ∙ type_agrees f g (region-Ty S.answer) (λ l w. sym (own_is l (type_below (declarations D) S.count (region-Ty S.answer) fit.answer l w)));
    bounds_are = record {
      kept = λ l k w.
          let c = below l k w in
          elim (S.bounds_are.kept l k w) [
            | inl e ↦ inl (own_is l c.0 ∙ (e ∙ sym (own_is k c.1)))
            | inr v ↦ inr (subst (λ x. HasPair S.new_bounds x (g k)) (sym (own_is l c.0)) (subst (λ x. HasPair S.new_bounds (f l) x) (sym (own_is k c.1)) v))
          ];
      only = λ x y w.
          let r = S.bounds_are.only x y w in
          let c = below r.0 r.1 r.2 in
          (r.0, r.1, r.2, r.3 ∙ sym (own_is r.0 c.0), r.4 ∙ sym (own_is r.1 c.1));
    };
  }

  merges : MergesKnown D (slice_get D i) g
  merges l k e = by (cases_lt l S.count) (cases_lt k S.count)
    where
      by : (l < S.count) ⊎ (S.count ≤ l) → (k < S.count) ⊎ (S.count ≤ k) → Outlives D (slice_get D i) l k
      by (inl w) (inl v) = B.short.numbers.known l k (subst (λ x. l < x) (sym count_is) w) (subst (λ x. k < x) (sym count_is) v) (sym (own_is l w) ∙ (e ∙ own_is k v))
      by (inl w) (inr v) = let a = own_is l w in let b = behind_is k v in let c = within l w in absurd (omega (arith, a, b, c, e))
      by (inr w) (inl v) = let a = behind_is l w in let b = own_is k v in let c = within k v in absurd (omega (arith, a, b, c, e))
      by (inr w) (inr v) = let a = behind_is l w in let b = behind_is k v in let c : l ≡ k = omega (arith, a, b, e, w, v) in subst (λ x. Outlives D (slice_get D i) l x) c outliving.itself

  pub as_much_known : (l k : ℕ) → l < lifetimes (slice_get D i) → k < lifetimes (slice_get D i) → Outlives E (slice_get E i) (f l) (f k) ↔ Outlives D (slice_get D i) l k
  as_much_known l k w v =
      let r = knows_the_same D E (slice_get D i) (slice_get E i) g B.short.held under merges l k in
      let x = own_is l (subst (λ n. l < n) count_is w) in
      let y = own_is k (subst (λ n. k < n) count_is v) in
      subst (λ m. Outlives E (slice_get E i) m (f k) ↔ Outlives D (slice_get D i) l k) x (subst (λ m. Outlives E (slice_get E i) (g l) m ↔ Outlives D (slice_get D i) l k) y r)
