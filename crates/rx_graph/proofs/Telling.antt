-- The least table of rows has the facts that hold.
use Rattle.std.proofs.Common.{◌≡◌, ◌⊎◌, inl, inr, ℕ, ◌*◌, ◌<◌, Bool, true, false, not, ◌&&◌, ◌||◌, ◌==◌, List, [], length, get_or, slice_get, Some, refl, ap, sym, ◌∙◌, subst, arith, true≢false}
use Rattle.std.proofs.lemmas.Bool.{eq-eqb, eqb-true}
use Rattle.std.proofs.lemmas.Option.{slice_get-get_or}
use Rattle.rx_graph_bits.specs.Rows.{holds, words}
use Rattle.rx_graph.specs.declared.effect.Effect.{Effect}
use Rattle.rx_graph.specs.declared.effect.Start.{Start}
use Rattle.rx_graph.specs.ByEffects.{rules, beginning}
use Rattle.rx_graph.specs.Equations.{Derived, Solves}
use Rattle.rx_graph.specs.Equations as equations
use Rattle.rx_graph.specs.Facts.{has, targets, effect_of, behind, Holds}
use Rattle.rx_graph.specs.Facts as facts
use Rattle.rx_graph.specs.Tables.{at, Tells}
use Rattle.rx_graph.proofs.Spreading.{one_of, both_of, or_true}
use Rattle.rx_graph.proofs.Working.{leads}

or_nothing : (a : Bool) → (a || false) ≡ a
or_nothing true = refl
or_nothing false = refl

negated : (b : Bool) → not b ≡ true → b ≡ false
negated true h = absurd (true≢false (sym h))
negated false h = refl

module _ (edges : List (List ℕ)) (effects : List Effect) (start : Start) (bound : ℕ) where
  begun : (p i : ℕ) → beginning start p i false ≡ true → Holds edges effects start i p
  begun p i h = let b = both_of (p == start.site) (has start.facts i) (sym (or_nothing (p == start.site && has start.facts i)) ∙ h) in
      subst (λ q. Holds edges effects start i q) (sym (eqb-true p start.site b.0)) (facts.begins b.1)

  stepped : (p q i : ℕ) (before : Bool) → has (targets edges q) p ≡ true → (before ≡ true → Holds edges effects start i q)
      → behind (effect_of (slice_get effects q)) i before ≡ true → Holds edges effects start i p
  stepped p q i before t first h = by (one_of (has (effect_of (slice_get effects q)).gives i) (not (has (effect_of (slice_get effects q)).kills i) && before) h) where
    by : (has (effect_of (slice_get effects q)).gives i ≡ true) ⊎ ((not (has (effect_of (slice_get effects q)).kills i) && before) ≡ true) → Holds edges effects start i p
    by (inl g) = facts.given q t g
    by (inr k) = let b = both_of (not (has (effect_of (slice_get effects q)).kills i)) before k in facts.stays q t (first b.1) (negated _ b.0)

  -- what comes to a site holds there
  sound : (p : ℕ) (a : List ℕ) → Derived (rules effects start bound) edges p a → (i : ℕ) → i < 64 * words bound → holds a i ≡ true → Holds edges effects start i p
  sound p a (equations.begins h) i w e = begun p i (sym (h i w) ∙ e)
  sound p d (equations.comes q a v c t first s more j) i w e =
      by (sound p c more i w) (λ k. stepped p q i (holds a i) t (sound q a first i w) (sym (s i w) ∙ k)) (one_of (holds c i) (holds v i) (sym (j i) ∙ e)) where
        by : (holds c i ≡ true → Holds edges effects start i p) → (holds v i ≡ true → Holds edges effects start i p) → (holds c i ≡ true) ⊎ (holds v i ≡ true) → Holds edges effects start i p
        by f g (inl x) = f x
        by f g (inr x) = g x

  module _ (T : List (List ℕ)) (h : Solves (rules effects start bound) edges T) where
    row : (p : ℕ) → p < length edges → slice_get T p ≡ Some (get_or T p [])
    row p k = slice_get-get_or T p [] (subst (λ n. p < n) (sym h.meets.count) k)

    after : (q p i : ℕ) → p < length edges → i < 64 * words bound → has (targets edges q) p ≡ true → behind (effect_of (slice_get effects q)) i (at T q i) ≡ true → at T p i ≡ true
    after q p i k w t e = let o = h.meets.follows q p (get_or T q []) (get_or T p []) t (row q (leads edges q p t)) (row p k) in o.2 i w (o.1 i w ∙ e)

    -- what holds at a site stands there
    complete : (i p : ℕ) → p < length edges → i < 64 * words bound → Holds edges effects start i p → at T p i ≡ true
    complete i p k w (facts.begins e) = let o = h.meets.begins p (get_or T p []) (row p k) in
        o.2 i w (o.1 i w ∙ or_nothing (p == p && has start.facts i) ∙ ap (λ b. b && has start.facts i) (eq-eqb p p refl) ∙ e)
    complete i p k w (facts.given q t e) = after q p i k w t (ap (λ b. b || (not (has (effect_of (slice_get effects q)).kills i) && at T q i)) e)
    complete i p k w (facts.stays q t e x) = after q p i k w t
        (ap (λ b. has (effect_of (slice_get effects q)).gives i || (not b && at T q i)) x
        ∙ ap (λ b. has (effect_of (slice_get effects q)).gives i || b) (complete i q (leads edges q p t) w e) ∙ or_true _)

    pub tells : Tells edges effects start bound T
    tells = record {
      count = h.meets.count;
      exact = λ p i k j. (λ e. sound p (get_or T p []) (h.derived p (get_or T p []) (row p k)) i (small i j) e, λ e. complete i p k (small i j) e);
    } where
      small : (i : ℕ) → i < bound → i < 64 * words bound
      small i j = omega (arith, j)
