-- Where no struct or enum reaches itself, what each holds ends within as many levels as there are items.
use Rattle.std.proofs.Common.{◌≡◌, ℕ, zero, suc, ◌+◌, ◌-◌, ◌<◌, ◌≤◌, Bool, true, false, List, [], ◌∷◌, ◌++◌, length, map, replicate, Option, Some, None, slice_get, slice_set, refl, sym, ap, ◌∙◌, subst, ◌⊎◌, inl, inr, ⊎_elim, arith}
use Rattle.std.proofs.lemmas.List.{length-map}
use Rattle.rx_core.specs.declared.types.Kind.{Kind}
use Rattle.rx_graph_cycles.specs.Reaches.{targets, IsIn, NoCycle}
use Rattle.rx_graph_cycles.specs.Orders.{Behind, InOrder}
use Rattle.rx_graph_cycles.proofs.Ways.{is_in_front, is_in_behind}
use Rattle.rx_graph_cycles.proofs.Placing.{order_exists}
use Rattle.rx_typed.specs.Types.{Typ, integer, boolean, tuple_of, reference, named, Shapes, no_shape, shape_and, shapes_of, Declared, Declarations, VariantDeclared, parts_declared}
use Rattle.rx_typed_declarations.specs.Held.{named_in, named_among, held_by, held_by_each, variant_types}
use Rattle.rx_cover.specs.Finite.{held_at, Each, EachOf, Within, Finite, expanse, expanse_all, item_expanse, expanse_in, all_in}

module _ (P : ℕ → Type 0) where
  mutual
    each_named : (t : Typ) → ((i : ℕ) → IsIn (named_in t) i → P i) → Each P t
    each_named (integer k) h = tt
    each_named boolean h = tt
    each_named (tuple_of ts) h = each_among ts h
    each_named (reference m t) h = each_named t h
    each_named (named i) h = h i (inl refl)

    each_among : (ts : Shapes Kind) → ((i : ℕ) → IsIn (named_among ts) i → P i) → EachOf P ts
    each_among no_shape h = tt
    each_among (shape_and t ts) h = (each_named t (λ i is. h i (is_in_front (named_in t) (named_among ts) i is)), each_among ts (λ i is. h i (is_in_behind (named_in t) (named_among ts) i is)))

module _ (P Q : ℕ → Type 0) (f : (i : ℕ) → P i → Q i) where
  mutual
    each_of : (t : Typ) → Each P t → Each Q t
    each_of (integer k) h = tt
    each_of boolean h = tt
    each_of (tuple_of ts) h = all_of ts h
    each_of (reference m t) h = each_of t h
    each_of (named i) h = f i h

    all_of : (ts : Shapes Kind) → EachOf P ts → EachOf Q ts
    all_of no_shape h = tt
    all_of (shape_and t ts) h = (each_of t h.0, all_of ts h.1)

module _ (P : ℕ → Type 0) (f g : ℕ → ℕ) (same : (i : ℕ) → P i → f i ≡ g i) where
  mutual
    expanse_same : (t : Typ) → Each P t → expanse f t ≡ expanse g t
    expanse_same (integer k) h = refl
    expanse_same boolean h = refl
    expanse_same (tuple_of ts) h = ap suc (expanses_same ts h)
    expanse_same (reference m t) h = ap suc (expanse_same t h)
    expanse_same (named i) h = same i h

    expanses_same : (ts : Shapes Kind) → EachOf P ts → expanse_all f ts ≡ expanse_all g ts
    expanses_same no_shape h = refl
    expanses_same (shape_and t ts) h = let a = expanse_same t h.0 in let b = expanses_same ts h.1 in omega (arith, a, b)

expanse_append : (P : ℕ → ℕ) (ts us : List Typ) → expanse_all P (shapes_of us) ≤ expanse_all P (shapes_of (ts ++ us))
expanse_append P [] us = omega arith
expanse_append P (t ∷ ts) us = let h = expanse_append P ts us in omega (arith, h)

expanse_front : (P : ℕ → ℕ) (ts us : List Typ) → expanse_all P (shapes_of ts) ≤ expanse_all P (shapes_of (ts ++ us))
expanse_front P [] us = one (shapes_of us)
  where
    one : (l : Shapes Kind) → 1 ≤ expanse_all P l
    one no_shape = omega arith
    one (shape_and t l) = let h = one l in omega (arith, h)
expanse_front P (t ∷ ts) us = let h = expanse_front P ts us in omega (arith, h)

pub variant_expanse : (P : ℕ → ℕ) (vs : List VariantDeclared) (k : ℕ) → expanse_all P (shapes_of (parts_declared (slice_get vs k))) ≤ expanse_all P (shapes_of (variant_types vs))
variant_expanse P [] k = omega arith
variant_expanse P (v ∷ vs) zero = expanse_front P v.parts (variant_types vs)
variant_expanse P (v ∷ vs) (suc k) = let a = variant_expanse P vs k in let b = expanse_append P v.parts (variant_types vs) in omega (arith, a, b)

module _ (D : Declarations) where
  one_level_more : (l i : ℕ) → Within D l i → Within D (suc l) i
  one_level_more zero i h = absurd h
  one_level_more (suc l) i h = all_of (Within D l) (Within D (suc l)) (one_level_more l) (shapes_of (held_at (slice_get D i))) h

  more_levels : (k l i : ℕ) → Within D l i → Within D (k + l) i
  more_levels zero l i h = subst (λ n. Within D n i) (let e : l ≡ 0 + l = omega arith in e) h
  more_levels (suc k) l i h = subst (λ n. Within D n i) (let e : suc (k + l) ≡ suc k + l = omega arith in e) (one_level_more (k + l) i (more_levels k l i h))

  trues : List Bool → ℕ
  trues [] = 0
  trues (true ∷ m) = suc (trues m)
  trues (false ∷ m) = trues m

  trues_most : (m : List Bool) → trues m ≤ length m
  unfolding trues
  trues_most [] = omega arith
  trues_most (true ∷ m) = let h = trues_most m in omega (arith, h)
  trues_most (false ∷ m) = let h = trues_most m in omega (arith, h)

  trues_none : (n : ℕ) (j : ℕ) → slice_get (replicate n false) j ≡ Some true → ⊥
  trues_none zero j e = cc
  trues_none (suc n) zero e = cc
  trues_none (suc n) (suc j) e = trues_none n j e

  trues_set : (m : List Bool) (n : ℕ) → slice_get m n ≡ Some false → trues (slice_set m n true) ≡ suc (trues m)
  unfolding trues
  trues_set [] n e = cc
  trues_set (true ∷ m) zero e = cc
  trues_set (false ∷ m) zero e = refl
  trues_set (true ∷ m) (suc n) e = ap suc (trues_set m n e)
  trues_set (false ∷ m) (suc n) e = trues_set m n e

  set_from : (m : List Bool) (n j : ℕ) → slice_get (slice_set m n true) j ≡ Some true → (n ≡ j) ⊎ (slice_get m j ≡ Some true)
  set_from [] n j e = cc
  set_from (b ∷ m) zero zero e = inl refl
  set_from (b ∷ m) zero (suc j) e = inr e
  set_from (b ∷ m) (suc n) zero e = inr e
  set_from (b ∷ m) (suc n) (suc j) e = ⊎_elim (λ s. inl (ap suc s)) (λ h. inr h) (set_from m n j e)

  set_has : (m : List Bool) (n j : ℕ) → slice_get m j ≡ Some true → slice_get (slice_set m n true) j ≡ Some true
  set_has [] n j e = e
  set_has (b ∷ m) zero zero e = refl
  set_has (b ∷ m) zero (suc j) e = e
  set_has (b ∷ m) (suc n) zero e = e
  set_has (b ∷ m) (suc n) (suc j) e = set_has m n j e

  set_is : (m : List Bool) (n : ℕ) (b : Bool) → slice_get m n ≡ Some b → slice_get (slice_set m n true) n ≡ Some true
  set_is [] n b e = cc
  set_is (c ∷ m) zero b e = refl
  set_is (c ∷ m) (suc n) b e = set_is m n b e

  length_kept : (m : List Bool) (n : ℕ) → length (slice_set m n true) ≡ length m
  length_kept [] n = refl
  length_kept (b ∷ m) zero = refl
  length_kept (b ∷ m) (suc n) = ap suc (length_kept m n)

  past : (m : List Bool) (n : ℕ) → slice_get m n ≡ None → n < length m → ⊥
  past [] n e l = omega (arith, l)
  past (b ∷ m) zero e l = cc
  past (b ∷ m) (suc n) e l = past m n e (omega (arith, l))

  -- marked items end within as many levels as there are
  record Ended (done : List Bool) (before : List ℕ) : Type 0 where
    whole : length done ≡ length D
    placed : (j : ℕ) → j < length D → IsIn before j → slice_get done j ≡ Some true
    ended : (j : ℕ) → slice_get done j ≡ Some true → Within D (suc (trues done)) j

  nothing_past : (ds : List Declared) (j : ℕ) → (j < length ds → ⊥) → held_at (slice_get ds j) ≡ []
  nothing_past [] j n = refl
  nothing_past (d ∷ ds) zero n = absurd (n (omega arith))
  nothing_past (d ∷ ds) (suc j) n = nothing_past ds j (λ l. n (omega (arith, l)))

  past_ends : (l j : ℕ) → (j < length D → ⊥) → Within D (suc l) j
  past_ends l j n = let e = nothing_past D j n in subst (λ ts. EachOf (Within D l) (shapes_of ts)) (sym e) tt

  named_at : (ds : List Declared) (n : ℕ) → named_among (shapes_of (held_at (slice_get ds n))) ≡ targets (map held_by ds) n
  named_at [] n = refl
  named_at (d ∷ ds) zero = refl
  named_at (d ∷ ds) (suc n) = named_at ds n

  below_or_not : (j n : ℕ) → (j < n) ⊎ (j < n → ⊥)
  below_or_not j zero = inr (λ l. omega (arith, l))
  below_or_not zero (suc n) = inl (omega arith)
  below_or_not (suc j) (suc n) = ⊎_elim (λ a. inl (omega (arith, a))) (λ b. inr (λ l. b (omega (arith, l)))) (below_or_not j n)

  held_length : length (held_by_each D) ≡ length D
  held_length = length-map D held_by

  item_ends : (done : List Bool) (before : List ℕ) (n : ℕ) → Ended done before
      → ((j : ℕ) → j < length (held_by_each D) → IsIn (targets (held_by_each D) n) j → IsIn before j) → Within D (suc (suc (trues done))) n
  item_ends done before n e b = each_among (Within D (suc (trues done))) (shapes_of (held_at (slice_get D n)))
      (λ j is. ⊎_elim (λ l. e.ended j (e.placed j l (b j (subst (λ m. j < m) (sym held_length) l) (subst (λ ns. IsIn ns j) (named_at D n) is)))) (λ p. past_ends (trues done) j p) (below_or_not j (length D)))

  record AllEnded (order : List ℕ) (before : List ℕ) : Type 0 where
    levels : ℕ
    few : levels ≤ length D
    each : (j : ℕ) → j < length D → IsIn order j ⊎ IsIn before j → Within D (suc levels) j

  all_end : (order before : List ℕ) (done : List Bool) → Ended done before → Behind (held_by_each D) before order → AllEnded order before
  all_end [] before done e b = record {
    levels = trues done;
    few = let h = trues_most done in let w = e.whole in omega (arith, h, w);
    each = λ j l is. ⊎_elim (λ a. absurd a) (λ h. e.ended j (e.placed j l h)) is;
  }
  all_end (n ∷ ns) before done e b = by (slice_get done n) refl
      (λ d f. let r = all_end ns (n ∷ before) d f b.1 in record { levels = r.levels; few = r.few; each = λ j l is. r.each j l (⊎_elim (λ h. ⊎_elim (λ s. inr (inl s)) (λ q. inl q) h) (λ h. inr (inr h)) is) })
    where
      here : Within D (suc (suc (trues done))) n
      here = item_ends done before n e b.0

      by : (o : Option Bool) → slice_get done n ≡ o → ((d : List Bool) → Ended d (n ∷ before) → AllEnded (n ∷ ns) before) → AllEnded (n ∷ ns) before
      by None is k = k done (record { whole = e.whole; placed = λ j l h. ⊎_elim (λ s. absurd (past done n is (let w = e.whole in omega (arith, w, s, l)))) (λ q. e.placed j l q) h; ended = e.ended })
      by (Some true) is k = k done (record { whole = e.whole; placed = λ j l h. ⊎_elim (λ s. subst (λ m. slice_get done m ≡ Some true) s is) (λ q. e.placed j l q) h; ended = e.ended })
      by (Some false) is k = k (slice_set done n true) (record {
        whole = length_kept done n ∙ e.whole;
        placed = λ j l h. ⊎_elim (λ s. subst (λ m. slice_get (slice_set done n true) m ≡ Some true) s (set_is done n false is)) (λ q. set_has done n j (e.placed j l q)) h;
        ended = λ j h. subst (λ m. Within D (suc m) j) (sym (trues_set done n is)) (⊎_elim (λ s. subst (λ m. Within D (suc (suc (trues done))) m) s here) (λ q. one_level_more (suc (trues done)) j (e.ended j q)) (set_from done n j h));
      })

  no_length : (n : ℕ) → length (replicate n false) ≡ n
  no_length zero = refl
  no_length (suc n) = ap suc (no_length n)

  pub finite : NoCycle (held_by_each D) → Finite D
  finite apart = record { each = each }
    where
      order : (o : List ℕ) × InOrder (held_by_each D) o
      order = order_exists (held_by_each D) apart

      ends : AllEnded order.0 []
      ends = all_end order.0 [] (replicate (length D) false)
          (record { whole = no_length (length D); placed = λ j l h. absurd h; ended = λ j h. absurd (trues_none (length D) j h) }) order.1.behind

      difference : (a b : ℕ) → a ≤ b → (k : ℕ) × (k + a ≡ b)
      difference a b l = (b - a, omega (arith, l))

      each : (i : ℕ) → Within D (suc (length D)) i
      each i = ⊎_elim (λ l. let d = difference ends.levels (length D) ends.few in
          subst (λ n. Within D n i) (let e = d.1 in let q : d.0 + suc ends.levels ≡ suc (length D) = omega (arith, e) in q)
          (more_levels d.0 (suc ends.levels) i (ends.each i l (inl (order.1.all i (subst (λ m. i < m) (sym held_length) l))))))
          (λ p. past_ends (length D) i p) (below_or_not i (length D))

  steady : (l i : ℕ) → Within D l i → item_expanse D (suc l) i ≡ item_expanse D l i
  steady zero i h = absurd h
  steady (suc l) i h = ap suc (expanses_same (Within D l) (item_expanse D (suc l)) (item_expanse D l) (steady l) (shapes_of (held_at (slice_get D i))) h)

  -- what an item holds has less
  pub held_expanse : Finite D → (i : ℕ) → suc (all_in D (held_at (slice_get D i))) ≡ expanse_in D (named i)
  held_expanse f i = ap suc (expanses_same (Within D (length D)) (item_expanse D (suc (length D))) (item_expanse D (length D)) (steady (length D)) (shapes_of (held_at (slice_get D i))) (f.each i))
