-- Declarations in which no struct or enum reaches itself have one table of sizes.
use Rattle.std.proofs.Common.{◌≡◌, ℕ, zero, suc, ◌+◌, ◌≤◌, inl, inr, List, [], ◌∷◌, length, slice_get}
use Rattle.std.proofs.Common.{Option, Some, None, refl, sym, ap, ◌∙◌, subst, arith}
use Rattle.std.proofs.lemmas.List.{length-map}
use Rattle.std.proofs.lemmas.Option.{slice_get_past}
use Rattle.rx_core.specs.declared.types.Kind.{Kind}
use Rattle.rx_graph_cycles.specs.Reaches.{targets, IsIn, NoCycle}
use Rattle.rx_graph_cycles.proofs.Ways.{is_in_front, is_in_behind}
use Rattle.rx_typed.specs.Types.{Typ, integer, boolean, tuple_of, reference, named, Shapes, no_shape, shape_and}
use Rattle.rx_typed.specs.Types.{shapes_of, rt_declared, struct_declared, enum_declared, function_declared}
use Rattle.rx_typed.specs.Types.{Declared, Declarations, at_least_one, parts, sum_of_parts}
use Rattle.rx_typed_declarations.specs.Held.{named_in, named_among, field_types, variant_types, held_by, held_by_each}
use Rattle.rx_typed_declarations.specs.Sizes.{declared_parts, Sized}
use Rattle.rx_typed_declarations.proofs.ItemLemmas.{held_of, targets_held}
use Rattle.rx_typed_declarations.proofs.Filling.{by_targets}

-- ---- tables that agree on what a type names

module _ (P Q : ℕ → ℕ) where
  abbrev Agree : List ℕ → Type 0
  Agree ns = (i : ℕ) → IsIn ns i → P i ≡ Q i

  mutual
    parts_agree : (t : Typ) → Agree (named_in t) → parts P t ≡ parts Q t
    parts_agree (integer k) h = refl
    parts_agree boolean h = refl
    parts_agree (tuple_of ts) h = ap at_least_one (sums_agree ts h)
    parts_agree (reference m t) h = ap suc (parts_agree t h)
    parts_agree (named i) h = h i (inl refl)

    sums_agree : (ts : Shapes Kind) → Agree (named_among ts) → sum_of_parts P ts ≡ sum_of_parts Q ts
    sums_agree no_shape h = refl
    sums_agree (shape_and t ts) h =
        let here = parts_agree t (λ i is. h i (is_in_front (named_in t) (named_among ts) i is)) in
        let later = sums_agree ts (λ i is. h i (is_in_behind (named_in t) (named_among ts) i is)) in
        rw (here, later) refl

  items_agree : (o : Option Declared) → Agree (held_of o) → declared_parts P o ≡ declared_parts Q o
  items_agree None h = refl
  items_agree (Some rt_declared) h = refl
  items_agree (Some (struct_declared c l fs)) h = ap at_least_one (sums_agree (shapes_of (field_types fs)) h)
  items_agree (Some (enum_declared c l vs)) h = ap suc (sums_agree (shapes_of (variant_types vs)) h)
  items_agree (Some (function_declared ps t)) h = refl

module _ (D : Declarations) where
  past_none : (i : ℕ) → length (held_by_each D) ≤ i → slice_get D i ≡ None
  past_none i le = slice_get_past D i (rw (sym (length-map D held_by)) le)

  -- at a number, by what it leads to
  agree_at : (P Q : ℕ → ℕ) (n : ℕ) → Agree P Q (targets (held_by_each D) n)
      → declared_parts P (slice_get D n) ≡ declared_parts Q (slice_get D n)
  agree_at P Q n h = items_agree P Q (slice_get D n) (subst (Agree P Q) (targets_held D n) h)

  pub one_size : (P Q : ℕ → ℕ) → NoCycle (held_by_each D) → Sized D P → Sized D Q → (i : ℕ) → P i ≡ Q i
  one_size P Q apart p q = by_targets (held_by_each D) (λ i. P i ≡ Q i) past step apart
    where
      past : (i : ℕ) → length (held_by_each D) ≤ i → P i ≡ Q i
      past i le =
          p i ∙ ap (declared_parts P) (past_none i le) ∙ ap (declared_parts Q) (sym (past_none i le)) ∙ sym (q i)

      step : (n : ℕ) → ((j : ℕ) → IsIn (targets (held_by_each D) n) j → P j ≡ Q j) → P n ≡ Q n
      step n h = p n ∙ agree_at P Q n h ∙ sym (q n)

  -- ---- sizes as far as so many steps tell

  parts_at : ℕ → ℕ → ℕ
  parts_at zero i = 1
  parts_at (suc n) i = declared_parts (parts_at n) (slice_get D i)

  -- from some number of steps on the size stays
  record Steady (i : ℕ) : Type 0 where
    value : ℕ
    from : ℕ
    stays : (m : ℕ) → from ≤ m → parts_at m i ≡ value

  record Enough (ns : List ℕ) : Type 0 where
    steps : ℕ
    reach : (j : ℕ) → IsIn ns j → (m : ℕ) → steps ≤ m → parts_at m j ≡ parts_at steps j

  enough : (ns : List ℕ) → ((j : ℕ) → IsIn ns j → Steady j) → Enough ns
  enough [] of = record { steps = 0; reach = λ j h. absurd h }
  enough (n ∷ ns) of = both (of n (inl refl)) (enough ns (λ j h. of j (inr h)))
    where
      both : Steady n → Enough ns → Enough (n ∷ ns)
      both a r = record { steps = a.from + r.steps; reach = reach }
        where
          reach : (j : ℕ) → IsIn (n ∷ ns) j → (m : ℕ) → a.from + r.steps ≤ m
              → parts_at m j ≡ parts_at (a.from + r.steps) j
          reach j (inl same) m le =
              let Stays : ℕ → Type 0 = λ i. parts_at m i ≡ parts_at (a.from + r.steps) i in
              subst Stays same (a.stays m (omega arith) ∙ sym (a.stays (a.from + r.steps) (omega arith)))
          reach j (inr h) m le = r.reach j h m (omega arith) ∙ sym (r.reach j h (a.from + r.steps) (omega arith))

  steady_past : (i : ℕ) → length (held_by_each D) ≤ i → Steady i
  unfolding parts_at
  steady_past i le = record { value = 1; from = 0; stays = λ m z. one m }
    where
      one : (m : ℕ) → parts_at m i ≡ 1
      one zero = refl
      one (suc m) = ap (declared_parts (parts_at m)) (past_none i le)

  steady_step : (n : ℕ) → ((j : ℕ) → IsIn (targets (held_by_each D) n) j → Steady j) → Steady n
  unfolding parts_at
  steady_step n of = by (enough (targets (held_by_each D) n) of)
    where
      by : Enough (targets (held_by_each D) n) → Steady n
      by e = record {
        value = declared_parts (parts_at e.steps) (slice_get D n);
        from = suc e.steps;
        stays = stays;
      }
        where
          stays : (m : ℕ) → suc e.steps ≤ m → parts_at m n ≡ declared_parts (parts_at e.steps) (slice_get D n)
          stays zero le = absurd (omega arith)
          stays (suc m) le = agree_at (parts_at m) (parts_at e.steps) n (λ j h. e.reach j h m (omega arith))

  module _ (all : (i : ℕ) → Steady i) where
    latest : (ns : List ℕ) → (n : ℕ) × ((j : ℕ) → IsIn ns j → (all j).from ≤ n)
    latest [] = (0, λ j h. absurd h)
    latest (i ∷ ns) = by (latest ns)
      where
        by : (n : ℕ) × ((j : ℕ) → IsIn ns j → (all j).from ≤ n)
            → (n : ℕ) × ((j : ℕ) → IsIn (i ∷ ns) j → (all j).from ≤ n)
        by r = ((all i).from + r.0, below)
          where
            below : (j : ℕ) → IsIn (i ∷ ns) j → (all j).from ≤ (all i).from + r.0
            below j (inl same) =
                let Below : ℕ → Type 0 = λ k. (all k).from ≤ (all i).from + r.0 in subst Below same (omega arith)
            below j (inr h) = let le = r.1 j h in omega arith

    steady_sized : Sized D (λ i. (all i).value)
    unfolding parts_at
    steady_sized i =
        let r = latest (targets (held_by_each D) i) in
        let m = r.0 + (all i).from in
        let here : parts_at (suc m) i ≡ (all i).value = (all i).stays (suc m) (omega arith) in
        sym here
        ∙ agree_at (parts_at m) (λ j. (all j).value) i (λ j h. let le = r.1 j h in (all j).stays m (omega arith))

  pub sizes_exist : NoCycle (held_by_each D) → (P : ℕ → ℕ) × Sized D P
  sizes_exist apart =
      let all = by_targets (held_by_each D) Steady steady_past steady_step apart in
      ((λ i. (all i).value), steady_sized all)
