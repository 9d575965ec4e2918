-- What is done to one row.
use Rattle.std.proofs.Common.{◌≡◌, ℕ, ◌+◌, ◌*◌, ◌<◌, ◌≤◌, Bool, true, false, not, ◌&&◌, ◌||◌, ◌==◌, List, [], ◌∷◌, length, get_or, drop, refl, ap, sym, ◌∙◌, subst, arith, zero, suc}
use Rattle.std.proofs.lemmas.List.{drop_more}
use Rattle.rx_graph_bits.specs.Rows.{holds, Bounded, Inserted, Removed}
use Rattle.rx_graph.specs.declared.effect.Effect.{Effect}
use Rattle.rx_graph.specs.Facts.{has, behind}
use Rattle.rx_graph.specs.Tables.{Changed, without, with}

pub nothing_out : (r : List ℕ) → Changed r r (without [])
nothing_out r = record { width = refl; holds = λ i h. refl; bounded = λ b. b }

pub nothing_in : (r : List ℕ) → Changed r r (with [])
nothing_in r = record { width = refl; holds = λ i h. refl; bounded = λ b. b }

not_either : (x xs a : Bool) → (not xs && (not x && a)) ≡ (not (x || xs) && a)
not_either true true a = refl
not_either true false a = refl
not_either false true a = refl
not_either false false a = refl

in_turn : (x xs a : Bool) → (xs || (x || a)) ≡ ((x || xs) || a)
in_turn true true a = refl
in_turn true false a = refl
in_turn false true a = refl
in_turn false false a = refl

one_out : (r s t : List ℕ) (x : ℕ) (xs : List ℕ) → Removed r s x → Bounded s → Changed s t (without xs) → Changed r t (without (x ∷ xs))
one_out r s t x xs one b more = record {
  width = more.width ∙ one.width;
  holds = λ i h. more.holds i (subst (λ n. i < 64 * n) (sym one.width) h) ∙ ap (λ c. not (has xs i) && c) (one.holds i h) ∙ not_either (i == x) (has xs i) (holds r i);
  bounded = λ _. more.bounded b;
}

one_in : (r s t : List ℕ) (x : ℕ) (xs : List ℕ) → Inserted r s x → Bounded s → Changed s t (with xs) → Changed r t (with (x ∷ xs))
one_in r s t x xs one b more = record {
  width = more.width ∙ one.width;
  holds = λ i h. more.holds i (subst (λ n. i < 64 * n) (sym one.width) h) ∙ ap (λ c. has xs i || c) (one.holds i h) ∙ in_turn (i == x) (has xs i) (holds r i);
  bounded = λ _. more.bounded b;
}

-- what is left to take out, or to put in
abbrev pub Taking : List ℕ → List ℕ → List ℕ → ℕ → Type 0
Taking old now xs k = (new : List ℕ) → Changed now new (without (drop k xs)) → Changed old new (without xs)

abbrev pub Putting : List ℕ → List ℕ → List ℕ → ℕ → Type 0
Putting old now xs k = (new : List ℕ) → Changed now new (with (drop k xs)) → Changed old new (with xs)

pub taking_more : (old now next xs : List ℕ) (k : ℕ) → k < length xs → Removed now next (get_or xs k 0) → Bounded next → Taking old now xs k → Taking old next xs (k + 1)
taking_more old now next xs k h one b before new more =
    before new (subst (λ l. Changed now new (without l)) (sym (drop_more xs k 0 h)) (one_out now next new (get_or xs k 0) (drop (k + 1) xs) one b more))

pub putting_more : (old now next xs : List ℕ) (k : ℕ) → k < length xs → Inserted now next (get_or xs k 0) → Bounded next → Putting old now xs k → Putting old next xs (k + 1)
putting_more old now next xs k h one b before new more =
    before new (subst (λ l. Changed now new (with l)) (sym (drop_more xs k 0 h)) (one_in now next new (get_or xs k 0) (drop (k + 1) xs) one b more))

none_left : (xs : List ℕ) (k : ℕ) → length xs ≤ k → drop k xs ≡ []
none_left [] zero h = refl
none_left [] (suc k) h = refl
none_left (x ∷ xs) zero h = absurd (omega (arith, h))
none_left (x ∷ xs) (suc k) h = none_left xs k (omega (arith, h))

pub taking_done : (old now xs : List ℕ) (k : ℕ) → length xs ≤ k → Taking old now xs k → Changed old now (without xs)
taking_done old now xs k h before = before now (subst (λ l. Changed now now (without l)) (sym (none_left xs k h)) (nothing_out now))

pub putting_done : (old now xs : List ℕ) (k : ℕ) → length xs ≤ k → Putting old now xs k → Changed old now (with xs)
putting_done old now xs k h before = before now (subst (λ l. Changed now now (with l)) (sym (none_left xs k h)) (nothing_in now))

-- first some are made false, then some true
pub both_changes : (r s t : List ℕ) (e : Effect) → Changed r s (without e.kills) → Changed s t (with e.gives) → Changed r t (behind e)
both_changes r s t e one more = record {
  width = more.width ∙ one.width;
  holds = λ i h. more.holds i (subst (λ n. i < 64 * n) (sym one.width) h) ∙ ap (λ c. has e.gives i || c) (one.holds i h);
  bounded = λ b. more.bounded (one.bounded b);
}
