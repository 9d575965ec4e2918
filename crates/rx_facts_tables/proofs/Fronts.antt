-- Fronts of ways.
use Rattle.std.proofs.Common.{◌≡◌, ◌⊎◌, inl, inr, ℕ, zero, suc, ◌+◌, ◌<◌, ◌≤◌, Bool, true, false, not, ◌&&◌, ◌==◌, List, [], ◌∷◌, length, take, drop, get_or, Result, Ok, Err, OnOk, Some, refl, ap, sym, ◌∙◌, subst, arith, true≢false}
use Rattle.std.specs.declared.alloc.AllocError.{AllocError}
use Rattle.std.proofs.lemmas.Option.{slice_get_read}
use Rattle.std.proofs.lemmas.Bool.{cases_eq}
use Rattle.std.proofs.lemmas.Bool.Decides.{Decides-eqb}
use Rattle.rx_core.specs.declared.types.Step.{Step}
use Rattle.rx_core.specs.declared.types.Step.TheVariants as step
use Rattle.rx_core.specs.declared.types.Place.{Place}
use Rattle.rx_typed.specs.Tree.{variable, Temporary}
use Rattle.rx_lower_walks.specs.Actions.{Act, Write}
use Rattle.rx_facts_tables.specs.Setting.{is_behind}
use Rattle.rx_typed.specs.TypedPlaces.{same_step, is_front, same_steps}
use Rattle.rx_facts_tables.specs.Wholes.{holds_in}
use Rattle.rx_facts_tables.specs.Tables.{Kept, Keeps, KeepsFor}

pub both_true : (a b : Bool) → (a && b) ≡ true → (a ≡ true) × (b ≡ true)
both_true true b h = (refl, h)
both_true false b h = absurd (true≢false (sym h))

pub not_so : (b : Bool) → not b ≡ true → b ≡ false
not_so true h = absurd (true≢false (sym h))
not_so false h = refl

pub same_step_is : (a b : Step) → same_step a b ≡ true → a ≡ b
same_step_is (step.Field i) (step.Field j) h = ap (λ k. step.Field k) ((Decides-eqb i j).0 h)
same_step_is (step.Field i) (step.Variant v) h = absurd (true≢false (sym h))
same_step_is (step.Field i) (step.Deref m) h = absurd (true≢false (sym h))
same_step_is (step.Variant v) (step.Field j) h = absurd (true≢false (sym h))
same_step_is (step.Variant v) (step.Variant w) h = ap (λ k. step.Variant k) ((Decides-eqb v w).0 h)
same_step_is (step.Variant v) (step.Deref m) h = absurd (true≢false (sym h))
same_step_is (step.Deref true) (step.Field j) h = absurd (true≢false (sym h))
same_step_is (step.Deref false) (step.Field j) h = absurd (true≢false (sym h))
same_step_is (step.Deref true) (step.Variant w) h = absurd (true≢false (sym h))
same_step_is (step.Deref false) (step.Variant w) h = absurd (true≢false (sym h))
same_step_is (step.Deref true) (step.Deref true) h = refl
same_step_is (step.Deref true) (step.Deref false) h = absurd (true≢false (sym h))
same_step_is (step.Deref false) (step.Deref true) h = absurd (true≢false (sym h))
same_step_is (step.Deref false) (step.Deref false) h = refl

itself : (a : Step) → same_step a a ≡ true
itself (step.Field i) = (Decides-eqb i i).1 refl
itself (step.Variant v) = (Decides-eqb v v).1 refl
itself (step.Deref true) = refl
itself (step.Deref false) = refl

pub front_is : (qs ss : List Step) → is_front qs ss ≡ true → qs ≡ take (length qs) ss
front_is [] ss h = refl
front_is (q ∷ qs) [] h = absurd (true≢false (sym h))
front_is (q ∷ qs) (s ∷ ss) h = let b = both_true (same_step q s) (is_front qs ss) h in
    ap (λ (x : Step). x ∷ qs) (same_step_is q s b.0) ∙ ap (λ (l : List Step). s ∷ l) (front_is qs ss b.1)

pub shorter : (qs ss : List Step) → is_front qs ss ≡ true → is_front ss qs ≡ false → length qs < length ss
shorter [] [] h k = absurd (true≢false k)
shorter [] (s ∷ ss) h k = omega arith
shorter (q ∷ qs) [] h k = absurd (true≢false (sym h))
shorter (q ∷ qs) (s ∷ ss) h k =
    let b = both_true (same_step q s) (is_front qs ss) h in
    let e : same_step s q ≡ true = ap (λ (x : Step). same_step s x) (same_step_is q s b.0) ∙ itself s in
    omega (arith, shorter qs ss b.1 (sym (ap (λ c. c && is_front ss qs) e) ∙ k))

both_fronts : (rs ss : List Step) → is_front rs ss ≡ true → is_front ss rs ≡ true → rs ≡ ss
both_fronts [] [] h k = refl
both_fronts [] (s ∷ ss) h k = absurd (true≢false (sym k))
both_fronts (r ∷ rs) [] h k = absurd (true≢false (sym h))
both_fronts (r ∷ rs) (s ∷ ss) h k =
    let a = both_true (same_step r s) (is_front rs ss) h in let b = both_true (same_step s r) (is_front ss rs) k in
    ap (λ (x : Step). x ∷ rs) (same_step_is r s a.0) ∙ ap (λ (l : List Step). s ∷ l) (both_fronts rs ss a.1 b.1)

pub same_steps_is : (rs ss : List Step) → same_steps rs ss ≡ true → rs ≡ ss
same_steps_is rs ss h = let b = both_true (is_front rs ss) (is_front ss rs) h in both_fronts rs ss b.0 b.1

pub place_is : (q : Place) (x : ℕ) (rs ss : List Step) (b : Bool) → q.var ≡ x → rs ≡ q.steps → b ≡ same_steps rs ss → b ≡ true → q ≡ record { var = x; steps = ss }
place_is q x rs ss b v r e h = let z : q.steps ≡ ss = sym r ∙ same_steps_is rs ss (sym e ∙ h) in
    ap (λ n. record { var = n; steps = q.steps }) v ∙ ap (λ (l : List Step). record { var = x; steps = l }) z

-- ---- places that are kept

pub kept_here : (W : List Place) (k x : ℕ) (qs : List Step) (q : Place) → k < length W → q ≡ get_or W k q → q ≡ record { var = x; steps = qs } → Kept W x qs
kept_here W k x qs q h e d = (k, slice_get_read W (length W) k q refl h e ∙ ap (λ (r : Place). Some r) d)

pub on_ok : {P Q : Type 0} (r : Result (Unit {0}) AllocError) → (P → Q) → OnOk r P → OnOk r Q
on_ok (Ok u) f h = f h
on_ok (Err e) f h = tt

pub fronts_kept : (W : List Place) (x : ℕ) (ss : List Step) (t : Temporary) (rest : List Step) → ((k : ℕ) → k < length ss → Kept W x (take k ss))
    → KeepsFor W (Write (record { root = variable x; steps = ss }) t rest)
fronts_kept W x ss t rest h y qs e =
    let a = both_true (x == y) (holds_in qs ss) e in
    let b = both_true (is_front qs ss && not (is_front ss qs)) (not (is_behind qs)) a.1 in
    let c = both_true (is_front qs ss) (not (is_front ss qs)) b.0 in
    let k = h (length qs) (shorter qs ss c.0 (not_so (is_front ss qs) c.1)) in
    subst (λ n. Kept W n qs) ((Decides-eqb x y).0 a.0) (subst (λ (l : List Step). Kept W x l) (sym (front_is qs ss c.0)) k)

pub keeps_for : (V W : List Place) (a : Act) → Keeps V W → KeepsFor V a → KeepsFor W a
keeps_for V W a h k x qs e = h x qs (k x qs e)

pub kept_more : (V W : List Place) (x : ℕ) (ss qs : List Step) (k : ℕ) → Keeps V W → qs ≡ take k ss → Kept W x qs → ((j : ℕ) → j < k → Kept V x (take j ss))
    → (j : ℕ) → j < k + 1 → Kept W x (take j ss)
kept_more V W x ss qs k keeps e h before j less = by (cases_eq j k)
  where
    by : (j ≡ k) ⊎ (j ≡ k → ⊥) → Kept W x (take j ss)
    by (inl d) = subst (λ (l : List Step). Kept W x l) (e ∙ ap (λ n. take n ss) (sym d)) h
    by (inr d) = keeps x (take j ss) (before j (omega (arith, less, d)))
