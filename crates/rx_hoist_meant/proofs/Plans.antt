-- The plan by names of a run: where names tell its variables apart, no name stands twice among its params, its locals, or the outs of one
-- exit, since no variable does.
use Rattle.std.proofs.Common.{◌≡◌, ℕ, Bool, true, false, ◌||◌, if◌then◌else◌, List, [], ◌∷◌, map, get_or, refl, sym, ap, subst, ◌⊎◌, inl, inr, eq-eqb}
use Rattle.std.specs.Prelude.{◌==◌}
use Rattle.std.specs.Str.{bytes_eq}
use Rattle.rx_lower_walks.specs.Walks.{Among, here, there}
use Rattle.rx_exits_plan.specs.Points.{Exit, next, breaks, continues, returns}
use Rattle.rx_exits_plan.specs.declared.plan.ExitOuts.{ExitOuts}
use Rattle.rx_exits_plan.specs.Occurrences.{has_number, those}
use Rattle.rx_exits_plan.specs.Asked.{Asked}
use Rattle.rx_exits_plan.specs.Plan.{Chosen, none, taken, left, variables_of, foreign_of}
use Rattle.rx_exits_plan.specs.PlainPlan.{plain-Exit, outs_in, plan_of, IsExitPlan}
use Rattle.rx_modes_policy.specs.declared.uses.Mode.{Mode}
use Rattle.rx_typeck_typed.specs.declared.typed.TypedFn.{TypedFn}
use Rattle.rx_hoist_extraction.specs.Names.{Names, is_among, Distinct}
use Rattle.rx_hoist_extraction.specs.Plan.{Param, Leaving, names_of}
use Rattle.rx_hoist_extraction.proofs.FreshNames.{unlike}
use Rattle.rx_hoist_naming.specs.NamedPlan.{Told, named_plan, names_in, named_params, named_variables, named_leaving}
use Rattle.rx_hoist_naming.specs.Words.{OutsAgree}
use Rattle.rx_hoist_naming.proofs.Counting.{Once, once_firsts}

-- ---- numbers once

none_of : (a b : Bool) → a ≡ false → b ≡ false → (a || b) ≡ false
none_of true b d e = absurd (cc)
none_of false b d e = e

second_of : (a b : Bool) → (a || b) ≡ false → b ≡ false
second_of true b e = absurd (cc)
second_of false b e = e

first_of_two : (a b : Bool) → (a || b) ≡ false → a ≡ false
first_of_two true b e = absurd (cc)
first_of_two false b e = refl

absent_those : (f : ℕ → Bool) (x : ℕ) (l : List ℕ) → has_number x l ≡ false → has_number x (those f l) ≡ false
absent_those f x [] h = refl
absent_those f x (y ∷ l) h = by (f y) (absent_those f x l (second_of (x == y) (has_number x l) h))
  where
    by : (b : Bool) → has_number x (those f l) ≡ false → has_number x (if b then y ∷ those f l else those f l) ≡ false
    by true r = none_of (x == y) (has_number x (those f l)) (first_of_two (x == y) (has_number x l) h) r
    by false r = r

once_those : (f : ℕ → Bool) (l : List ℕ) → Once l → Once (those f l)
once_those f [] h = tt
once_those f (y ∷ l) h = by (f y) (once_those f l h.1)
  where
    by : (b : Bool) → Once (those f l) → Once (if b then y ∷ those f l else those f l)
    by true r = (absent_those f y l h.0, r)
    by false r = r

absent_chosen : {Q : ℕ → Type 0} {l m : List ℕ} → Chosen Q l m → (x : ℕ) → has_number x l ≡ false → has_number x m ≡ false
absent_chosen none x h = h
absent_chosen (taken {x = y} {l = l} {m = m} q c) x h = none_of (x == y) (has_number x m) (first_of_two (x == y) (has_number x l) h) (absent_chosen c x (second_of (x == y) (has_number x l) h))
absent_chosen (left {x = y} {l = l} q c) x h = absent_chosen c x (second_of (x == y) (has_number x l) h)

once_chosen : {Q : ℕ → Type 0} {l m : List ℕ} → Chosen Q l m → Once l → Once m
once_chosen none h = tt
once_chosen (taken {x = y} q c) h = (absent_chosen c y h.0, once_chosen c h.1)
once_chosen (left q c) h = once_chosen c h.1

among_has : (x : ℕ) (l : List ℕ) → Among x l → has_number x l ≡ false → ⊥
among_has x [] i h = elim i [ ]
among_has x (y ∷ l) i h = by i (first_of_two (x == y) (has_number x l) h) (λ k. among_has x l k (second_of (x == y) (has_number x l) h))
  where
    at_head : {z w : ℕ} {m : List ℕ} → Among z (w ∷ m) → (z ≡ w) ⊎ Among z m
    at_head here = inl refl
    at_head (there k) = inr k

    by : Among x (y ∷ l) → (x == y) ≡ false → (Among x l → ⊥) → ⊥
    by k e later = elim (at_head k) [ inl s ↦ other s e | inr j ↦ later j ]
      where
        other : x ≡ y → (x == y) ≡ false → ⊥
        other s e = let t = eq-eqb x y s in absurd (cc)

-- ---- names

module _ (ns : Names) where
  -- no two of these have one name
  abbrev pub Apart : List ℕ → Type 0
  Apart xs = (x y : ℕ) → Among x xs → Among y xs → get_or ns x [] ≡ get_or ns y [] → x ≡ y

  apart_rest : (x : ℕ) (xs : List ℕ) → Apart (x ∷ xs) → Apart xs
  apart_rest x xs h y z i j e = h y z (there i) (there j) e

  absent_name : (x : ℕ) (xs ys : List ℕ) → has_number x xs ≡ false → Apart (x ∷ xs) → ((y : ℕ) → Among y ys → Among y xs) → is_among (get_or ns x []) (map (λ (y : ℕ). get_or ns y []) ys) ≡ false
  absent_name x xs [] o h s = refl
  absent_name x xs (y ∷ ys) o h s =
      none_of (bytes_eq (get_or ns x []) (get_or ns y [])) (is_among (get_or ns x []) (map (λ (y : ℕ). get_or ns y []) ys))
      (unlike (get_or ns x []) (get_or ns y []) (λ e. let same = h x y here (there (s y here)) e in among_has x xs (subst (λ (z : ℕ). Among z xs) (sym same) (s y here)) o))
      (absent_name x xs ys o h (λ z i. s z (there i)))

  distinct : (xs : List ℕ) → Once xs → Apart xs → Distinct (map (λ (y : ℕ). get_or ns y []) xs)
  distinct [] o h = tt
  distinct (x ∷ xs) o h = (absent_name x xs xs o.0 h (λ y i. i), distinct xs o.1 (apart_rest x xs h))

  names_are : (t : TypedFn) (xs : List ℕ) → names_of (named_variables ns t xs) ≡ map (λ (y : ℕ). get_or ns y []) xs
  names_are t [] = refl
  names_are t (x ∷ xs) = ap (λ (l : Names). get_or ns x [] ∷ l) (names_are t xs)

  -- of params there are as many as have a mode
  absent_param : (t : TypedFn) (x : ℕ) (xs ys : List ℕ) (ms : List Mode) (vs : List Bool) → has_number x xs ≡ false → Apart (x ∷ xs) → ((y : ℕ) → Among y ys → Among y xs)
      → is_among (get_or ns x []) (map (λ (p : Param). p.variable.name) (named_params ns t ys ms vs)) ≡ false
  absent_param t x xs [] ms vs o h s = refl
  absent_param t x xs (y ∷ ys) [] vs o h s = refl
  absent_param t x xs (y ∷ ys) (m ∷ ms) [] o h s = refl
  absent_param t x xs (y ∷ ys) (m ∷ ms) (v ∷ vs) o h s =
      none_of (bytes_eq (get_or ns x []) (get_or ns y [])) (is_among (get_or ns x []) (map (λ (p : Param). p.variable.name) (named_params ns t ys ms vs)))
      (unlike (get_or ns x []) (get_or ns y []) (λ e. let same = h x y here (there (s y here)) e in among_has x xs (subst (λ (z : ℕ). Among z xs) (sym same) (s y here)) o))
      (absent_param t x xs ys ms vs o h (λ z i. s z (there i)))

  distinct_params : (t : TypedFn) (xs : List ℕ) (ms : List Mode) (vs : List Bool) → Once xs → Apart xs → Distinct (map (λ (p : Param). p.variable.name) (named_params ns t xs ms vs))
  distinct_params t [] ms vs o h = tt
  distinct_params t (x ∷ xs) [] vs o h = tt
  distinct_params t (x ∷ xs) (m ∷ ms) [] o h = tt
  distinct_params t (x ∷ xs) (m ∷ ms) (v ∷ vs) o h = (absent_param t x xs xs ms vs o.0 h (λ y i. i), distinct_params t xs ms vs o.1 (apart_rest x xs h))

-- ---- a plan

was_mapped : {X Y : Type 0} (f : X → Y) (xs : List X) (y : Y) → Among y (map f xs) → (x : X) × Among x xs × (y ≡ f x)
was_mapped f [] y i = absurd (elim i [ ])
was_mapped f (x ∷ xs) _ here = (x, here, refl)
was_mapped f (x ∷ xs) y (there i) = let r = was_mapped f xs y i in (r.0, there r.1, r.2)

is_mapped : {X Y : Type 0} (f : X → Y) (xs : List X) (x : X) → Among x xs → Among (f x) (map f xs)
is_mapped f [] x i = absurd (elim i [ ])
is_mapped f (y ∷ xs) _ here = here
is_mapped f (y ∷ xs) x (there i) = there (is_mapped f xs x i)

once_foreign : (q : Asked) → Once (foreign_of q)
once_foreign q = once_those _ (variables_of q) (once_firsts _)

module _ (A : Told) (q : Asked) (is : IsExitPlan q A.plan) where
  once_outs : (e : Exit) → Among e (plan_of q A.plan).exits → Once ((plan_of q A.plan).outs e)
  once_outs returns i = subst Once (sym is.plan.none_returned) tt
  once_outs next i = once_chosen (is.plan.outs next i (λ e. cc)) (once_those _ (variables_of q) (once_firsts _))
  once_outs (breaks l) i = once_chosen (is.plan.outs (breaks l) i (λ e. cc)) (once_those _ (variables_of q) (once_firsts _))
  once_outs (continues l) i = once_chosen (is.plan.outs (continues l) i (λ e. cc)) (once_those _ (variables_of q) (once_firsts _))

  pub params_distinct : Apart (names_in A) A.plan.params → Distinct (map (λ (p : Param). p.variable.name) (named_plan A).params)
  params_distinct h = distinct_params (names_in A) A.function A.plan.params A.modes A.moved (once_chosen is.plan.params (once_foreign q)) h

  pub locals_distinct : Apart (names_in A) A.plan.locals → Distinct (names_of (named_plan A).locals)
  locals_distinct h =
      subst Distinct (sym (names_are (names_in A) A.function A.plan.locals)) (distinct (names_in A) A.plan.locals (once_chosen is.plan.locals (once_foreign q)) h)

  pub outs_distinct : OutsAgree A.plan.exits → ((e : Exit) → Among e (plan_of q A.plan).exits → Apart (names_in A) ((plan_of q A.plan).outs e)) → (l : Leaving) → Among l (named_plan A).exits → Distinct (names_of l.outs)
  outs_distinct agree h l i =
      let w = was_mapped (named_leaving (names_in A) A.function A.loops) A.plan.exits l i in
      let x = plain-Exit w.0.exit in
      let there_is : Among x (plan_of q A.plan).exits = is_mapped (λ (e : ExitOuts). plain-Exit e.exit) A.plan.exits w.0 w.1 in
      let same = agree w.0 w.1 in
      let d = distinct (names_in A) (outs_in A.plan.exits x) (once_outs x there_is) (h x there_is) in
      subst (λ (z : Leaving). Distinct (names_of z.outs)) (sym w.2)
      (subst Distinct (sym (names_are (names_in A) A.function w.0.outs)) (subst (λ (os : List ℕ). Distinct (map (λ (y : ℕ). get_or (names_in A) y []) os)) same d))
