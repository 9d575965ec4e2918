-- Numbers of lifetimes of which some are left out: of a declared one that stays, its number in the new list; of one that is left out, in
-- either, the number that it gets where it stands.
use Rattle.std.proofs.Common.{◌≡◌, ℕ, suc, ◌<◌, ◌≤◌, ◌^◌, nat_eq, ◌==◌, Bool, true, false, not, ◌&&◌, List, [], ◌∷◌, ◌++◌, length, map, get_or, Option, Some, None, inl, inr, refl, sym, ap, subst, ◌∙◌, arith, if◌then◌else◌, append_assoc}
use Rattle.std.proofs.lemmas.Bool.{eqb-true, eq-eqb, ne_eqb, and_parts, or_cases, false≢true}
use Rattle.rx_core.specs.declared.types.Span.{Span}
use Rattle.rx_tree.specs.Plain.{TypeTree, Function, ProgramTree}
use Rattle.rx_resolve_names.specs.Scopes.{DeclaredNames}
use Rattle.rx_resolve_names.specs.Meant.{number, number_in}
use Rattle.rx_hoist_extraction.specs.Names.{Names, is_among}
use Rattle.rx_hoist_extraction.specs.OwnLifetimes.{in_parameters, lifetimes_if_any}
use Rattle.rx_compact_lifetimes.specs.declared.rewriting.Rewriting.{Rewriting}
use Rattle.rx_compact_lifetimes.specs.Rewritten.{becomes}
use Rattle.rx_compact_lifetimes.specs.Elided.{in_body, in_bounds, times, are_all, result_allows, may_go, elided, elisions}
use Rattle.rx_compact_lifetimes.specs.Steps.{names}
use Rattle.rx_compact_laws.specs.Resolved.{declared}
use Rattle.rx_compact_laws.proofs.Declaring.{itself, meant_declared}
use Rattle.rx_compact_laws.proofs.Elsewhere.{left_stays, left_gone}
use Rattle.rx_compact_types.specs.Positions.{Position, as_parameter, as_result, or_zero, positions, parameter_positions, number_of, numbers, NoneLeftOut, AllMeant}
use Rattle.rx_compact_types.proofs.Turning.{turn, Fitting, FittingAt}
use Rattle.rx_compact_types.proofs.Places.{small, place}
use Rattle.rx_compact_types.proofs.Counts.{count, count_more, parameter_times, result_times, only_one}

-- ---- tables of numbers

abbrev pub looked : List (ℕ × ℕ) → ℕ → ℕ → ℕ
looked [] a d = d
looked (x ∷ xs) a d = if nat_eq x.0 a then x.1 else looked xs a d

abbrev pub Absent : ℕ → List (ℕ × ℕ) → Type 0
Absent a [] = Unit {0}
Absent a (x ∷ xs) = (x.0 ≡ a → ⊥) × Absent a xs

absent_both : (a : ℕ) (xs ys : List (ℕ × ℕ)) → Absent a xs → Absent a ys → Absent a (xs ++ ys)
absent_both a [] ys h g = g
absent_both a (x ∷ xs) ys h g = (h.0, absent_both a xs ys h.1 g)

pub looked_absent : (xs : List (ℕ × ℕ)) (a d : ℕ) → Absent a xs → looked xs a d ≡ d
looked_absent [] a d h = refl
looked_absent (x ∷ xs) a d h = ap (λ b. if b then x.1 else looked xs a d) (ne_eqb x.0 a h.0) ∙ looked_absent xs a d h.1

pub looked_at : (xs ys : List (ℕ × ℕ)) (a b d : ℕ) → Absent a xs → looked (xs ++ (a, b) ∷ ys) a d ≡ b
looked_at [] ys a b d h = ap (λ c. if c then b else looked ys a d) (eq-eqb a a refl)
looked_at (x ∷ xs) ys a b d h = ap (λ c. if c then x.1 else looked (xs ++ (a, b) ∷ ys) a d) (ne_eqb x.0 a h.0) ∙ looked_at xs ys a b d h.1

abbrev AllBelow : ℕ → List (ℕ × ℕ) → Type 0
AllBelow k [] = Unit {0}
AllBelow k (x ∷ xs) = (x.0 < k) × AllBelow k xs

below_absent : (k : ℕ) (xs : List (ℕ × ℕ)) → AllBelow k xs → Absent k xs
below_absent k [] h = tt
below_absent k (x ∷ xs) h = ((λ e. let less = h.0 in omega (arith, less, e)), below_absent k xs h.1)

below_last : (k j : ℕ) (xs : List (ℕ × ℕ)) (y : ℕ × ℕ) → AllBelow k xs → k ≤ j → y.0 < j → AllBelow j (xs ++ y ∷ [])
below_last k j [] y h g l = (l, tt)
below_last k j (x ∷ xs) y h g l = ((let less = h.0 in omega (arith, less, g)), below_last k j xs y h.1 g l)

-- ---- the numbers

module _ (single : Bool) (s : Span) (f : Function) (few : length f.lifetimes < 2 ^ 32) where
  abbrev body : Names
  body = in_body f.body

  abbrev pub G : List ℕ → Bool
  G x = may_go single body f x

  abbrev rs : List Rewriting
  rs = elisions single body f

  abbrev L : DeclaredNames
  L = declared s f

  abbrev M : DeclaredNames
  M = declared s (elided single f)

  abbrev n0 : ℕ
  n0 = number (length f.lifetimes)

  abbrev m0 : ℕ
  m0 = number (length (elided single f).lifetimes)

  -- what is left out in the first or in the second has a number of its own, where the next are these
  abbrev pub pair_if : Bool → ℕ → ℕ → (ℕ → List (ℕ × ℕ)) → List (ℕ × ℕ)
  pair_if true l j C = (l, j) ∷ C (suc j)
  pair_if false l j C = C j

  abbrev pub pairs : ℕ → ℕ → List Position → List (ℕ × ℕ)
  pairs k j [] = []
  pairs k j (None ∷ xs) = (k, j) ∷ pairs (suc k) (suc j) xs
  pairs k j (Some x ∷ xs) = pair_if (G x) (number_of L x) j (λ i. pairs k i xs)

  -- by the places of the parameters' lifetimes
  abbrev pub elided_number : List Position → ℕ → ℕ
  elided_number xs l = looked (pairs n0 m0 xs) l (number_of M (get_or (names f.lifetimes) l []))

  abbrev pub IsMeant : List ℕ → Type 0
  IsMeant x = (n : ℕ) × (number_in L x ≡ Some n)

  pub less : (x : List ℕ) → IsMeant x → number_of L x < n0
  less x m = subst (λ n. number_of L x < n) (sym (small (length f.lifetimes) few)) (subst (λ n. n < length f.lifetimes) (sym (ap or_zero m.1)) (place s f few x m.0 m.1).0)

  pub name_at : (x : List ℕ) → IsMeant x → get_or (names f.lifetimes) (number_of L x) [] ≡ x
  name_at x m = ap (λ n. get_or (names f.lifetimes) n []) (ap or_zero m.1) ∙ (place s f few x m.0 m.1).1

  pub one_number : (x y : List ℕ) → IsMeant x → IsMeant y → number_of L x ≡ number_of L y → x ≡ y
  one_number x y m n e = sym (name_at x m) ∙ (ap (λ k. get_or (names f.lifetimes) k []) e ∙ name_at y n)

  pub goes_away : (x : List ℕ) → IsMeant x → G x ≡ true → becomes rs x ≡ None
  goes_away x m h = left_gone G f.lifetimes x (meant_declared s f x m.0 m.1) h

  pub stays_here : (x : List ℕ) → G x ≡ false → becomes rs x ≡ Some x
  stays_here x h = left_stays G f.lifetimes x h

  -- a lifetime that stays isn't in the table
  stays_absent_if : (x : List ℕ) → IsMeant x → G x ≡ false → (y : List ℕ) → IsMeant y → (b : Bool) → G y ≡ b → (j : ℕ) (C : ℕ → List (ℕ × ℕ)) → ((i : ℕ) → Absent (number_of L x) (C i))
      → Absent (number_of L x) (pair_if b (number_of L y) j C)
  stays_absent_if x m h y n true e j C again = ((λ q. false≢true (sym h ∙ (ap G (sym (one_number y x n m q)) ∙ e))), again (suc j))
  stays_absent_if x m h y n false e j C again = again j

  stays_absent : (x : List ℕ) → IsMeant x → G x ≡ false → (k j : ℕ) (xs : List Position) → n0 ≤ k → AllMeant L xs → Absent (number_of L x) (pairs k j xs)
  stays_absent x m h k j [] g a = tt
  stays_absent x m h k j (None ∷ xs) g a = ((λ e. let l = less x m in omega (arith, l, g, e)), stays_absent x m h (suc k) (suc j) xs (omega (arith, g)) a)
  stays_absent x m h k j (Some y ∷ xs) g a = stays_absent_if x m h y a.0 (G y) refl j (λ i. pairs k i xs) (λ i. stays_absent x m h k i xs g a.1)

  module _ (whole : List Position) (all : AllMeant L whole) where
    abbrev F : ℕ → ℕ
    F = elided_number whole

    pub kept_number : (x : List ℕ) → IsMeant x → G x ≡ false → number_of M x ≡ F (number_of L x)
    kept_number x m h = sym (looked_absent (pairs n0 m0 whole) (number_of L x) (number_of M (get_or (names f.lifetimes) (number_of L x) [])) (stays_absent x m h n0 m0 whole (omega arith) all) ∙ ap (number_of M) (name_at x m))

    -- what stands behind those that were passed; those of them that go stand there once
    record Passed (before : List (ℕ × ℕ)) (k j : ℕ) (xs : List Position) : Type 0 where
      is : pairs n0 m0 whole ≡ before ++ pairs k j xs
      from : n0 ≤ k
      meant : AllMeant L xs
      once : (x : List ℕ) → G x ≡ true → count x xs ≤ 1
      below : AllBelow k before
      new : (x : List ℕ) → IsMeant x → 0 < count x xs → G x ≡ true → Absent (number_of L x) before

    fit_at : (before : List (ℕ × ℕ)) (k j : ℕ) (x : List ℕ) (xs : List Position) (b : Bool) → G x ≡ b → Passed before k j (Some x ∷ xs)
        → ((more : List (ℕ × ℕ)) (i : ℕ) → Passed more k i xs → Fitting rs F L M as_parameter as_parameter k i xs)
        → FittingAt rs F L M as_parameter as_parameter (number_of L x) k j (becomes rs x) xs
    fit_at before k j x xs false e w again =
        subst (λ y. FittingAt rs F L M as_parameter as_parameter (number_of L x) k j y xs) (sym (stays_here x e)) (
          kept_number x w.meant.0 e,
          again before j (record {
            is = w.is ∙ ap (λ b. before ++ pair_if b (number_of L x) j (λ i. pairs k i xs)) e;
            from = w.from;
            meant = w.meant.1;
            once = λ y g. (let a = count_more y (Some x) xs in let b = w.once y g in omega (arith, a, b));
            below = w.below;
            new = λ y m h g. w.new y m (let a = count_more y (Some x) xs in omega (arith, a, h)) g;
          }),
        )
    fit_at before k j x xs true e w again =
        let l : ℕ = number_of L x in
        let d : ℕ = number_of M (get_or (names f.lifetimes) l []) in
        let is : pairs n0 m0 whole ≡ before ++ (l, j) ∷ pairs k (suc j) xs = w.is ∙ ap (λ b. before ++ pair_if b l j (λ i. pairs k i xs)) e in
        let here : count x (Some x ∷ xs) ≡ suc (count x xs) = ap (λ b. if b then suc (count x xs) else count x xs) (itself x) in
        let absent : Absent l before = w.new x w.meant.0 (omega (arith, here)) e in
        subst (λ y. FittingAt rs F L M as_parameter as_parameter l k j y xs) (sym (goes_away x w.meant.0 e)) (
          sym (ap (λ ps. looked ps l d) is ∙ looked_at before (pairs k (suc j) xs) l j d absent),
          again (before ++ (l, j) ∷ []) (suc j) (record {
            is = is ∙ sym (append_assoc before ((l, j) ∷ []) (pairs k (suc j) xs));
            from = w.from;
            meant = w.meant.1;
            once = λ y g. (let a = count_more y (Some x) xs in let b = w.once y g in omega (arith, a, b));
            below = below_last k k before (l, j) w.below (omega arith) (let a = less x w.meant.0 in let b = w.from in omega (arith, a, b));
            new = λ y m h g. absent_both (number_of L y) before ((l, j) ∷ []) (w.new y m (let a = count_more y (Some x) xs in omega (arith, a, h)) g)
                ((λ q. let b = w.once x e in (let z : x ≡ y = one_number x y w.meant.0 m q in let c : count y xs ≡ count x xs = ap (λ z. count z xs) (sym z) in omega (arith, b, here, c, h))), tt);
          }),
        )

    fit : (before : List (ℕ × ℕ)) (k j : ℕ) (xs : List Position) → Passed before k j xs → Fitting rs F L M as_parameter as_parameter k j xs
    fit before k j [] w = tt
    fit before k j (None ∷ xs) w = (
      sym (ap (λ ps. looked ps k (number_of M (get_or (names f.lifetimes) k []))) w.is ∙ looked_at before (pairs (suc k) (suc j) xs) k j (number_of M (get_or (names f.lifetimes) k [])) (below_absent k before w.below)),
      fit (before ++ (k, j) ∷ []) (suc k) (suc j) xs (record {
        is = w.is ∙ sym (append_assoc before ((k, j) ∷ []) (pairs (suc k) (suc j) xs));
        from = (let g = w.from in omega (arith, g));
        meant = w.meant;
        once = w.once;
        below = below_last k (suc k) before (k, j) w.below (omega arith) (omega arith);
        new = λ x m h g. absent_both (number_of L x) before ((k, j) ∷ []) (w.new x m h g) ((λ e. let l = less x m in let b = w.from in omega (arith, l, b, e)), tt);
      }),
    )
    fit before k j (Some x ∷ xs) w = fit_at before k j x xs (G x) refl w (λ more i v. fit more k i xs v)

    pub elided_parameters_fit : ((x : List ℕ) → G x ≡ true → count x whole ≤ 1) → Fitting rs F L M as_parameter as_parameter n0 m0 whole
    elided_parameters_fit once = fit [] n0 m0 whole (record { is = refl; from = omega arith; meant = all; once = once; below = tt; new = λ x m h g. tt })

    -- in the result, where it leaves out a lifetime, or where what goes is the only one of the parameters
    pub elided_answer_fits : (l k j : ℕ) (xs : List Position) → AllMeant L xs → ((x : List ℕ) → 0 < count x xs → G x ≡ true → number_of L x ≡ l)
        → Fitting rs F L M (as_result (Some l)) (as_result (Some (F l))) k j xs
    elided_answer_fits l k j [] a h = tt
    elided_answer_fits l k j (None ∷ xs) a h = (refl, elided_answer_fits l k j xs a h)
    elided_answer_fits l k j (Some x ∷ xs) a h = by (G x) refl (elided_answer_fits l k j xs a.1 (λ y g. h y (let c = count_more y (Some x) xs in omega (arith, c, g))))
      where
        here : 0 < count x (Some x ∷ xs)
        here = let e : count x (Some x ∷ xs) ≡ suc (count x xs) = ap (λ b. if b then suc (count x xs) else count x xs) (itself x) in omega (arith, e)

        by : (b : Bool) → G x ≡ b → Fitting rs F L M (as_result (Some l)) (as_result (Some (F l))) k j xs
            → FittingAt rs F L M (as_result (Some l)) (as_result (Some (F l))) (number_of L x) k j (becomes rs x) xs
        by true e again = subst (λ y. FittingAt rs F L M (as_result (Some l)) (as_result (Some (F l))) (number_of L x) k j y xs) (sym (goes_away x a.0 e)) (ap F (sym (h x here e)), again)
        by false e again = subst (λ y. FittingAt rs F L M (as_result (Some l)) (as_result (Some (F l))) (number_of L x) k j y xs) (sym (stays_here x e)) (kept_number x a.0 e, again)

    -- and where it leaves out none
    pub elided_none_left_out : (e : Option ℕ) (k j : ℕ) (xs : List Position) → AllMeant L xs → NoneLeftOut xs → ((x : List ℕ) → 0 < count x xs → G x ≡ true → ⊥)
        → NoneLeftOut (map (turn rs) xs) × Fitting rs F L M (as_result None) (as_result e) k j xs
    elided_none_left_out e k j [] a h g = (tt, tt)
    elided_none_left_out e k j (None ∷ xs) a h g = absurd h
    elided_none_left_out e k j (Some x ∷ xs) a h g = by (G x) refl (elided_none_left_out e k j xs a.1 h (λ y z. g y (let c = count_more y (Some x) xs in omega (arith, c, z))))
      where
        here : 0 < count x (Some x ∷ xs)
        here = let e : count x (Some x ∷ xs) ≡ suc (count x xs) = ap (λ b. if b then suc (count x xs) else count x xs) (itself x) in omega (arith, e)

        by : (b : Bool) → G x ≡ b → NoneLeftOut (map (turn rs) xs) × Fitting rs F L M (as_result None) (as_result e) k j xs
            → NoneLeftOut (becomes rs x ∷ map (turn rs) xs) × FittingAt rs F L M (as_result None) (as_result e) (number_of L x) k j (becomes rs x) xs
        by true q again = absurd (g x here q)
        by false q again = (
          subst (λ y. NoneLeftOut (y ∷ map (turn rs) xs)) (sym (stays_here x q)) again.0,
          subst (λ y. FittingAt rs F L M (as_result None) (as_result e) (number_of L x) k j y xs) (sym (stays_here x q)) (kept_number x a.0 q, again.1),
        )

  -- ---- what goes stands once in the parameters, and in the result where it is the only one

  go_parts : (x : List ℕ) → G x ≡ true → ((times x (in_parameters f.params) == 1) ≡ true) × (result_allows single (lifetimes_if_any f.result) x ≡ true)
  go_parts x h =
      let a = and_parts (not (is_among x (in_bounds f.lifetimes))) (not (is_among x body) && ((times x (in_parameters f.params) == 1) && result_allows single (lifetimes_if_any f.result) x)) h in
      let b = and_parts (not (is_among x body)) ((times x (in_parameters f.params) == 1) && result_allows single (lifetimes_if_any f.result) x) a.1 in
      and_parts (times x (in_parameters f.params) == 1) (result_allows single (lifetimes_if_any f.result) x) b.1

  pub goes_once : (p : ProgramTree) (x : List ℕ) → G x ≡ true → count x (parameter_positions p f.params) ≡ 1
  goes_once p x h = sym (parameter_times p x f.params) ∙ eqb-true (times x (in_parameters f.params)) 1 (go_parts x h).0

  pub only_goes : (p : ProgramTree) → (single ≡ true → length (numbers as_parameter L n0 (parameter_positions p f.params)) ≡ 1) → (t : TypeTree) → f.result ≡ Some t
      → (x : List ℕ) → 0 < count x (positions p t) → G x ≡ true → numbers as_parameter L n0 (parameter_positions p f.params) ≡ number_of L x ∷ []
  only_goes p one t w x h g = elim (or_cases (times x (lifetimes_if_any f.result) == 0) (single && are_all x (lifetimes_if_any f.result)) (go_parts x g).1) [
    | inl e ↦ (let a = eqb-true (times x (lifetimes_if_any f.result)) 0 e in let b : times x (lifetimes_if_any f.result) ≡ count x (positions p t) = ap (λ y. times x (lifetimes_if_any y)) w ∙ result_times p x t in
        absurd (omega (arith, a, b, h)))
    | inr e ↦ (let c = goes_once p x g in only_one L x n0 (parameter_positions p f.params) (one (and_parts single (are_all x (lifetimes_if_any f.result)) e).0) (omega (arith, c)))
  ]
