-- Where some lifetimes are left out, those of a signature keep numbers of their own, all of the new signature's: what is left out stands
-- at one place of the parameters and gets the number of that place, behind the declared ones that stay.
use Rattle.std.proofs.Common.{◌≡◌, ◌⊎◌, inl, inr, ℕ, suc, ◌+◌, ◌<◌, ◌≤◌, ◌^◌, Bool, true, false, not, List, [], ◌∷◌, ◌++◌, length, map, get_or, Option, Some, None, refl, sym, ap, subst, ◌∙◌, arith, if◌then◌else◌}
use Rattle.std.specs.Str.{bytes_eq}
use Rattle.std.proofs.lemmas.Bool.{cases_lt, false≢true}
use Rattle.std.proofs.lemmas.List.{length-append}
use Rattle.rx_core.specs.declared.types.Span.{Span}
use Rattle.rx_tree.specs.Plain.{Function, ProgramTree}
use Rattle.rx_resolve_names.specs.Scopes.{DeclaredNames}
use Rattle.rx_resolve_names.specs.Meant.{number, number_in}
use Rattle.rx_hoist_extraction.specs.Names.{Distinct}
use Rattle.rx_compact_lifetimes.specs.declared.rewriting.Rewriting.{Rewriting}
use Rattle.rx_compact_lifetimes.specs.Rewritten.{becomes}
use Rattle.rx_compact_lifetimes.specs.Elided.{in_body, elided, elisions}
use Rattle.rx_compact_lifetimes.specs.Steps.{names}
use Rattle.rx_compact_laws.specs.Resolved.{declared}
use Rattle.rx_compact_laws.proofs.Declaring.{same_name, itself, declared_means, meant_declared}
use Rattle.rx_compact_laws.proofs.Lists.{kept_if}
use Rattle.rx_compact_types.specs.Positions.{Position, as_parameter, or_zero, parameter_positions, number_of, ends, AllMeant}
use Rattle.rx_compact_types.proofs.Turning.{turn}
use Rattle.rx_compact_types.proofs.Places.{small, place}
use Rattle.rx_compact_types.proofs.Bounds.{there, one_place, many_names}
use Rattle.rx_compact_types.proofs.Counts.{count}
use Rattle.rx_compact_types.proofs.ElidedNumbers.{looked, Absent, looked_at, G, pair_if, pairs, elided_number, IsMeant, less, one_number, goes_away, stays_here, kept_number, goes_once}

-- ---- tables of which each line has the next number

-- a number where it stands first in a table whose numbers go on from j
pub record At (T : List (ℕ × ℕ)) (j l : ℕ) : Type 0 where
  pub before : List (ℕ × ℕ)
  pub after : List (ℕ × ℕ)
  pub is : T ≡ before ++ (l, j + length before) ∷ after
  pub absent : Absent l before

here : (l j : ℕ) (T : List (ℕ × ℕ)) → At ((l, j) ∷ T) j l
here l j T = record { before = []; after = T; is = ap (λ m. (l, m) ∷ T) (let z : j ≡ j + 0 = omega arith in z); absent = tt }

further : (k l j : ℕ) (T : List (ℕ × ℕ)) → (k ≡ l → ⊥) → At T (suc j) l → At ((k, j) ∷ T) j l
further k l j T n a =
    let many : ℕ = length a.before in
    let z : suc j + many ≡ j + suc many = omega arith in
    record {
      before = (k, j) ∷ a.before;
      after = a.after;
      is = ap (λ ts. (k, j) ∷ ts) (a.is ∙ ap (λ m. a.before ++ (l, m) ∷ a.after) z);
      absent = (n, a.absent);
    }

abbrev key : List (ℕ × ℕ) → ℕ
key [] = 0
key (x ∷ xs) = x.0

abbrev more : List (ℕ × ℕ) → List (ℕ × ℕ)
more [] = []
more (x ∷ xs) = xs

-- what stands behind as many is one
same_line : (as' bs cs ds : List (ℕ × ℕ)) (u v : ℕ × ℕ) → length as' ≡ length bs → as' ++ u ∷ cs ≡ bs ++ v ∷ ds → u.0 ≡ v.0
same_line [] [] cs ds u v n e = ap key e
same_line [] (b ∷ bs) cs ds u v n e = absurd (omega (arith, n))
same_line (a ∷ as') [] cs ds u v n e = absurd (omega (arith, n))
same_line (a ∷ as') (b ∷ bs) cs ds u v n e = same_line as' bs cs ds u v (omega (arith, n)) (ap more e)

at_once : (T : List (ℕ × ℕ)) (j l k : ℕ) (a : At T j l) (b : At T j k) → j + length a.before ≡ j + length b.before → l ≡ k
at_once T j l k a b e = same_line a.before b.before a.after b.after (l, j + length a.before) (k, j + length b.before) (omega (arith, e)) (sym a.is ∙ b.is)

at_within : (T : List (ℕ × ℕ)) (j l : ℕ) (a : At T j l) → j + length a.before < j + length T
at_within T j l a =
    let n : length T ≡ length a.before + suc (length a.after) = ap length a.is ∙ length-append a.before ((l, j + length a.before) ∷ a.after) in
    omega (arith, n)

-- ---- the table of a signature

module _ (single : Bool) (s : Span) (f : Function) (few : length f.lifetimes < 2 ^ 32) where
  abbrev L : DeclaredNames
  L = declared s f

  abbrev M : DeclaredNames
  M = declared s (elided single f)

  abbrev n0 : ℕ
  n0 = number (length f.lifetimes)

  abbrev m0 : ℕ
  m0 = number (length (elided single f).lifetimes)

  abbrev rs : List Rewriting
  rs = elisions single (in_body f.body) f

  abbrev goes : List ℕ → Bool
  goes x = G single s f few x

  abbrev table : ℕ → ℕ → List Position → List (ℕ × ℕ)
  table k j xs = pairs single s f few k j xs

  abbrev Means : List ℕ → Type 0
  Means x = IsMeant single s f few x

  -- one that is left out in the first
  elided_at : (k j l : ℕ) (xs : List Position) → n0 ≤ k → AllMeant L xs → k ≤ l → l < ends as_parameter k xs → At (table k j xs) j l
  elided_at k j l [] w a h g = absurd (omega (arith, h, g))
  elided_at k j l (None ∷ xs) w a h g = by (cases_lt k l) (λ c. elided_at (suc k) (suc j) l xs (omega (arith, w)) a (omega (arith, c)) g)
    where
      by : (k < l) ⊎ (l ≤ k) → (k < l → At (table (suc k) (suc j) xs) (suc j) l) → At ((k, j) ∷ table (suc k) (suc j) xs) j l
      by (inl c) again = further k l j (table (suc k) (suc j) xs) (λ e. omega (arith, c, e)) (again c)
      by (inr c) again = let e : k ≡ l = omega (arith, c, h) in subst (λ m. At ((k, j) ∷ table (suc k) (suc j) xs) j m) e (here k j (table (suc k) (suc j) xs))
  elided_at k j l (Some y ∷ xs) w a h g = by (goes y) refl (λ i. elided_at k i l xs w a.1 h g)
    where
      by : (b : Bool) → goes y ≡ b → ((i : ℕ) → At (table k i xs) i l) → At (pair_if single s f few b (number_of L y) j (λ i. table k i xs)) j l
      by true e again = further (number_of L y) l j (table k (suc j) xs) (λ q. let c = less single s f few y a.0 in omega (arith, c, w, h, q)) (again (suc j))
      by false e again = again j

  -- a declared one that goes, and stands somewhere
  going_at : (x : List ℕ) → Means x → goes x ≡ true → (k j : ℕ) (xs : List Position) → n0 ≤ k → AllMeant L xs → 0 < count x xs → At (table k j xs) j (number_of L x)
  going_at x m e k j [] w a h = absurd (omega (arith, h))
  going_at x m e k j (None ∷ xs) w a h =
      further k (number_of L x) j (table (suc k) (suc j) xs) (λ q. let c = less single s f few x m in omega (arith, c, w, q)) (going_at x m e (suc k) (suc j) xs (omega (arith, w)) a h)
  going_at x m e k j (Some y ∷ xs) w a h = by (bytes_eq x y) refl (goes y) refl h (λ i n. going_at x m e k i xs w a.1 n)
    where
      by : (c : Bool) → bytes_eq x y ≡ c → (b : Bool) → goes y ≡ b → 0 < (if c then suc (count x xs) else count x xs) → ((i : ℕ) → 0 < count x xs → At (table k i xs) i (number_of L x))
          → At (pair_if single s f few b (number_of L y) j (λ i. table k i xs)) j (number_of L x)
      by true p true q n again = subst (λ z. At ((number_of L y, j) ∷ table k (suc j) xs) j (number_of L z)) (sym (same_name x y p)) (here (number_of L y) j (table k (suc j) xs))
      by true p false q n again = absurd (false≢true (sym q ∙ (ap goes (sym (same_name x y p)) ∙ e)))
      by false p true q n again = further (number_of L y) (number_of L x) j (table k (suc j) xs)
          (λ z. false≢true (sym p ∙ (ap (bytes_eq x) (one_number single s f few y x a.0 m z) ∙ itself x))) (again (suc j) n)
      by false p false q n again = again j n

  -- the new signature has as many behind its declared ones as the table has lines
  pub ends_are : (k j : ℕ) (xs : List Position) → AllMeant L xs → ends as_parameter j (map (turn rs) xs) ≡ j + length (table k j xs)
  ends_are k j [] a = omega arith
  ends_are k j (None ∷ xs) a =
      let many : ℕ = length (table (suc k) (suc j) xs) in
      let z : suc j + many ≡ j + suc many = omega arith in
      ends_are (suc k) (suc j) xs a ∙ z
  ends_are k j (Some x ∷ xs) a = by (goes x) refl (λ i. ends_are k i xs a.1)
    where
      by : (b : Bool) → goes x ≡ b → ((i : ℕ) → ends as_parameter i (map (turn rs) xs) ≡ i + length (table k i xs))
          → ends as_parameter j (becomes rs x ∷ map (turn rs) xs) ≡ j + length (pair_if single s f few b (number_of L x) j (λ i. table k i xs))
      by true e again =
          let many : ℕ = length (table k (suc j) xs) in
          let z : suc j + many ≡ j + suc many = omega arith in
          ap (λ o. ends as_parameter j (o ∷ map (turn rs) xs)) (goes_away single s f few x a.0 e) ∙ (again (suc j) ∙ z)
      by false e again = ap (λ o. ends as_parameter j (o ∷ map (turn rs) xs)) (stays_here single s f few x e) ∙ again j

  -- ---- numbers of the signature's lifetimes

  module _ (p : ProgramTree) (once : Distinct (names f.lifetimes)) (fewer : length (elided single f).lifetimes < 2 ^ 32) (all : AllMeant L (parameter_positions p f.params)) where
    abbrev whole : List Position
    whole = parameter_positions p f.params

    abbrev F : ℕ → ℕ
    F = elided_number single s f few whole

    abbrev T : List (ℕ × ℕ)
    T = table n0 m0 whole

    abbrev pub old_count : ℕ
    old_count = ends as_parameter n0 whole

    abbrev pub new_count : ℕ
    new_count = ends as_parameter m0 (map (turn rs) whole)

    -- a declared one that stays
    record Stays (l : ℕ) : Type 0 where
      name : List ℕ
      meant : Means name
      at : number_of L name ≡ l
      stays : goes name ≡ false

    declared_one : (l : ℕ) → l < length f.lifetimes → At T m0 l ⊎ Stays l
    declared_one l c = by (goes x) refl
      where
        x : List ℕ
        x = get_or (names f.lifetimes) l []

        meant : Means x
        meant = let many = many_names f.lifetimes in declared_means s f x (there (names f.lifetimes) l (omega (arith, c, many)))

        at : number_of L x ≡ l
        at =
            let many = many_names f.lifetimes in
            let r = place s f few x meant.0 meant.1 in
            let w : meant.0 < length f.lifetimes = r.0 in
            ap or_zero meant.1 ∙ one_place (names f.lifetimes) meant.0 l once (omega (arith, w, many)) (omega (arith, c, many)) r.1

        by : (b : Bool) → goes x ≡ b → At T m0 l ⊎ Stays l
        by true g = inl (subst (At T m0) at (going_at x meant g n0 m0 whole (omega arith) all (let c = goes_once single s f few p x g in omega (arith, c))))
        by false g = inr (record { name = x; meant = meant; at = at; stays = g })

    which : (l : ℕ) → l < old_count → At T m0 l ⊎ Stays l
    which l h = elim (cases_lt l (length f.lifetimes)) [
      | inl c ↦ declared_one l c
      | inr c ↦ inl (elided_at n0 m0 l whole (omega arith) all (subst (λ n. n ≤ l) (sym (small (length f.lifetimes) few)) c) h)
    ]

    at_value : (l : ℕ) (a : At T m0 l) → F l ≡ m0 + length a.before
    at_value l a =
        let d : ℕ = number_of M (get_or (names f.lifetimes) l []) in
        ap (λ ts. looked ts l d) a.is ∙ looked_at a.before a.after l (m0 + length a.before) d a.absent

    -- its number and its place in the new list
    record Kept (l : ℕ) (x : List ℕ) : Type 0 where
      within : F l < m0
      name : get_or (names (elided single f).lifetimes) (F l) [] ≡ x

    kept : (l : ℕ) (w : Stays l) → Kept l w.name
    kept l w =
        let m = declared_means s (elided single f) w.name (kept_if (λ x. not (goes x)) f.lifetimes w.name (meant_declared s f w.name w.meant.0 w.meant.1) (ap not w.stays)) in
        let r = place s (elided single f) fewer w.name m.0 m.1 in
        let e : F l ≡ m.0 = ap F (sym w.at) ∙ (sym (kept_number single s f few whole all w.name w.meant w.stays) ∙ ap or_zero m.1) in
        record {
          within = subst (λ n. F l < n) (sym (small (length (elided single f).lifetimes) fewer)) (subst (λ n. n < length (elided single f).lifetimes) (sym e) r.0);
          name = ap (λ n. get_or (names (elided single f).lifetimes) n []) e ∙ r.1;
        }

    pub number_within : (l : ℕ) → l < old_count → F l < new_count
    number_within l h = elim (which l h) [
      | inl a ↦ (let v = at_value l a in let w = at_within T m0 l a in let e = ends_are n0 m0 whole all in omega (arith, v, w, e))
      | inr w ↦ (let v : F l < m0 = (kept l w).within in let e = ends_are n0 m0 whole all in omega (arith, v, e))
    ]

    both_kept : (l k : ℕ) → Stays l → Stays k → F l ≡ F k → l ≡ k
    both_kept l k w v e =
        let x : w.name ≡ v.name = sym (kept l w).name ∙ (ap (λ n. get_or (names (elided single f).lifetimes) n []) e ∙ (kept k v).name) in
        sym w.at ∙ (ap (number_of L) x ∙ v.at)

    not_both : (l k : ℕ) → At T m0 l → Stays k → F l ≡ F k → ⊥
    not_both l k a w e = let v = at_value l a in let u : F k < m0 = (kept k w).within in omega (arith, v, u, e)

    one_of : (l k : ℕ) → At T m0 l ⊎ Stays l → At T m0 k ⊎ Stays k → F l ≡ F k → l ≡ k
    one_of l k (inl a) (inl b) e = at_once T m0 l k a b (sym (at_value l a) ∙ (e ∙ at_value k b))
    one_of l k (inl a) (inr w) e = absurd (not_both l k a w e)
    one_of l k (inr w) (inl b) e = absurd (not_both k l b w (sym e))
    one_of l k (inr w) (inr v) e = both_kept l k w v e

    pub numbers_apart : (l k : ℕ) → l < old_count → k < old_count → F l ≡ F k → l ≡ k
    numbers_apart l k h g e = one_of l k (which l h) (which k g) e
