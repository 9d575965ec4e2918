-- The lifetimes of a merged function are those of the declared ones to which none before is equal, in order; no two of them are equal.
use Rattle.std.proofs.Common.{◌≡◌, ◌⊎◌, inl, inr, ℕ, zero, suc, ◌+◌, ◌<◌, ◌≤◌, Bool, true, false, ◌||◌, List, [], ◌∷◌, ◌++◌, map, drop, length, get_or, Some, refl, sym, ap, subst, ◌∙◌, arith}
use Rattle.std.specs.Prelude.{if◌then◌else◌}
use Rattle.std.specs.Str.{bytes_eq}
use Rattle.std.proofs.lemmas.Bool.{true≢false, false≢true, and_parts, and_from, or_parts, or_left, or_right, false_from_ne_true, cases_order}
use Rattle.std.proofs.lemmas.Slice.Eq.{bytes_eq-Decides}
use Rattle.rx_tree.specs.declared.tree.Ident.{Ident}
use Rattle.rx_tree.specs.declared.tree.BoundLifetime.{BoundLifetime}
use Rattle.rx_tree.specs.Plain.{Function}
use Rattle.rx_graph_cycles.specs.Reaches.{IsIn}
use Rattle.rx_hoist_extraction.specs.Names.{Names, is_among, Distinct}
use Rattle.rx_hoist_extraction.specs.OwnLifetimes.{declared_lifetimes}
use Rattle.rx_compact_lifetimes.specs.declared.rewriting.Rewriting.{Rewriting}
use Rattle.rx_compact_lifetimes.specs.Rewritten.{becomes, ident_or, renamed_ident, renamed_bound}
use Rattle.rx_compact_lifetimes.specs.Merged.{are_equal, first_equal, mergings, mergings_of, joined, merged, equals_before, first_numbers, IsPreorder}

abbrev names : List BoundLifetime → Names
names ls = map (λ (l : BoundLifetime). l.name.name) ls

abbrev name : List BoundLifetime → ℕ → List ℕ
name ls i = get_or (names ls) i []

same_word : (x : List ℕ) → bytes_eq x x ≡ true
same_word x = (bytes_eq-Decides x x).1 refl

apart : (x y : List ℕ) → bytes_eq x y ≡ false → x ≡ y → ⊥
apart x y e q = true≢false (sym ((bytes_eq-Decides x y).1 q) ∙ e)

not_among : (x : List ℕ) (xs : List BoundLifetime) (i : ℕ) → is_among x (names xs) ≡ false → i < length xs → bytes_eq x (name xs i) ≡ false
not_among x [] i e h = absurd (omega arith)
not_among x (y ∷ ys) zero e h = (or_parts (bytes_eq x y.name.name) (is_among x (names ys)) e).0
not_among x (y ∷ ys) (suc i) e h = not_among x ys i (or_parts (bytes_eq x y.name.name) (is_among x (names ys)) e).1 (omega arith)

-- of distinct names two at different places are not the same
distinct_at : (ls : List BoundLifetime) → Distinct (names ls) → (i j : ℕ) → i < j → j < length ls → name ls i ≡ name ls j → ⊥
distinct_at [] d i j h w e = absurd (omega arith)
distinct_at (l ∷ ls) d i zero h w e = absurd (omega arith)
distinct_at (l ∷ ls) d zero (suc j) h w e = apart l.name.name (name ls j) (not_among l.name.name ls j d.0 (omega arith)) e
distinct_at (l ∷ ls) d (suc i) (suc j) h w e = distinct_at ls d.1 i j (omega arith) (omega arith) e

among_last : (x z : List ℕ) (xs : Names) → is_among x (xs ++ z ∷ []) ≡ (is_among x xs || bytes_eq x z)
among_last x z [] = alone (bytes_eq x z)
  where
    alone : (b : Bool) → (b || false) ≡ (false || b)
    alone true = refl
    alone false = refl
among_last x z (y ∷ ys) = ap (λ b. bytes_eq x y || b) (among_last x z ys) ∙ sides (bytes_eq x y) (is_among x ys) (bytes_eq x z)
  where
    sides : (a b c : Bool) → (a || (b || c)) ≡ ((a || b) || c)
    sides true b c = refl
    sides false b c = refl

-- where a list stands behind some numbers of another
step : (all : List BoundLifetime) (l : ℕ) (y : BoundLifetime) (ys : List BoundLifetime) → drop l all ≡ y ∷ ys
    → (l < length all) × (name all l ≡ y.name.name) × (drop (suc l) all ≡ ys)
step [] zero y ys e = absurd (cc)
step [] (suc l) y ys e = absurd (cc)
step (x ∷ xs) zero y ys e = let q : x ≡ y = cc in (omega arith, ap (λ (b : BoundLifetime). b.name.name) q, cc)
step (x ∷ xs) (suc l) y ys e = let r = step xs l y ys e in (omega (arith, r.0), r.1, r.2)

last_or_before : (j m : ℕ) → j < suc m → (j ≡ m) ⊎ (j < m)
last_or_before zero zero h = inl refl
last_or_before zero (suc m) h = inr (omega arith)
last_or_before (suc j) zero h = absurd (omega arith)
last_or_before (suc j) (suc m) h = elim (last_or_before j m (omega arith)) [
  | inl e ↦ inl (ap suc e)
  | inr b ↦ inr (omega (arith, b))
]

module _ (o : ℕ → ℕ → Bool) where
  scan : (x : List ℕ) (ys : List BoundLifetime) (l k m i : ℕ) → k + i ≡ m → i < length ys → are_equal o l m ≡ true
      → ((j : ℕ) → k ≤ j → j < m → are_equal o l j ≡ false) → first_equal o l k ys x ≡ name ys i
  scan x [] l k m i e h t n = absurd (omega arith)
  scan x (y ∷ ys) l k m zero e h t n = ap (λ b. if b then y.name.name else first_equal o l (suc k) ys x) (subst (λ j. are_equal o l j ≡ true) (omega (arith, e)) t)
  scan x (y ∷ ys) l k m (suc i) e h t n =
      ap (λ b. if b then y.name.name else first_equal o l (suc k) ys x) (n k (omega arith) (omega arith))
      ∙ scan x ys l (suc k) m i (omega arith) (omega arith) t (λ j a b. n j (omega (arith, a)) b)

  none_before : (l m : ℕ) → equals_before o l m ≡ false → (j : ℕ) → j < m → are_equal o l j ≡ false
  none_before l zero e j h = absurd (omega arith)
  none_before l (suc m) e j h =
      let b = or_parts (are_equal o l m) (equals_before o l m) e in
      elim (last_or_before j m h) [
        | inl q ↦ subst (λ i. are_equal o l i ≡ false) (sym q) b.0
        | inr w ↦ none_before l m b.1 j w
      ]

  -- the first
  least : (l n : ℕ) → equals_before o l n ≡ true → (k : ℕ) × (k < n) × (are_equal o l k ≡ true) × (equals_before o l k ≡ false)
  least l zero e = absurd (false≢true e)
  least l (suc n) e = by (equals_before o l n) refl (least l n)
    where
      left : (a b : Bool) → b ≡ false → (a || b) ≡ true → a ≡ true
      left true b h t = refl
      left false b h t = sym h ∙ t

      by : (b : Bool) → equals_before o l n ≡ b → (equals_before o l n ≡ true → (k : ℕ) × (k < n) × (are_equal o l k ≡ true) × (equals_before o l k ≡ false))
          → (k : ℕ) × (k < suc n) × (are_equal o l k ≡ true) × (equals_before o l k ≡ false)
      by true h again = let r = again h in (r.0, omega (arith, r.1), r.2, r.3)
      by false h again = (n, omega arith, left (are_equal o l n) (equals_before o l n) h e, h)

  module _ (all : List BoundLifetime) (once : Distinct (names all)) (preorder : IsPreorder o) where
    abbrev rs : List Rewriting
    rs = mergings o all 0 all

    equal_itself : (l : ℕ) → are_equal o l l ≡ true
    equal_itself l = and_from (o l l) (o l l) (preorder.itself l) (preorder.itself l)

    equal_on : (l k m : ℕ) → are_equal o l k ≡ true → are_equal o k m ≡ true → are_equal o l m ≡ true
    equal_on l k m a b =
        let p = and_parts (o l k) (o k l) a in
        let q = and_parts (o k m) (o m k) b in
        and_from (o l m) (o m l) (preorder.on l k m p.0 q.0) (preorder.on m k l q.1 p.1)

    looked_up : (ys : List BoundLifetime) (k i : ℕ) → Distinct (names ys) → i < length ys
        → becomes (mergings o all k ys) (name ys i) ≡ Some (first_equal o (k + i) 0 all (name ys i))
    looked_up [] k i d h = absurd (omega arith)
    looked_up (y ∷ ys) k zero d h =
        ap (λ b. if b then Some (first_equal o k 0 all y.name.name) else becomes (mergings o all (suc k) ys) y.name.name) (same_word y.name.name)
        ∙ ap (λ j. Some (first_equal o j 0 all y.name.name)) (omega arith)
    looked_up (y ∷ ys) k (suc i) d h =
        ap (λ b. if b then Some (first_equal o k 0 all y.name.name) else becomes (mergings o all (suc k) ys) (name ys i))
        (false_from_ne_true (bytes_eq (name ys i) y.name.name) (λ t. apart y.name.name (name ys i) (not_among y.name.name ys i d.0 (omega arith)) (sym ((bytes_eq-Decides (name ys i) y.name.name).0 t))))
        ∙ (looked_up ys (suc k) i d.1 (omega arith) ∙ ap (λ j. Some (first_equal o j 0 all (name ys i))) (omega arith))

    renamed : (l : ℕ) (x : Ident) → l < length all → name all l ≡ x.name → (renamed_ident rs x).name ≡ first_equal o l 0 all (name all l)
    renamed l x h e =
        ap (λ r. (ident_or x r).name) (ap (becomes rs) (sym e) ∙ (looked_up all 0 l once h ∙ ap (λ j. Some (first_equal o j 0 all (name all l))) (omega arith)))

    -- the first of those that are equal has none before
    first_of_all : (l : ℕ) → equals_before o l l ≡ true
        → (k : ℕ) × (k < l) × (equals_before o k k ≡ false) × ((x : List ℕ) → l < length all → first_equal o l 0 all x ≡ name all k)
    first_of_all l h =
        let r = least l l h in (
          r.0,
          r.1,
          false_from_ne_true (equals_before o r.0 r.0) (λ t. let q = least r.0 r.0 t in
              false≢true (sym (none_before l r.0 r.3 q.0 q.1) ∙ equal_on l r.0 q.0 r.2 q.2)),
          λ x w. scan x all l 0 r.0 r.0 (omega arith) (omega (arith, r.1, w)) r.2 (λ j a b. none_before l r.0 r.3 j b),
        )

    first_itself : (l : ℕ) → equals_before o l l ≡ false → (x : List ℕ) → l < length all → first_equal o l 0 all x ≡ name all l
    first_itself l h x w = scan x all l 0 l l (omega arith) w (equal_itself l) (λ j a b. none_before l l h j b)

    -- what was found among the first lifetimes: the names of those that stay
    record Seen (l : ℕ) (found : Names) : Type 0 where
      has : (j : ℕ) → j < l → equals_before o j j ≡ false → is_among (name all j) found ≡ true
      only : (x : List ℕ) → is_among x found ≡ true → (j : ℕ) × (j < l) × (x ≡ name all j)

    nothing : Seen 0 []
    nothing = record { has = λ j h e. absurd (omega (arith, h)); only = λ x t. absurd (false≢true t) }

    no_more : (l : ℕ) (found : Names) → equals_before o l l ≡ true → Seen l found → Seen (suc l) found
    no_more l found h s = record {
      has = λ j w e. elim (last_or_before j l w) [
        | inl q ↦ absurd (true≢false (sym h ∙ subst (λ i. equals_before o i i ≡ false) q e))
        | inr b ↦ s.has j b e
      ];
      only = λ x t. let r = s.only x t in (r.0, omega (arith, r.1), r.2);
    }

    one_more : (l : ℕ) (found : Names) (z : List ℕ) → z ≡ name all l → Seen l found → Seen (suc l) (found ++ z ∷ [])
    one_more l found z e s = record {
      has = λ j w n. among_last (name all j) z found ∙ elim (last_or_before j l w) [
        | inl q ↦ or_right (is_among (name all j) found) (bytes_eq (name all j) z) ((bytes_eq-Decides (name all j) z).1 (ap (name all) q ∙ sym e))
        | inr b ↦ or_left (is_among (name all j) found) (bytes_eq (name all j) z) (s.has j b n)
      ];
      only = λ x t. by x (is_among x found) refl (sym (among_last x z found) ∙ t);
    }
      where
        by : (x : List ℕ) (b : Bool) → is_among x found ≡ b → (is_among x found || bytes_eq x z) ≡ true → (j : ℕ) × (j < suc l) × (x ≡ name all j)
        by x true q t = let r = s.only x q in (r.0, omega (arith, r.1), r.2)
        by x false q t = (l, omega arith, (bytes_eq-Decides x z).0 (sym (ap (λ b. b || bytes_eq x z) q) ∙ t) ∙ e)

    stay : (whole ys : List BoundLifetime) (l : ℕ) (found : Names) → drop l all ≡ ys → Seen l found → names (joined whole found (map (renamed_bound rs) ys)) ≡ map (name all) (first_numbers o l ys)
    stay whole [] l found e s = refl
    stay whole (y ∷ ys) l found e s = by (equals_before o l l) refl (stay whole ys (suc l))
      where
        at : (l < length all) × (name all l ≡ y.name.name) × (drop (suc l) all ≡ ys)
        at = step all l y ys e

        z : List ℕ
        z = (renamed_ident rs y.name).name

        by : (b : Bool) → equals_before o l l ≡ b
            → ((more : Names) → drop (suc l) all ≡ ys → Seen (suc l) more → names (joined whole more (map (renamed_bound rs) ys)) ≡ map (name all) (first_numbers o (suc l) ys))
            → names (joined whole found (map (renamed_bound rs) (y ∷ ys))) ≡ map (name all) (first_numbers o l (y ∷ ys))
        by true h again =
            let r = first_of_all l h in
            let q : z ≡ name all r.0 = renamed l y.name at.0 at.1 ∙ r.3 (name all l) at.0 in
            let t : is_among z found ≡ true = ap (λ x. is_among x found) q ∙ s.has r.0 r.1 r.2 in
            rw (t, h) (again found at.2 (no_more l found h s))
        by false h again =
            let q : z ≡ name all l = renamed l y.name at.0 at.1 ∙ first_itself l h (name all l) at.0 in
            let t : is_among z found ≡ false = false_from_ne_true (is_among z found) (λ c. let r = s.only z c in
            distinct_at all once r.0 l r.1 at.0 (sym r.2 ∙ q)) in
            rw (t, h) (ap (λ x. x ∷ names (joined whole (found ++ z ∷ []) (map (renamed_bound rs) ys))) q
            ∙ ap (λ r. name all l ∷ r) (again (found ++ z ∷ []) at.2 (one_more l found z q s)))

pub merged_are_firsts : (o : ℕ → ℕ → Bool) → IsPreorder o → (f : Function) → Distinct (declared_lifetimes f) → declared_lifetimes (merged o f) ≡ map (λ l. get_or (declared_lifetimes f) l []) (first_numbers o 0 f.lifetimes)
merged_are_firsts o p f d = stay o f.lifetimes d p (map (renamed_bound (mergings_of o f)) f.lifetimes) f.lifetimes 0 [] refl (nothing o f.lifetimes d p)

module _ (o : ℕ → ℕ → Bool) where
  symmetric : (l k : ℕ) → are_equal o l k ≡ true → are_equal o k l ≡ true
  symmetric l k e = let p = and_parts (o l k) (o k l) e in and_from (o k l) (o l k) p.1 p.0

  none_in_front : (ls : List BoundLifetime) (n l : ℕ) → IsIn (first_numbers o n ls) l → equals_before o l l ≡ false
  none_in_front [] n l h = absurd h
  none_in_front (x ∷ xs) n l h = by (equals_before o n n) refl h (none_in_front xs (suc n) l)
    where
      by : (b : Bool) → equals_before o n n ≡ b → IsIn (if b then first_numbers o (suc n) xs else n ∷ first_numbers o (suc n) xs) l
          → (IsIn (first_numbers o (suc n) xs) l → equals_before o l l ≡ false) → equals_before o l l ≡ false
      by true e h again = again h
      by false e (inl q) again = subst (λ m. equals_before o m m ≡ false) (q) e
      by false e (inr h) again = again h

  pub none_equal : (ls : List BoundLifetime) (l k : ℕ) → IsIn (first_numbers o 0 ls) l → IsIn (first_numbers o 0 ls) k → are_equal o l k ≡ true → l ≡ k
  none_equal ls l k a b e = elim (cases_order l k) [
    | inl q ↦ q
    | inr (inl w) ↦ absurd (true≢false (sym (symmetric l k e) ∙ none_before o k k (none_in_front ls 0 k b) l w))
    | inr (inr w) ↦ absurd (true≢false (sym e ∙ none_before o l l (none_in_front ls 0 l a) k w))
  ]
