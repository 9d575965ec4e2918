-- A fresh name is not taken, and two are not the same. The names of a row are distinct, so each taken name leaves out one of
-- them at most, and enough are left; a longer row has the same names in front.
use Rattle.std.proofs.Common.{◌≡◌, ℕ, zero, suc, ◌+◌, ◌-◌, ◌≤◌, ◌<◌, ◌^◌, Bool, true, false, List, [], ◌∷◌, ◌++◌, length, get_or, refl, sym, subst, ap, ◌∙◌, arith, cond}
use Rattle.std.specs.Prelude.{not, filter}
use Rattle.std.specs.Fmt.{decimal}
use Rattle.std.specs.Str.{bytes_eq}
use Rattle.std.proofs.Math.ListN.{get_or-append}
use Rattle.std.proofs.lemmas.Fmt.{decimal_injective}
use Rattle.std.proofs.lemmas.Bool.{or_from, or_parts, or_left, or_right}
use Rattle.std.proofs.lemmas.Bool.Decides.{same_from_decides}
use Rattle.std.proofs.lemmas.List.{append_cancel_left}
use Rattle.std.proofs.lemmas.List.Elements.{filter-append}
use Rattle.std.proofs.lemmas.Slice.Eq.{bytes_eq-Decides}
use Rattle.rx_tree.specs.Lists.{Every}
use Rattle.rx_hoist_extraction.specs.Names.{Names, is_among, Distinct}
use Rattle.rx_hoist_extraction.specs.Fresh.{row, left_out, fresh}

-- ---- truth values, and equal names

not_true : (b : Bool) → (b ≡ true → ⊥) → b ≡ false
not_true false n = refl
not_true true n = absurd (n refl)

negated : (b : Bool) → not b ≡ true → b ≡ false
negated false e = refl
negated true e = absurd (cc)

pub unlike : (x y : List ℕ) → (x ≡ y → ⊥) → bytes_eq x y ≡ false
unlike x y n = not_true (bytes_eq x y) (λ e. n ((bytes_eq-Decides x y).0 e))

sides : (x y : List ℕ) → bytes_eq x y ≡ bytes_eq y x
sides x y = same_from_decides (bytes_eq x y) (bytes_eq y x) (bytes_eq-Decides x y)
    ((λ e. sym ((bytes_eq-Decides y x).0 e)), (λ e. (bytes_eq-Decides y x).1 (sym e)))

-- ---- a row is distinct

behind_row : (word : List ℕ) (n m many : ℕ) → n < m → m + many ≤ 2 ^ 64 → is_among (word ++ decimal n) (row word m many) ≡ false
behind_row word n m zero l b = refl
behind_row word n m (suc many) l b = or_from (bytes_eq (word ++ decimal n) (word ++ decimal m)) (is_among (word ++ decimal n) (row word (suc m) many))
    (unlike (word ++ decimal n) (word ++ decimal m)
    (λ e. let d : n ≡ m = decimal_injective n m (omega arith) (omega arith) (append_cancel_left word (decimal n) (decimal m) e) in omega (arith, d)))
    (behind_row word n (suc m) many (omega arith) (omega arith))

row_distinct : (word : List ℕ) (n many : ℕ) → n + many ≤ 2 ^ 64 → Distinct (row word n many)
row_distinct word n zero b = tt
row_distinct word n (suc many) b = (behind_row word n (suc n) many (omega arith) (omega arith), row_distinct word (suc n) many (omega arith))

-- ---- what a test leaves

passed : (p : List ℕ → Bool) (x : List ℕ) (xs : Names) → p x ≡ true → filter p (x ∷ xs) ≡ x ∷ filter p xs
passed p x xs e = rw e refl

dropped : (p : List ℕ → Bool) (x : List ℕ) (xs : Names) → p x ≡ false → filter p (x ∷ xs) ≡ filter p xs
dropped p x xs e = rw e refl

apart_at : (p : List ℕ → Bool) (y x : List ℕ) (xs : Names) (b : Bool) → p x ≡ b → bytes_eq y x ≡ false → is_among y (filter p xs) ≡ false
    → is_among y (filter p (x ∷ xs)) ≡ false
apart_at p y x xs true e n h = ap (is_among y) (passed p x xs e) ∙ or_from (bytes_eq y x) (is_among y (filter p xs)) n h
apart_at p y x xs false e n h = ap (is_among y) (dropped p x xs e) ∙ h

still_apart : (p : List ℕ → Bool) (y : List ℕ) (xs : Names) → is_among y xs ≡ false → is_among y (filter p xs) ≡ false
still_apart p y [] e = refl
still_apart p y (x ∷ xs) e = let n = or_parts (bytes_eq y x) (is_among y xs) e in
    apart_at p y x xs (p x) refl n.0 (still_apart p y xs n.1)

distinct_at : (p : List ℕ → Bool) (x : List ℕ) (xs : Names) (b : Bool) → p x ≡ b → is_among x xs ≡ false → Distinct (filter p xs) → Distinct (filter p (x ∷ xs))
distinct_at p x xs true e n d = subst Distinct (sym (passed p x xs e)) (still_apart p x xs n, d)
distinct_at p x xs false e n d = subst Distinct (sym (dropped p x xs e)) d

still_distinct : (p : List ℕ → Bool) (xs : Names) → Distinct xs → Distinct (filter p xs)
still_distinct p [] d = tt
still_distinct p (x ∷ xs) d = distinct_at p x xs (p x) refl d.0 (still_distinct p xs d.1)

passes_at : (p : List ℕ → Bool) (x : List ℕ) (xs : Names) (b : Bool) → p x ≡ b → ((i : ℕ) → i < length (filter p xs) → p (get_or (filter p xs) i []) ≡ true)
    → (i : ℕ) → i < length (filter p (x ∷ xs)) → p (get_or (filter p (x ∷ xs)) i []) ≡ true
passes_at p x xs true e h zero l = ap (λ ys. p (get_or ys 0 [])) (passed p x xs e) ∙ e
passes_at p x xs true e h (suc i) l = ap (λ ys. p (get_or ys (suc i) [])) (passed p x xs e) ∙ h i (omega (arith, ap length (passed p x xs e)))
passes_at p x xs false e h i l = ap (λ ys. p (get_or ys i [])) (dropped p x xs e) ∙ h i (omega (arith, ap length (dropped p x xs e)))

passes : (p : List ℕ → Bool) (xs : Names) (i : ℕ) → i < length (filter p xs) → p (get_or (filter p xs) i []) ≡ true
passes p [] i l = absurd (omega arith)
passes p (x ∷ xs) i l = passes_at p x xs (p x) refl (passes p xs) i l

-- ---- a name leaves out one at most

abbrev is_other : List ℕ → List ℕ → Bool
is_other t x = not (bytes_eq x t)

none_removed : (t : List ℕ) (xs : Names) → is_among t xs ≡ false → filter (is_other t) xs ≡ xs
none_removed t [] e = refl
none_removed t (x ∷ xs) e = let n = or_parts (bytes_eq t x) (is_among t xs) e in
    passed (is_other t) x xs (ap not (sides x t ∙ n.0)) ∙ ap (λ ys. x ∷ ys) (none_removed t xs n.1)

one_at_most_at : (t x : List ℕ) (xs : Names) (b : Bool) → bytes_eq x t ≡ b → is_among x xs ≡ false → length xs ≤ suc (length (filter (is_other t) xs))
    → length (x ∷ xs) ≤ suc (length (filter (is_other t) (x ∷ xs)))
one_at_most_at t x xs true e n h = let same : x ≡ t = (bytes_eq-Decides x t).0 e in
    let all = ap length (dropped (is_other t) x xs (ap not e) ∙ none_removed t xs (subst (λ y. is_among y xs ≡ false) same n)) in
    omega (arith, all)
one_at_most_at t x xs false e n h = omega (arith, ap length (passed (is_other t) x xs (ap not e)))

one_at_most : (t : List ℕ) (xs : Names) → Distinct xs → length xs ≤ suc (length (filter (is_other t) xs))
one_at_most t [] d = omega arith
one_at_most t (x ∷ xs) d = one_at_most_at t x xs (bytes_eq x t) refl d.0 (one_at_most t xs d.1)

-- ---- enough are left

none_left_out : (xs : Names) → left_out [] xs ≡ xs
none_left_out [] = refl
none_left_out (x ∷ xs) = ap (λ ys. x ∷ ys) (none_left_out xs)

one_by_one_at : (t : List ℕ) (ts : Names) (x : List ℕ) (xs : Names) (b : Bool) → bytes_eq x t ≡ b → left_out (t ∷ ts) xs ≡ left_out ts (filter (is_other t) xs)
    → left_out (t ∷ ts) (x ∷ xs) ≡ left_out ts (filter (is_other t) (x ∷ xs))
one_by_one_at t ts x xs true e h = rw e h
one_by_one_at t ts x xs false e h = rw e (ap (λ ys. cond (not (is_among x ts)) (x ∷ ys) ys) h)

one_by_one : (t : List ℕ) (ts xs : Names) → left_out (t ∷ ts) xs ≡ left_out ts (filter (is_other t) xs)
one_by_one t ts [] = refl
one_by_one t ts (x ∷ xs) = one_by_one_at t ts x xs (bytes_eq x t) refl (one_by_one t ts xs)

enough : (ts xs : Names) → Distinct xs → length xs ≤ length ts + length (left_out ts xs)
enough [] xs d = omega (arith, ap length (none_left_out xs))
enough (t ∷ ts) xs d = omega (arith, one_at_most t xs d, enough ts (filter (is_other t) xs) (still_distinct (is_other t) xs d), ap length (one_by_one t ts xs))

row_length : (word : List ℕ) (n many : ℕ) → length (row word n many) ≡ many
row_length word n zero = refl
row_length word n (suc many) = ap suc (row_length word (suc n) many)

enough_left : (word : List ℕ) (taken : Names) (i : ℕ) → length taken + suc i ≤ 2 ^ 64 → i < length (left_out taken (row word 0 (length taken + suc i)))
enough_left word taken i b = let many = length taken + suc i in
    omega (arith, enough taken (row word 0 many) (row_distinct word 0 many (omega arith)), row_length word 0 many)

-- ---- a fresh name is not taken

pub fresh_is_free : (word : List ℕ) (taken : Names) (i : ℕ) → length taken + suc i ≤ 2 ^ 64 → is_among (fresh word taken i) taken ≡ false
fresh_is_free word taken i b = negated (is_among (fresh word taken i) taken)
    (passes (λ x. not (is_among x taken)) (row word 0 (length taken + suc i)) i (enough_left word taken i b))

-- ---- what all names of a word are, a fresh one is

all_of_row : (Q : List ℕ → Type 0) (word : List ℕ) → ((n : ℕ) → n < 2 ^ 64 → Q (word ++ decimal n)) → (n many : ℕ) → n + many ≤ 2 ^ 64 → Every Q (row word n many)
all_of_row Q word q n zero b = tt
all_of_row Q word q n (suc many) b = (q n (omega arith), all_of_row Q word q (suc n) many (omega arith))

all_left_at : (Q : List ℕ → Type 0) (p : List ℕ → Bool) (x : List ℕ) (xs : Names) (b : Bool) → p x ≡ b → Q x → Every Q (filter p xs) → Every Q (filter p (x ∷ xs))
all_left_at Q p x xs true e q h = subst (Every Q) (sym (passed p x xs e)) (q, h)
all_left_at Q p x xs false e q h = subst (Every Q) (sym (dropped p x xs e)) h

all_left : (Q : List ℕ → Type 0) (p : List ℕ → Bool) (xs : Names) → Every Q xs → Every Q (filter p xs)
all_left Q p [] h = tt
all_left Q p (x ∷ xs) h = all_left_at Q p x xs (p x) refl h.0 (all_left Q p xs h.1)

one_of_all : (Q : List ℕ → Type 0) (xs : Names) (i : ℕ) → Every Q xs → i < length xs → Q (get_or xs i [])
one_of_all Q [] i h l = absurd (omega arith)
one_of_all Q (x ∷ xs) zero h l = h.0
one_of_all Q (x ∷ xs) (suc i) h l = one_of_all Q xs i h.1 (omega arith)

pub fresh_has : (Q : List ℕ → Type 0) (word : List ℕ) → ((n : ℕ) → n < 2 ^ 64 → Q (word ++ decimal n))
    → (taken : Names) (i : ℕ) → length taken + suc i ≤ 2 ^ 64 → Q (fresh word taken i)
fresh_has Q word q taken i b = let many = length taken + suc i in
    one_of_all Q (left_out taken (row word 0 many)) i
    (all_left Q (λ x. not (is_among x taken)) (row word 0 many) (all_of_row Q word q 0 many (omega arith))) (enough_left word taken i b)

-- ---- two are not the same

is_there : (xs : Names) (i : ℕ) → i < length xs → is_among (get_or xs i []) xs ≡ true
is_there [] i l = absurd (omega arith)
is_there (x ∷ xs) zero l = or_left (bytes_eq x x) (is_among x xs) ((bytes_eq-Decides x x).1 refl)
is_there (x ∷ xs) (suc i) l = or_right (bytes_eq (get_or xs i []) x) (is_among (get_or xs i []) xs) (is_there xs i (omega arith))

distinct_differ : (xs : Names) (i j : ℕ) → Distinct xs → i < j → j < length xs → get_or xs i [] ≡ get_or xs j [] → ⊥
distinct_differ [] i j d l m e = omega arith
distinct_differ (x ∷ xs) i zero d l m e = omega arith
distinct_differ (x ∷ xs) zero (suc j) d l m e = let there : is_among x xs ≡ true = subst (λ y. is_among y xs ≡ true) (sym e) (is_there xs j (omega arith)) in
    let clash : true ≡ false = sym there ∙ d.0 in cc
distinct_differ (x ∷ xs) (suc i) (suc j) d l m e = distinct_differ xs i j d.1 (omega arith) (omega arith) e

longer_row : (word : List ℕ) (n a b : ℕ) → row word n (a + b) ≡ row word n a ++ row word (n + a) b
longer_row word n zero b = let none : 0 + b ≡ b = omega arith in
    let same : n ≡ n + 0 = omega arith in ap (row word n) none ∙ ap (λ m. row word m b) same
longer_row word n (suc a) b = let more : suc a + b ≡ suc (a + b) = omega arith in
    let from : suc n + a ≡ n + suc a = omega arith in
    ap (row word n) more ∙ ap (λ ys. (word ++ decimal n) ∷ ys) (longer_row word (suc n) a b) ∙ ap (λ m. row word n (suc a) ++ row word m b) from

longer_left : (word : List ℕ) (taken : Names) (a b : ℕ) → left_out taken (row word 0 (a + b)) ≡ left_out taken (row word 0 a) ++ left_out taken (row word a b)
longer_left word taken a b = let none : 0 + a ≡ a = omega arith in
    ap (left_out taken) (longer_row word 0 a b) ∙ ap (λ m. left_out taken (row word 0 a ++ row word m b)) none
    ∙ filter-append (λ x. not (is_among x taken)) (row word 0 a) (row word a b)

-- the i-th of a longer row
fresh_in : (word : List ℕ) (taken : Names) (i k : ℕ) → length taken + suc i ≤ 2 ^ 64
    → fresh word taken i ≡ get_or (left_out taken (row word 0 (length taken + suc i + k))) i []
fresh_in word taken i k b = let many = length taken + suc i in
    sym (ap (λ ys. get_or ys i []) (longer_left word taken many k)
    ∙ get_or-append (left_out taken (row word 0 many)) (left_out taken (row word many k)) [] i (enough_left word taken i b))

pub fresh_differ : (word : List ℕ) (taken : Names) (i j : ℕ) → i < j → length taken + suc j ≤ 2 ^ 64 → fresh word taken i ≡ fresh word taken j → ⊥
fresh_differ word taken i j l b e = let many = length taken + suc j in
    let same : length taken + suc i + (j - i) ≡ many = omega arith in
    distinct_differ (left_out taken (row word 0 many)) i j
    (still_distinct (λ x. not (is_among x taken)) (row word 0 many) (row_distinct word 0 many (omega arith))) l (enough_left word taken j b)
    (sym (fresh_in word taken i (j - i) (omega arith) ∙ ap (λ n. get_or (left_out taken (row word 0 n)) i []) same) ∙ e)
