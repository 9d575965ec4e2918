-- Lists of numbers in which each stands once, and choices from them.
use Rattle.std.proofs.Common.{◌≡◌, ℕ, ◌==◌, ◌+◌, ◌<◌, Bool, true, false, not, ◌||◌, List, [], ◌∷◌, ◌++◌, if◌then◌else◌, drop, length, get_or, Result, Ok, Err, IfOk, refl, sym, ap, ◌∙◌}
use Rattle.std.specs.List.{list_any}
use Rattle.std.specs.declared.alloc.AllocError.{AllocError}
use Rattle.std.proofs.lemmas.Bool.{eqb-true}
use Rattle.std.proofs.lemmas.List.{append_assoc, append-nil, at_drop_more}
use Rattle.rx_exits_plan.specs.Occurrences.{Occurrence, names, declared, declared_among, has_number, drops, firsts, those}
use Rattle.rx_exits_occurrences.specs.Wanted.{is_wanted, declared_one}

pub no_more_numbers : (l : List ℕ) → l ++ [] ≡ l
no_more_numbers l = append-nil l

pub ruleset naming_rules = (no_more_numbers)

-- ---- what a set has

pub has_keys : (ks : List ℕ) (x : ℕ) → list_any (λ k. x == k) ks ≡ has_number x ks
has_keys [] x = refl
has_keys (k ∷ ks) x = ap (λ b. (x == k) || b) (has_keys ks x)

has_more : (x y : ℕ) (ks : List ℕ) → has_number x (ks ++ y ∷ []) ≡ has_number x ks || (x == y)
has_more x y [] = by (x == y)
  where
    by : (b : Bool) → b || false ≡ b
    by true = refl
    by false = refl
has_more x y (k ∷ ks) = ap (λ b. (x == k) || b) (has_more x y ks) ∙ by (x == k) (has_number x ks) (x == y)
  where
    by : (a b c : Bool) → a || (b || c) ≡ (a || b) || c
    by true b c = refl
    by false b c = refl

chosen_by : (a b : Bool) (z : ℕ) (l m : List ℕ) → a ≡ b → l ≡ m → (if not a then z ∷ l else l) ≡ (if not b then z ∷ m else m)
chosen_by a b z l m e f = ap (λ c. if not c then z ∷ l else l) e ∙ ap (λ (k : List ℕ). if not b then z ∷ k else k) f

-- one that is among them need not be dropped first
left_drops : (y : ℕ) (ks l : List ℕ) → has_number y ks ≡ true → those (λ x. not (has_number x ks)) (drops y l) ≡ those (λ x. not (has_number x ks)) l
left_drops y ks [] h = refl
left_drops y ks (z ∷ zs) h = by (left_drops y ks zs h) (z == y) refl
  where
    by : those (λ x. not (has_number x ks)) (drops y zs) ≡ those (λ x. not (has_number x ks)) zs → (b : Bool) → (z == y) ≡ b
        → those (λ x. not (has_number x ks)) (if b then drops y zs else z ∷ drops y zs) ≡ those (λ x. not (has_number x ks)) (z ∷ zs)
    by later true e =
        later
        ∙ sym (ap (λ c. if not c then z ∷ those (λ x. not (has_number x ks)) zs else those (λ x. not (has_number x ks)) zs) (ap (λ w. has_number w ks) (eqb-true z y e) ∙ h))
    by later false e = chosen_by (has_number z ks) (has_number z ks) z _ _ refl later

-- one that is added is dropped
left_added : (y : ℕ) (ks l : List ℕ) → those (λ x. not (has_number x (ks ++ y ∷ []))) l ≡ those (λ x. not (has_number x ks)) (drops y l)
left_added y ks [] = refl
left_added y ks (z ∷ zs) = by (left_added y ks zs) (z == y) refl
  where
    or_true : (a : Bool) → a || true ≡ true
    or_true true = refl
    or_true false = refl

    or_false : (a : Bool) → a || false ≡ a
    or_false true = refl
    or_false false = refl

    by : those (λ x. not (has_number x (ks ++ y ∷ []))) zs ≡ those (λ x. not (has_number x ks)) (drops y zs) → (b : Bool) → (z == y) ≡ b
        → those (λ x. not (has_number x (ks ++ y ∷ []))) (z ∷ zs) ≡ those (λ x. not (has_number x ks)) (if b then drops y zs else z ∷ drops y zs)
    by later true e =
        ap (λ c. if not c then z ∷ those (λ x. not (has_number x (ks ++ y ∷ []))) zs else those (λ x. not (has_number x (ks ++ y ∷ []))) zs)
        (has_more z y ks ∙ ap (λ c. has_number z ks || c) e ∙ or_true (has_number z ks))
        ∙ later
    by later false e =
        chosen_by (has_number z (ks ++ y ∷ [])) (has_number z ks) z _ _ (has_more z y ks ∙ ap (λ c. has_number z ks || c) e ∙ or_false (has_number z ks)) later

-- ---- each number once

-- a turn of the loop that makes the set
pub set_turn : (xs : List ℕ) (i d : ℕ) (old new all : List ℕ) → i < length xs
    → new ≡ (if has_number (get_or xs i d) old then old else old ++ get_or xs i d ∷ [])
    → old ++ those (λ y. not (has_number y old)) (firsts (drop i xs)) ≡ all
    → new ++ those (λ y. not (has_number y new)) (firsts (drop (i + 1) xs)) ≡ all
set_turn xs i d old new all less added done =
    ap (λ (l : List ℕ). l ++ those (λ y. not (has_number y l)) rest) added
    ∙ by (has_number (get_or xs i d) old) refl
    ∙ ap (λ l. old ++ l) (sym (at_drop_more (λ ys. those (λ y. not (has_number y old)) (firsts ys)) xs i d less)) ∙ done
  where
    rest : List ℕ
    rest = firsts (drop (i + 1) xs)

    x : ℕ
    x = get_or xs i d

    by : (b : Bool) → has_number x old ≡ b
        → (if b then old else old ++ x ∷ []) ++ those (λ y. not (has_number y (if b then old else old ++ x ∷ []))) rest ≡ old ++ those (λ y. not (has_number y old)) (x ∷ drops x rest)
    by true e =
        ap (λ l. old ++ l) (sym (left_drops x old rest e)
        ∙ sym (ap (λ c. if not c then x ∷ those (λ y. not (has_number y old)) (drops x rest) else those (λ y. not (has_number y old)) (drops x rest)) e))
    by false e =
        append_assoc old (x ∷ []) (those (λ y. not (has_number y (old ++ x ∷ []))) rest)
        ∙ ap (λ l. old ++ x ∷ l) (left_added x old rest)
        ∙ sym (ap (λ c. old ++ (if not c then x ∷ those (λ y. not (has_number y old)) (drops x rest) else those (λ y. not (has_number y old)) (drops x rest))) e)

all_those : (l : List ℕ) → those (λ y. not (has_number y [])) l ≡ l
all_those [] = refl
all_those (x ∷ l) = ap (λ m. x ∷ m) (all_those l)

pub set_begun : (xs : List ℕ) (none : List ℕ) → none ≡ [] → none ++ those (λ y. not (has_number y none)) (firsts xs) ≡ firsts xs
set_begun xs none e = ap (λ (l : List ℕ). l ++ those (λ y. not (has_number y l)) (firsts xs)) e ∙ all_those (firsts xs)

has_dropped : (x y : ℕ) (l : List ℕ) → (x == y) ≡ false → has_number x (drops y l) ≡ has_number x l
has_dropped x y [] e = refl
has_dropped x y (z ∷ zs) e = by (has_dropped x y zs e) (z == y) refl
  where
    by : has_number x (drops y zs) ≡ has_number x zs → (b : Bool) → (z == y) ≡ b → has_number x (if b then drops y zs else z ∷ drops y zs) ≡ has_number x (z ∷ zs)
    by later true f = later ∙ sym (ap (λ c. c || has_number x zs) (ap (λ w. x == w) (eqb-true z y f) ∙ e))
    by later false f = ap (λ c. (x == z) || c) later

has_firsts : (x : ℕ) (l : List ℕ) → has_number x (firsts l) ≡ has_number x l
has_firsts x [] = refl
has_firsts x (y ∷ ys) = by (has_firsts x ys) (x == y) refl
  where
    by : has_number x (firsts ys) ≡ has_number x ys → (b : Bool) → (x == y) ≡ b → (x == y) || has_number x (drops y (firsts ys)) ≡ (x == y) || has_number x ys
    by later true e = ap (λ c. c || has_number x (drops y (firsts ys))) e ∙ sym (ap (λ c. c || has_number x ys) e)
    by later false e = ap (λ c. (x == y) || c) (has_dropped x y (firsts ys) e ∙ later)

-- ---- choices

pub those_more : (f : ℕ → Bool) (x : ℕ) (xs : List ℕ) → those f (x ∷ xs) ≡ those f (x ∷ []) ++ those f xs
those_more f x xs = by (f x)
  where
    by : (b : Bool) → (if b then x ∷ those f xs else those f xs) ≡ (if b then x ∷ [] else []) ++ those f xs
    by true = refl
    by false = refl

those_same : (f g : ℕ → Bool) (l : List ℕ) → ((x : ℕ) → f x ≡ g x) → those f l ≡ those g l
those_same f g [] h = refl
those_same f g (x ∷ xs) h = ap (λ b. if b then x ∷ those f xs else those f xs) (h x) ∙ ap (λ (m : List ℕ). if g x then x ∷ m else m) (those_same f g xs h)

pub those_among : (w : Bool) (ks others l : List ℕ) → ks ≡ firsts others → those (λ x. is_wanted w (has_number x ks)) l ≡ those (λ x. is_wanted w (has_number x others)) l
those_among w ks others l e =
    those_same (λ x. is_wanted w (has_number x ks)) (λ x. is_wanted w (has_number x others)) l
    (λ x. ap (is_wanted w) (ap (has_number x) e ∙ has_firsts x others))

-- a turn of a loop over numbers
pub turned_at : (f : List ℕ → List ℕ) (xs : List ℕ) (i d : ℕ) (old new here all : List ℕ) → i < length xs → f (get_or xs i d ∷ drop (i + 1) xs) ≡ here ++ f (drop (i + 1) xs) → new ≡ old ++ here
    → old ++ f (drop i xs) ≡ all → new ++ f (drop (i + 1) xs) ≡ all
turned_at f xs i d old new here all less split more done =
    ap (λ l. l ++ f (drop (i + 1) xs)) more ∙ append_assoc old here (f (drop (i + 1) xs)) ∙ ap (λ l. old ++ l) (sym split) ∙ ap (λ l. old ++ l) (sym (at_drop_more f xs i d less)) ∙ done

-- ---- occurrences

pub declared_more : (o : Occurrence) (os : List Occurrence) → declared_among (o ∷ os) ≡ declared_one o ++ declared_among os
declared_more (names x) os = refl
declared_more (declared x) os = refl

-- ---- what calls give

pub list_as : (r : Result (List ℕ) AllocError) (x y : List ℕ) → x ≡ y → IfOk r (λ it. it ≡ x) → IfOk r (λ it. it ≡ y)
list_as (Ok it) x y e h = h ∙ e
list_as (Err v) x y e h = tt

pub chosen_as : (r : Result (List ℕ) AllocError) (w : Bool) (xs ys l : List ℕ) → xs ≡ ys
    → IfOk r (λ it. it ≡ those (λ x. is_wanted w (has_number x xs)) l) → IfOk r (λ it. it ≡ those (λ x. is_wanted w (has_number x ys)) l)
chosen_as r w xs ys l e h = list_as r _ _ (ap (λ (ks : List ℕ). those (λ x. is_wanted w (has_number x ks)) l) e) h

pub chosen_is : (r : Result (List ℕ) AllocError) (w : Bool) (ks others l : List ℕ) → ks ≡ firsts others
    → IfOk r (λ it. it ≡ those (λ x. is_wanted w (has_number x ks)) l) → IfOk r (λ it. it ≡ those (λ x. is_wanted w (has_number x others)) l)
chosen_is r w ks others l e h = list_as r _ _ (those_among w ks others l e) h
