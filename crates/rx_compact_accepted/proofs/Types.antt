-- Types with their lifetimes numbered, by the new numbers: what is the function's own goes by these, and what is open is as many behind them
-- as before. Where all is open the numbers that stand in a type say nothing.
use Rattle.std.proofs.Common.{◌≡◌, ◌⊎◌, inl, inr, ℕ, ◌+◌, ◌-◌, ◌<◌, ◌≤◌, nat_le, Bool, true, false, if◌then◌else◌, List, [], ◌∷◌, ◌++◌, map, refl, sym, ap, ap₂, subst, ◌∙◌, arith}
use Rattle.std.proofs.lemmas.Bool.{cases_lt, leb-true, le-leb}
use Rattle.rx_typed.specs.Regions.{RegionTyp, region_integer, region_boolean, region_tuple, region_reference, region_named, RegionTyps, no_region, region_and}
use Rattle.rx_typed.specs.Renaming.{renamed, all_renamed}
use Rattle.rx_typed.specs.Numbers.{open_one, open_among, open_in, open_in_all, number, numbers, numbered, all_numbered as types_numbered}
use Rattle.rx_lower_lifetimes.specs.Values.{Open}
use Rattle.rx_lower_lifetimes.specs.Numbered.{all_open, all_numbered}
use Rattle.rx_compact_types.specs.Positions.{no_number}

pub own_number : (n next l : ℕ) → l < n → number n next l ≡ l
own_number n next l w = by (nat_le n l) refl
  where
    by : (b : Bool) → nat_le n l ≡ b → (if b then next else l) ≡ l
    by true e = (let v = leb-true n l e in absurd (omega (arith, w, v)))
    by false e = refl

own_one : (n l : ℕ) → l < n → open_one n l ≡ 0
own_one n l w = by (nat_le n l) refl
  where
    none : ℕ
    none = 0

    by : (b : Bool) → nat_le n l ≡ b → (if b then 1 else none) ≡ none
    by true e = (let v = leb-true n l e in absurd (omega (arith, w, v)))
    by false e = refl

open_number : (n next l : ℕ) → n ≤ l → number n next l ≡ next
open_number n next l h = ap (λ b. if b then next else l) (le-leb n l h)

open_is_one : (n l : ℕ) → n ≤ l → open_one n l ≡ 1
open_is_one n l h = ap (λ b. if b then 1 else 0) (le-leb n l h)

-- ---- by numbers that keep apart what is open

module _ (a b : ℕ) (g F : ℕ → ℕ) (lo new_lo hi : ℕ) (small : (l : ℕ) → l < a → g l < b) (own_is : (l : ℕ) → l < a → F l ≡ g l) (opens : (l : ℕ) → a ≤ l → b ≤ g l)
    (shift : (n : ℕ) → lo ≤ n → n < hi → F n ≡ (n - lo) + new_lo) where
  abbrev pub shifted : ℕ → ℕ
  shifted n = (n - lo) + new_lo

  one_same : (l : ℕ) → open_one b (g l) ≡ open_one a l
  one_same l = elim (cases_lt l a) [
    | inl w ↦ own_one b (g l) (small l w) ∙ sym (own_one a l w)
    | inr w ↦ open_is_one b (g l) (opens l w) ∙ sym (open_is_one a l w)
  ]

  number_is : (n l : ℕ) → lo ≤ n → n + open_one a l ≤ hi → number b (shifted n) (g l) ≡ F (number a n l)
  number_is n l h k = elim (cases_lt l a) [
    | inl w ↦ own_number b (shifted n) (g l) (small l w) ∙ (sym (own_is l w) ∙ ap F (sym (own_number a n l w)))
    | inr w ↦ (let e = open_is_one a l w in open_number b (shifted n) (g l) (opens l w) ∙ (sym (shift n h (omega (arith, k, e))) ∙ ap F (sym (open_number a n l w))))
  ]

  next_is : (n k m : ℕ) → lo ≤ n → m ≡ k → shifted n + m ≡ shifted (n + k)
  next_is n k m h e = omega (arith, h, e)

  among_same : (ls : List ℕ) → open_among b (map g ls) ≡ open_among a ls
  among_same [] = refl
  among_same (l ∷ ls) = ap₂ (λ x y. x + y) (one_same l) (among_same ls)

  numbers_are : (ls : List ℕ) (n : ℕ) → lo ≤ n → n + open_among a ls ≤ hi → numbers b (shifted n) (map g ls) ≡ map F (numbers a n ls)
  numbers_are [] n h k = refl
  numbers_are (l ∷ ls) n h k = ap₂ (λ x xs. x ∷ xs) (number_is n l h (omega (arith, k)))
      (ap (λ m. numbers b m (map g ls)) (next_is n (open_one a l) (open_one b (g l)) h (one_same l)) ∙ numbers_are ls (n + open_one a l) (omega (arith, h)) (omega (arith, k)))

  mutual
    pub in_same : (t : RegionTyp) → open_in b (renamed g t) ≡ open_in a t
    in_same (region_integer k) = refl
    in_same region_boolean = refl
    in_same (region_tuple ts) = all_in_same ts
    in_same (region_reference m l t) = ap₂ (λ x y. x + y) (one_same l) (in_same t)
    in_same (region_named i ls) = among_same ls

    all_in_same : (ts : RegionTyps) → open_in_all b (all_renamed g ts) ≡ open_in_all a ts
    all_in_same no_region = refl
    all_in_same (region_and t ts) = ap₂ (λ x y. x + y) (in_same t) (all_in_same ts)

  mutual
    pub type_is : (t : RegionTyp) (n : ℕ) → lo ≤ n → n + open_in a t ≤ hi → numbered b (shifted n) (renamed g t) ≡ renamed F (numbered a n t)
    type_is (region_integer k) n h w = refl
    type_is region_boolean n h w = refl
    type_is (region_tuple ts) n h w = ap region_tuple (types_are ts n h w)
    type_is (region_reference m l t) n h w = ap₂ (region_reference m) (number_is n l h (omega (arith, w)))
        (ap (λ k. numbered b k (renamed g t)) (next_is n (open_one a l) (open_one b (g l)) h (one_same l)) ∙ type_is t (n + open_one a l) (omega (arith, h)) (omega (arith, w)))
    type_is (region_named i ls) n h w = ap (region_named i) (numbers_are ls n h w)

    types_are : (ts : RegionTyps) (n : ℕ) → lo ≤ n → n + open_in_all a ts ≤ hi → types_numbered b (shifted n) (all_renamed g ts) ≡ all_renamed F (types_numbered a n ts)
    types_are no_region n h w = refl
    types_are (region_and t ts) n h w = ap₂ region_and (type_is t n h (omega (arith, w)))
        (ap (λ k. types_numbered b k (all_renamed g ts)) (next_is n (open_in a t) (open_in b (renamed g t)) h (in_same t)) ∙ types_are ts (n + open_in a t) (omega (arith, h)) (omega (arith, w)))

-- ---- where all is open

abbrev pub form : RegionTyp → RegionTyp
form t = renamed no_number t

number_form : (n l k : ℕ) → number 0 n l ≡ number 0 n k
number_form n l k = open_number 0 n l (omega arith) ∙ sym (open_number 0 n k (omega arith))

one_form : (l k : ℕ) → open_one 0 l ≡ open_one 0 k
one_form l k = open_is_one 0 l (omega arith) ∙ sym (open_is_one 0 k (omega arith))

among_form : (ls : List ℕ) → open_among 0 (map no_number ls) ≡ open_among 0 ls
among_form [] = refl
among_form (l ∷ ls) = ap₂ (λ x y. x + y) (one_form 0 l) (among_form ls)

numbers_form : (ls : List ℕ) (n : ℕ) → numbers 0 n (map no_number ls) ≡ numbers 0 n ls
numbers_form [] n = refl
numbers_form (l ∷ ls) n = ap₂ (λ x xs. x ∷ xs) (number_form n 0 l) (ap (λ k. numbers 0 (n + k) (map no_number ls)) (one_form 0 l) ∙ numbers_form ls (n + open_one 0 l))

mutual
  pub in_form : (t : RegionTyp) → open_in 0 (form t) ≡ open_in 0 t
  in_form (region_integer k) = refl
  in_form region_boolean = refl
  in_form (region_tuple ts) = all_in_form ts
  in_form (region_reference m l t) = ap₂ (λ x y. x + y) (one_form 0 l) (in_form t)
  in_form (region_named i ls) = among_form ls

  all_in_form : (ts : RegionTyps) → open_in_all 0 (all_renamed no_number ts) ≡ open_in_all 0 ts
  all_in_form no_region = refl
  all_in_form (region_and t ts) = ap₂ (λ x y. x + y) (in_form t) (all_in_form ts)

mutual
  pub type_form : (t : RegionTyp) (n : ℕ) → numbered 0 n (form t) ≡ numbered 0 n t
  type_form (region_integer k) n = refl
  type_form region_boolean n = refl
  type_form (region_tuple ts) n = ap region_tuple (types_form ts n)
  type_form (region_reference m l t) n = ap₂ (region_reference m) (number_form n 0 l) (ap (λ k. numbered 0 (n + k) (form t)) (one_form 0 l) ∙ type_form t (n + open_one 0 l))
  type_form (region_named i ls) n = ap (region_named i) (numbers_form ls n)

  types_form : (ts : RegionTyps) (n : ℕ) → types_numbered 0 n (all_renamed no_number ts) ≡ types_numbered 0 n ts
  types_form no_region n = refl
  types_form (region_and t ts) n = ap₂ region_and (type_form t n) (ap (λ k. types_numbered 0 (n + k) (all_renamed no_number ts)) (in_form t) ∙ types_form ts (n + open_in 0 t))

-- ---- lists of types of which some lifetimes are open

-- the second by the new numbers, or with all lifetimes open in both
abbrev pub OpenUnder : ℕ → ℕ → (ℕ → ℕ) → Open → Open → Type 0
OpenUnder own new_own g v w = ((v.from ≡ own) × (w.from ≡ new_own) × (w.typ ≡ renamed g v.typ)) ⊎ ((v.from ≡ 0) × (w.from ≡ 0) × (form w.typ ≡ form v.typ))

abbrev pub AllUnder : ℕ → ℕ → (ℕ → ℕ) → List Open → List Open → Type 0
AllUnder own new_own g [] [] = Unit {0}
AllUnder own new_own g (v ∷ vs) (w ∷ ws) = OpenUnder own new_own g v w × AllUnder own new_own g vs ws
AllUnder own new_own g _ _ = ⊥

pub under_both : (own new_own : ℕ) (g : ℕ → ℕ) (vs ws us xs : List Open) → AllUnder own new_own g vs ws → AllUnder own new_own g us xs → AllUnder own new_own g (vs ++ us) (ws ++ xs)
under_both own new_own g [] [] us xs h k = k
under_both own new_own g [] (w ∷ ws) us xs h k = absurd h
under_both own new_own g (v ∷ vs) [] us xs h k = absurd h
under_both own new_own g (v ∷ vs) (w ∷ ws) us xs h k = (h.0, under_both own new_own g vs ws us xs h.1 k)

module _ (own new_own : ℕ) (g F : ℕ → ℕ) (hi : ℕ) (small : (l : ℕ) → l < own → g l < new_own) (own_is : (l : ℕ) → l < own → F l ≡ g l) (opens : (l : ℕ) → own ≤ l → new_own ≤ g l)
    (shift : (n : ℕ) → own ≤ n → n < hi → F n ≡ (n - own) + new_own) where
  abbrev moves : ℕ → ℕ
  moves n = (n - own) + new_own

  none_small : (l : ℕ) → l < 0 → ⊥
  none_small l h = omega (arith, h)

  record One (v w : Open) : Type 0 where
    many : open_in w.from w.typ ≡ open_in v.from v.typ
    is : (n : ℕ) → own ≤ n → n + open_in v.from v.typ ≤ hi → numbered w.from (moves n) w.typ ≡ renamed F (numbered v.from n v.typ)

  by_numbers : (v w : Open) → v.from ≡ own → w.from ≡ new_own → w.typ ≡ renamed g v.typ → One v w
  by_numbers v w a b e = record {
    many = ap₂ (λ x t. open_in x t) b e ∙ (in_same own new_own g F own new_own hi small own_is opens shift v.typ ∙ ap (λ x. open_in x v.typ) (sym a));
    is = λ n h k.
        ap₂ (λ x t. numbered x (moves n) t) b e
        ∙ (type_is own new_own g F own new_own hi small own_is opens shift v.typ n h (subst (λ x. n + open_in x v.typ ≤ hi) a k) ∙ ap (λ x. renamed F (numbered x n v.typ)) (sym a));
  }

  by_form : (v w : Open) → v.from ≡ 0 → w.from ≡ 0 → form w.typ ≡ form v.typ → One v w
  by_form v w a b e = record {
    many = ap (λ x. open_in x w.typ) b ∙ (sym (in_form w.typ) ∙ (ap (open_in 0) e ∙ (in_form v.typ ∙ ap (λ x. open_in x v.typ) (sym a))));
    is = λ n h k.
        ap (λ x. numbered x (moves n) w.typ) b
        ∙ (sym (type_form w.typ (moves n)) ∙ (ap (numbered 0 (moves n)) e
        ∙ (type_is 0 0 no_number F own new_own hi (λ l z. absurd (none_small l z)) (λ l z. absurd (none_small l z)) (λ l z. omega arith) shift v.typ n h (subst (λ x. n + open_in x v.typ ≤ hi) a k)
        ∙ ap (λ x. renamed F (numbered x n v.typ)) (sym a))));
  }

  one : (v w : Open) → OpenUnder own new_own g v w → One v w
  one v w (inl h) = by_numbers v w h.0 h.1 h.2
  one v w (inr h) = by_form v w h.0 h.1 h.2

  pub as_many_open : (vs ws : List Open) → AllUnder own new_own g vs ws → all_open ws ≡ all_open vs
  as_many_open [] [] h = refl
  as_many_open [] (w ∷ ws) h = absurd h
  as_many_open (v ∷ vs) [] h = absurd h
  as_many_open (v ∷ vs) (w ∷ ws) h = ap₂ (λ x y. x + y) (one v w h.0).many (as_many_open vs ws h.1)

  pub all_are : (vs ws : List Open) (n : ℕ) → AllUnder own new_own g vs ws → own ≤ n → n + all_open vs ≤ hi → all_numbered (moves n) ws ≡ map (renamed F) (all_numbered n vs)
  all_are [] [] n h k e = refl
  all_are [] (w ∷ ws) n h k e = absurd h
  all_are (v ∷ vs) [] n h k e = absurd h
  all_are (v ∷ vs) (w ∷ ws) n h k e =
      let o = one v w h.0 in
      let z : moves n + open_in w.from w.typ ≡ moves (n + open_in v.from v.typ) = (let m = o.many in omega (arith, m, k)) in
      ap₂ (λ t ts. t ∷ ts) (o.is n k (omega (arith, e))) (ap (λ m. all_numbered m ws) z ∙ all_are vs ws (n + open_in v.from v.typ) h.1 (omega (arith, k)) (omega (arith, e)))
