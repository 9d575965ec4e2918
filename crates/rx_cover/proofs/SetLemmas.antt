-- Sets of heads as lists of plain heads.
use Rattle.std.proofs.Common.{◌≡◌, ℕ, zero, suc, ◌+◌, ◌-◌, not, ◌<◌, ◌≤◌, nat_lt, cond, true≢false, pos, negsuc, Bool, true, false, ◌||◌, ◌&&◌, List, [], ◌∷◌, ◌++◌, map, length, position, get_or, Some, None, if◌then◌else◌, refl, sym, ap, ◌∙◌, subst, arith}
use Rattle.std.specs.List.{list_any, position_or_len}
use Rattle.std.proofs.lemmas.List.{length-map}
use Rattle.rx_typed.specs.Elaborated.{with_sign}
use Rattle.rx_cover.specs.declared.heads.Head.{Head}
use Rattle.rx_cover.specs.contracts.heads.HeadPartialEq.TheImpl.{eq-value}
use Rattle.rx_cover.specs.PlainCells.{plain-Head}
use Rattle.rx_cover.specs.Heads as plain
use Rattle.rx_cover.specs.Heads.{same_head, same_bool, has, place, with_one}
use Rattle.rx_cover.specs.Matrices.{Distinct}
use Rattle.rx_cover.proofs.HeadLemmas.{same_head_is, same_head_refl}

pub below_zero_by : (g : Bool) (v : ℕ) → plain.whole (with_sign g v) ≡ (if g && nat_lt 0 v then plain.whole (negsuc (v - 1)) else plain.whole (pos v))
below_zero_by true zero = refl
below_zero_by true (suc v) = grind arith
below_zero_by false v = refl

same_is : (a b : Head) → (eq-value).it a b ≡ same_head (plain-Head b) (plain-Head a)
same_is (Head.Natural n) (Head.Natural m) = grind arith
same_is (Head.Natural n) (Head.Negative m) = refl
same_is (Head.Natural n) (Head.Truth b) = refl
same_is (Head.Natural n) Head.Composed = refl
same_is (Head.Natural n) (Head.Chosen i k) = refl
same_is (Head.Natural n) Head.Pointed = refl
same_is (Head.Negative n) (Head.Natural m) = refl
same_is (Head.Negative n) (Head.Negative m) = grind arith
same_is (Head.Negative n) (Head.Truth b) = refl
same_is (Head.Negative n) Head.Composed = refl
same_is (Head.Negative n) (Head.Chosen i k) = refl
same_is (Head.Negative n) Head.Pointed = refl
same_is (Head.Truth b) (Head.Truth c) = both b c
  where
    both : (b c : Bool) → (eq-value).it (Head.Truth b) (Head.Truth c) ≡ same_bool c b
    both true true = refl
    both true false = refl
    both false true = refl
    both false false = refl
same_is (Head.Truth b) (Head.Natural m) = refl
same_is (Head.Truth b) (Head.Negative m) = refl
same_is (Head.Truth b) Head.Composed = refl
same_is (Head.Truth b) (Head.Chosen i k) = refl
same_is (Head.Truth b) Head.Pointed = refl
same_is Head.Composed (Head.Natural m) = refl
same_is Head.Composed (Head.Negative m) = refl
same_is Head.Composed (Head.Truth c) = refl
same_is Head.Composed Head.Composed = refl
same_is Head.Composed (Head.Chosen i k) = refl
same_is Head.Composed Head.Pointed = refl
same_is (Head.Chosen i k) (Head.Chosen j l) = grind arith
same_is (Head.Chosen i k) (Head.Natural m) = refl
same_is (Head.Chosen i k) (Head.Negative m) = refl
same_is (Head.Chosen i k) (Head.Truth c) = refl
same_is (Head.Chosen i k) Head.Composed = refl
same_is (Head.Chosen i k) Head.Pointed = refl
same_is Head.Pointed (Head.Natural m) = refl
same_is Head.Pointed (Head.Negative m) = refl
same_is Head.Pointed (Head.Truth c) = refl
same_is Head.Pointed Head.Composed = refl
same_is Head.Pointed (Head.Chosen i k) = refl
same_is Head.Pointed Head.Pointed = refl

pub has_keys : (ks : List Head) (h : Head) → list_any ((eq-value).it h) ks ≡ has (map plain-Head ks) (plain-Head h)
has_keys [] h = refl
has_keys (k ∷ ks) h = rw (same_is h k) (ap (λ b. same_head (plain-Head k) (plain-Head h) || b) (has_keys ks h))

map_behind : (ks : List Head) (h : Head) → map plain-Head (ks ++ h ∷ []) ≡ map plain-Head ks ++ plain-Head h ∷ []
map_behind [] h = refl
map_behind (k ∷ ks) h = ap (λ l. plain-Head k ∷ l) (map_behind ks h)

pub added_keys : (ks : List Head) (h : Head) → map plain-Head (if list_any ((eq-value).it h) ks then ks else ks ++ h ∷ []) ≡ with_one (map plain-Head ks) (plain-Head h)
added_keys ks h = rw (has_keys ks h) (by (has (map plain-Head ks) (plain-Head h)))
  where
    by : (b : Bool) → map plain-Head (if b then ks else ks ++ h ∷ []) ≡ (if b then map plain-Head ks else map plain-Head ks ++ plain-Head h ∷ [])
    by true = refl
    by false = map_behind ks h

pub no_keys : (ks : List Head) → length ks ≡ 0 → map plain-Head ks ≡ []
no_keys [] e = refl
no_keys (k ∷ ks) e = cc

-- ---- places

place_is : (ks : List Head) (h : Head) → position_or_len ((eq-value).it h) ks ≡ place (map plain-Head ks) (plain-Head h)
place_is [] h = refl
place_is (k ∷ ks) h = ap (λ b. cond (not b) (1 + position_or_len ((eq-value).it h) ks) 0) (same_is h k) ∙ by (same_head (plain-Head k) (plain-Head h)) (place_is ks h)
  where
    by : (b : Bool) → position_or_len ((eq-value).it h) ks ≡ place (map plain-Head ks) (plain-Head h) → cond (not b) (1 + position_or_len ((eq-value).it h) ks) 0 ≡ (if b then 0 else suc (place (map plain-Head ks) (plain-Head h)))
    by true e = refl
    by false e = omega (arith, e)

place_most : (hs : List plain.Head) (g : plain.Head) → place hs g ≤ length hs
place_most [] g = omega arith
place_most (h ∷ hs) g = by (same_head h g) (place_most hs g)
  where
    by : (b : Bool) → place hs g ≤ length hs → (if b then 0 else suc (place hs g)) ≤ suc (length hs)
    by true l = omega arith
    by false l = omega (arith, l)

pub place_some : (ks : List Head) (h : Head) (i : ℕ) → Some i ≡ position ((eq-value).it h) ks → i ≡ place (map plain-Head ks) (plain-Head h)
place_some ks h i e = by (nat_lt (position_or_len ((eq-value).it h) ks) (length ks)) e ∙ place_is ks h
  where
    by : (b : Bool) → Some i ≡ cond b (Some (position_or_len ((eq-value).it h) ks)) None → i ≡ position_or_len ((eq-value).it h) ks
    by true e = cc
    by false e = cc

pub place_none : (ks : List Head) (h : Head) → None ≡ position ((eq-value).it h) ks → length ks ≡ place (map plain-Head ks) (plain-Head h)
place_none ks h e = let f = by (nat_lt (position_or_len ((eq-value).it h) ks) (length ks)) refl e in let g = place_is ks h in let m = place_most (map plain-Head ks) (plain-Head h) in let n = length-map ks plain-Head in omega (arith, f, g, m, n)
  where
    by : (b : Bool) → nat_lt (position_or_len ((eq-value).it h) ks) (length ks) ≡ b → None ≡ cond b (Some (position_or_len ((eq-value).it h) ks)) None → length ks ≤ position_or_len ((eq-value).it h) ks
    by true f e = cc
    by false f e = grind (arith, f)

has_at : (ks : List Head) (i : ℕ) (d : Head) → i < length ks → has (map plain-Head ks) (plain-Head (get_or ks i d)) ≡ true
has_at [] i d l = absurd (omega (arith, l))
has_at (k ∷ ks) zero d l = rw (same_head_refl (plain-Head k)) refl
has_at (k ∷ ks) (suc i) d l = rw (has_at ks i d (omega (arith, l))) (or_true (same_head (plain-Head k) (plain-Head (get_or ks i d))))
  where
    or_true : (b : Bool) → (b || true) ≡ true
    or_true true = refl
    or_true false = refl

-- a head of a list is at its place
pub place_at : (ks : List Head) (i : ℕ) (d : Head) → i < length ks → Distinct (map plain-Head ks) → place (map plain-Head ks) (plain-Head (get_or ks i d)) ≡ i
place_at [] i d l a = absurd (omega (arith, l))
place_at (k ∷ ks) zero d l a = rw (same_head_refl (plain-Head k)) refl
place_at (k ∷ ks) (suc i) d l a = by (same_head (plain-Head k) (plain-Head (get_or ks i d))) refl (place_at ks i d (omega (arith, l)) a.1)
  where
    by : (b : Bool) → same_head (plain-Head k) (plain-Head (get_or ks i d)) ≡ b → place (map plain-Head ks) (plain-Head (get_or ks i d)) ≡ i
        → (if b then 0 else suc (place (map plain-Head ks) (plain-Head (get_or ks i d)))) ≡ suc i
    by true e f =
        let q : plain-Head (get_or ks i d) ≡ plain-Head k = sym (same_head_is (plain-Head k) (plain-Head (get_or ks i d)) e) in
        let h : has (map plain-Head ks) (plain-Head k) ≡ true = subst (λ x. has (map plain-Head ks) x ≡ true) q (has_at ks i d (omega (arith, l))) in
        absurd (true≢false (sym h ∙ a.0))
    by false e f = ap suc f

-- what is at a place is the head there
pub head_there : (ks : List Head) (i : ℕ) (d : Head) (g : plain.Head) → i < length ks → place (map plain-Head ks) g ≡ i → g ≡ plain-Head (get_or ks i d)
head_there [] i d g l e = absurd (omega (arith, l))
head_there (k ∷ ks) i d g l e = by (same_head (plain-Head k) g) refl i l e (λ j m f. head_there ks j d g m f)
  where
    by : (b : Bool) → same_head (plain-Head k) g ≡ b → (i : ℕ) → i < suc (length ks) → (if b then 0 else suc (place (map plain-Head ks) g)) ≡ i
        → ((j : ℕ) → j < length ks → place (map plain-Head ks) g ≡ j → g ≡ plain-Head (get_or ks j d)) → g ≡ plain-Head (get_or (k ∷ ks) i d)
    by true s zero l e f = sym (same_head_is (plain-Head k) g s)
    by true s (suc i) l e f = cc
    by false s zero l e f = cc
    by false s (suc i) l e f = f i (omega (arith, l)) (omega (arith, e))

pub has_place : (hs : List plain.Head) (g : plain.Head) → has hs g ≡ true → place hs g < length hs
has_place [] g e = cc
has_place (h ∷ hs) g e = by (same_head h g) e (has_place hs g)
  where
    by : (b : Bool) → (b || has hs g) ≡ true → (has hs g ≡ true → place hs g < length hs) → (if b then 0 else suc (place hs g)) < suc (length hs)
    by true e k = omega arith
    by false e k = let l = k e in omega (arith, l)
