-- Loops over types: what is made so far, and what is left to make, are the whole.
use Rattle.std.proofs.Common.{◌-◌, append_assoc, Result, Ok, IfOk, OnOk, ◌≤◌, subst, ◌≡◌, ℕ, suc, ◌+◌, ◌<◌, List, [], ◌∷◌, ◌++◌, map, length, drop, get_or, refl, sym, ap, ◌∙◌, arith, length-append}
use Rattle.std.proofs.lemmas.List.{at_drop_more, at_drop_all}
use Rattle.rx_core.specs.declared.types.Ty.{Ty}
use Rattle.rx_typed.specs.Regions.{RegionTyp, region_integer, region_boolean, region_tuple, region_reference, region_named, RegionTyps, no_region, region_and, regions_of, region-Ty, lifetimes_in, lifetimes_among}
use Rattle.rx_typed.specs.Numbers.{capped, open_in, open_in_all, numbered, all_numbered}
use Rattle.rx_typed.specs.Renaming.{renamed, all_renamed, from}

abbrev pub regions_then : List RegionTyp → RegionTyps → RegionTyps
regions_then [] rs = rs
regions_then (t ∷ ts) rs = region_and t (regions_then ts rs)

pub then_none : (ts : List RegionTyp) → regions_then ts no_region ≡ regions_of ts
then_none [] = refl
then_none (t ∷ ts) = ap (λ r. region_and t r) (then_none ts)

then_pushed : (all : List Ty) (one : Ty) (rs : RegionTyps) → regions_then (map region-Ty (all ++ one ∷ [])) rs ≡ regions_then (map region-Ty all) (region_and (region-Ty one) rs)
then_pushed [] one rs = refl
then_pushed (t ∷ all) one rs = ap (λ r. region_and (region-Ty t) r) (then_pushed all one rs)

-- the types from a number on
abbrev pub rest : List Ty → ℕ → RegionTyps
rest ts i = regions_of (map region-Ty (drop i ts))

rest_more : (ts : List Ty) (i : ℕ) (t : Ty) → i < length ts → t ≡ get_or ts i t → rest ts i ≡ region_and (region-Ty t) (rest ts (i + 1))
rest_more ts i t less is =
    at_drop_more (λ l. regions_of (map region-Ty l)) ts i t less ∙ ap (λ y. region_and (region-Ty y) (rest ts (i + 1))) (sym is)

-- a loop that makes one type of each
more : (G H : RegionTyps → RegionTyps) (ts : List Ty) (i : ℕ) (t one : Ty) (all made : List Ty) → i < length ts → t ≡ get_or ts i t → made ≡ all ++ one ∷ []
    → ((rs : RegionTyps) → G (region_and (region-Ty t) rs) ≡ region_and (region-Ty one) (H rs))
    → regions_then (map region-Ty made) (H (rest ts (i + 1))) ≡ regions_then (map region-Ty all) (G (rest ts i))
more G H ts i t one all made less is grows step =
    ap (λ l. regions_then (map region-Ty l) (H (rest ts (i + 1)))) grows
    ∙ then_pushed all one (H (rest ts (i + 1)))
    ∙ ap (λ r. regions_then (map region-Ty all) r) (sym (step (rest ts (i + 1))) ∙ sym (ap G (rest_more ts i t less is)))

pub renamed_more : (f : ℕ → ℕ) (ts : List Ty) (i : ℕ) (t one : Ty) (all made : List Ty) → i < length ts → t ≡ get_or ts i t → made ≡ all ++ one ∷ []
    → region-Ty one ≡ renamed f (region-Ty t)
    → regions_then (map region-Ty made) (all_renamed f (rest ts (i + 1))) ≡ regions_then (map region-Ty all) (all_renamed f (rest ts i))
renamed_more f ts i t one all made less is grows one_is =
    more (all_renamed f) (all_renamed f) ts i t one all made less is grows (λ rs. ap (λ r. region_and r (all_renamed f rs)) (sym one_is))

pub numbered_more : (from next behind : ℕ) (ts : List Ty) (i : ℕ) (t one : Ty) (all made : List Ty) → i < length ts → t ≡ get_or ts i t → made ≡ all ++ one ∷ []
    → region-Ty one ≡ numbered from next (region-Ty t) → behind ≡ next + open_in from (region-Ty t)
    → regions_then (map region-Ty made) (all_numbered from behind (rest ts (i + 1))) ≡ regions_then (map region-Ty all) (all_numbered from next (rest ts i))
numbered_more from next behind ts i t one all made less is grows one_is behind_is =
    more (all_numbered from next) (all_numbered from behind) ts i t one all made less is grows
    (λ rs. ap (λ r. region_and r (all_numbered from (next + open_in from (region-Ty t)) rs)) (sym one_is)
    ∙ ap (λ n. region_and (region-Ty one) (all_numbered from n rs)) (sym behind_is))

pub open_more : (from next behind : ℕ) (ts : List Ty) (i : ℕ) (t : Ty) → i < length ts → t ≡ get_or ts i t → behind ≡ next + open_in from (region-Ty t)
    → behind + open_in_all from (rest ts (i + 1)) ≡ next + open_in_all from (rest ts i)
open_more from next behind ts i t less is behind_is =
    let e : open_in_all from (rest ts i) ≡ open_in from (region-Ty t) + open_in_all from (rest ts (i + 1)) = ap (open_in_all from) (rest_more ts i t less is) in
    omega arith

pub counted_more : (total new : ℕ) (ts : List Ty) (i : ℕ) (t : Ty) → i < length ts → t ≡ get_or ts i t → new ≡ capped (total + length (lifetimes_in (region-Ty t)))
    → capped (new + length (lifetimes_among (rest ts (i + 1)))) ≡ capped (total + length (lifetimes_among (rest ts i)))
counted_more total new ts i t less is new_is =
    let e : length (lifetimes_among (rest ts i)) ≡ length (lifetimes_in (region-Ty t)) + length (lifetimes_among (rest ts (i + 1)))
    = ap (λ r. length (lifetimes_among r)) (rest_more ts i t less is) ∙ length-append (lifetimes_in (region-Ty t)) (lifetimes_among (rest ts (i + 1))) in
    omega arith

-- ---- turns and ends, from what the steps of the code say

abbrev pub given : {A E : Type 0} (P : A → Type 0) (r : Result A E) (a : A) → IfOk r P → r ≡ Ok a → P a
given P r a h e = subst (λ x. IfOk x P) e h

abbrev on_ok : {A E : Type 0} (P : Type 0) (r : Result A E) (a : A) → OnOk r P → r ≡ Ok a → P
on_ok P r a h e = subst (λ x. OnOk x P) e h

pub renamed_turn : {E : Type 0} (f : ℕ → ℕ) (ts : List Ty) (i : ℕ) (t one : Ty) (all held made : List Ty) (r : Result Ty E) (whole : RegionTyps)
    → i < length ts → t ≡ get_or ts i t → r ≡ Ok one → held ≡ all → IfOk r (λ it. region-Ty it ≡ renamed f (region-Ty t)) → made ≡ held ++ one ∷ []
    → regions_then (map region-Ty all) (all_renamed f (rest ts i)) ≡ whole
    → regions_then (map region-Ty made) (all_renamed f (rest ts (i + 1))) ≡ whole
renamed_turn f ts i t one all held made r whole less is ok held_is one_is grows so =
    renamed_more f ts i t one all made less is (grows ∙ ap (λ l. l ++ one ∷ []) held_is) (given (λ it. region-Ty it ≡ renamed f (region-Ty t)) r one one_is ok) ∙ so

pub numbered_turn : {E : Type 0} (from next behind : ℕ) (ts : List Ty) (i : ℕ) (t one : Ty) (all held made : List Ty) (r : Result Ty E) (whole : RegionTyps)
    → i < length ts → t ≡ get_or ts i t → r ≡ Ok one → held ≡ all → IfOk r (λ it. region-Ty it ≡ numbered from next (region-Ty t))
    → OnOk r (behind ≡ next + open_in from (region-Ty t)) → made ≡ held ++ one ∷ []
    → regions_then (map region-Ty all) (all_numbered from next (rest ts i)) ≡ whole
    → regions_then (map region-Ty made) (all_numbered from behind (rest ts (i + 1))) ≡ whole
numbered_turn from next behind ts i t one all held made r whole less is ok held_is one_is behind_is grows so =
    numbered_more from next behind ts i t one all made less is (grows ∙ ap (λ l. l ++ one ∷ []) held_is)
    (given (λ it. region-Ty it ≡ numbered from next (region-Ty t)) r one one_is ok) (on_ok (behind ≡ next + open_in from (region-Ty t)) r one behind_is ok) ∙ so

pub open_turn : {E : Type 0} (from next behind : ℕ) (ts : List Ty) (i : ℕ) (t one : Ty) (r : Result Ty E) (whole : ℕ)
    → i < length ts → t ≡ get_or ts i t → r ≡ Ok one → OnOk r (behind ≡ next + open_in from (region-Ty t))
    → next + open_in_all from (rest ts i) ≡ whole → behind + open_in_all from (rest ts (i + 1)) ≡ whole
open_turn from next behind ts i t one r whole less is ok behind_is so =
    open_more from next behind ts i t less is (on_ok (behind ≡ next + open_in from (region-Ty t)) r one behind_is ok) ∙ so

pub rest_end : (G : RegionTyps → RegionTyps) (ts all : List Ty) (i : ℕ) (whole : RegionTyps) → length ts ≤ i → G no_region ≡ no_region
    → regions_then (map region-Ty all) (G (rest ts i)) ≡ whole → regions_of (map region-Ty all) ≡ whole
rest_end G ts all i whole past none so =
    sym (then_none (map region-Ty all)) ∙ ap (λ r. regions_then (map region-Ty all) r) (sym none ∙ sym (at_drop_all (λ l. G (regions_of (map region-Ty l))) ts i past)) ∙ so

pub counted_end : (total whole : ℕ) (ts : List Ty) (i : ℕ) → total < 18446744073709551616 → length ts ≤ i
    → capped (total + length (lifetimes_among (rest ts i))) ≡ whole → total ≡ whole
counted_end total whole ts i fits past so =
    let e : length (lifetimes_among (rest ts i)) ≡ 0 = at_drop_all (λ l. length (lifetimes_among (regions_of (map region-Ty l)))) ts i past in
    omega arith

-- ---- lifetimes that stay

map_same : (ls : List ℕ) → map (λ l. l) ls ≡ ls
map_same [] = refl
map_same (l ∷ ls) = ap (λ k. l ∷ k) (map_same ls)

mutual
  pub renamed_same : (t : RegionTyp) → renamed (λ l. l) t ≡ t
  renamed_same (region_integer k) = refl
  renamed_same region_boolean = refl
  renamed_same (region_tuple ts) = ap region_tuple (all_renamed_same ts)
  renamed_same (region_reference m l t) = ap (λ r. region_reference m l r) (renamed_same t)
  renamed_same (region_named i ls) = ap (λ k. region_named i k) (map_same ls)

  all_renamed_same : (ts : RegionTyps) → all_renamed (λ l. l) ts ≡ ts
  all_renamed_same no_region = refl
  all_renamed_same (region_and t ts) = ap (λ r. region_and r (all_renamed (λ l. l) ts)) (renamed_same t) ∙ ap (λ r. region_and t r) (all_renamed_same ts)

-- ---- fresh numbers

from_more : (n c t : ℕ) → t < c → from (n + t) (c - t) ≡ (n + t) ∷ from (n + (t + 1)) (c - (t + 1))
from_more n c t less =
    let k = c - (t + 1) in
    let e : c - t ≡ suc k = omega arith in
    let f : suc (n + t) ≡ n + (t + 1) = omega arith in
    ap (λ d. from (n + t) d) e ∙ ap (λ m. (n + t) ∷ from m k) f

pub fresh_turn : (n c t : ℕ) (all made whole : List ℕ) → t < c → made ≡ all ++ (n + t) ∷ [] → all ++ from (n + t) (c - t) ≡ whole
    → made ++ from (n + (t + 1)) (c - (t + 1)) ≡ whole
fresh_turn n c t all made whole less grows so =
    ap (λ l. l ++ from (n + (t + 1)) (c - (t + 1))) grows ∙ append_assoc all ((n + t) ∷ []) (from (n + (t + 1)) (c - (t + 1)))
    ∙ sym (ap (λ l. all ++ l) (from_more n c t less)) ∙ so
