-- More than each lifetime of some types.
use Rattle.std.proofs.Common.{◌≡◌, ◌⊎◌, inl, inr, ℕ, zero, suc, ◌+◌, ◌<◌, ◌≤◌, List, [], ◌∷◌, length, get_or, slice_get, Option, Some, None, refl, sym, ap, ◌∙◌, subst, arith}
use Rattle.std.proofs.lemmas.Bool.{cases_eq}
use Rattle.std.proofs.lemmas.Option.{none-some}
use Rattle.rx_core.specs.declared.types.Ty.{Ty}
use Rattle.rx_graph_cycles.specs.Reaches.{IsIn}
use Rattle.rx_typed.specs.Regions.{region-Ty, lifetimes_in}
use Rattle.rx_region.specs.Seeds.{AllBelow}

-- the first of some lifetimes
pub record Counted (ls : List ℕ) (least k count : ℕ) : Type 0 where
  pub more : least ≤ count
  pub within : (j : ℕ) → j < k → j < length ls → get_or ls j 0 < count

pub none_counted : (ls : List ℕ) (least : ℕ) → Counted ls least 0 least
none_counted ls least = record { more = omega arith; within = λ j h. absurd (omega (arith, h)) }

pub one_counted : (ls : List ℕ) (least k old new : ℕ) → old ≤ new → get_or ls k 0 < new → Counted ls least k old → Counted ls least (k + 1) new
one_counted ls least k old new more less h = record {
  more = let m = h.more in omega (arith, m, more);
  within = λ j i x. by_place j i x (cases_eq j k);
} where
  by_place : (j : ℕ) → j < k + 1 → j < length ls → (j ≡ k) ⊎ (j ≡ k → ⊥) → get_or ls j 0 < new
  by_place j i x (inl e) = subst (λ m. get_or ls m 0 < new) (sym e) less
  by_place j i x (inr d) = let w = h.within j (omega (arith, i, d)) x in omega (arith, w, more)

in_place : (ls : List ℕ) (l : ℕ) → IsIn ls l → (j : ℕ) × (j < length ls) × (get_or ls j 0 ≡ l)
in_place [] l h = absurd h
in_place (x ∷ ls) l (inl e) = (0, omega arith, e)
in_place (x ∷ ls) l (inr h) = let r = in_place ls l h in let b = r.1 in (suc r.0, omega (arith, b), r.2)

pub all_counted : (ls : List ℕ) (least k count : ℕ) → length ls ≤ k → Counted ls least k count → (l : ℕ) → IsIn ls l → l < count
all_counted ls least k count past h l i = let r = in_place ls l i in
    subst (λ m. m < count) r.2 (h.within r.0 (let b = r.1 in omega (arith, b, past)) r.1)

-- the first of some types
pub record TypesCounted (ts : List Ty) (least k count : ℕ) : Type 0 where
  pub more : least ≤ count
  pub within : (j : ℕ) (t : Ty) → j < k → slice_get ts j ≡ Some t → (l : ℕ) → IsIn (lifetimes_in (region-Ty t)) l → l < count

pub no_type : (ts : List Ty) (least : ℕ) → TypesCounted ts least 0 least
no_type ts least = record { more = omega arith; within = λ j t h. absurd (omega (arith, h)) }

at_place : (ts : List Ty) (k : ℕ) (d : Ty) → k < length ts → slice_get ts k ≡ Some (get_or ts k d)
at_place [] k d h = absurd (omega (arith, h))
at_place (t ∷ ts) zero d h = refl
at_place (t ∷ ts) (suc k) d h = at_place ts k d (omega (arith, h))

some_same : (s t : Ty) → Some s ≡ Some t → s ≡ t
some_same s t e = ap (λ o. told o) e where
  told : Option Ty → Ty
  told (Some x) = x
  told None = s

pub one_type : (ts : List Ty) (least k old new : ℕ) (s : Ty) → k < length ts → s ≡ get_or ts k s → old ≤ new → ((l : ℕ) → IsIn (lifetimes_in (region-Ty s)) l → l < new)
    → TypesCounted ts least k old → TypesCounted ts least (k + 1) new
one_type ts least k old new s inside is more less h = record {
  more = let m = h.more in omega (arith, m, more);
  within = λ j t i x. by_place j t i x (cases_eq j k);
} where
  by_place : (j : ℕ) (t : Ty) → j < k + 1 → slice_get ts j ≡ Some t → (j ≡ k) ⊎ (j ≡ k → ⊥) → (l : ℕ) → IsIn (lifetimes_in (region-Ty t)) l → l < new
  by_place j t i x (inl e) l among = less l (subst (λ (y : Ty). IsIn (lifetimes_in (region-Ty y)) l)
      (sym (some_same s t (ap (λ y. Some y) is ∙ sym (at_place ts k s inside) ∙ sym (ap (λ m. slice_get ts m) e) ∙ x))) among)
  by_place j t i x (inr d) l among = let w = h.within j t (omega (arith, i, d)) x l among in omega (arith, w, more)

inside_of : (ts : List Ty) (j : ℕ) (t : Ty) → slice_get ts j ≡ Some t → j < length ts
inside_of [] j t h = absurd (none-some t h)
inside_of (x ∷ ts) zero t h = omega arith
inside_of (x ∷ ts) (suc j) t h = let rest = inside_of ts j t h in omega (arith, rest)

pub all_types : (ts : List Ty) (least k count : ℕ) → length ts ≤ k → TypesCounted ts least k count → AllBelow ts count
all_types ts least k count past h j t is l among = h.within j t (let b = inside_of ts j t is in omega (arith, b, past)) is l among
