-- What the types of a function's parameters make known, its signature says: a parameter's variable has the declared type, whose lifetimes
-- are the function's own and so keep their numbers; in any other type they are new numbers, of which nothing is known.
use Rattle.std.proofs.Common.{◌≡◌, ◌⊎◌, inl, inr, ℕ, zero, suc, ◌+◌, ◌<◌, ◌≤◌, Bool, true, false, ◌&&◌, ◌==◌, nat_lt, nat_le, if◌then◌else◌, List, [], ◌∷◌, ◌++◌, length, map, get_or, Option, Some, None, slice_get, refl, sym, ap, subst, ◌∙◌, true≢false, arith}
use Rattle.std.proofs.lemmas.Bool.{eq-eqb, ltb-true, leb-true, le-leb}
use Rattle.rx_core.specs.declared.types.Bound.{Bound}
use Rattle.rx_core.specs.declared.types.Ty.{Ty}
use Rattle.rx_graph.proofs.Spreading.{both_of}
use Rattle.rx_graph_cycles.specs.Reaches.{IsIn}
use Rattle.rx_graph_cycles.proofs.Ways.{is_in_front, is_in_behind, is_in_either}
use Rattle.rx_typed.specs.declared.declarations.Decl.{Decl}
use Rattle.rx_typed.specs.declared.declarations.Decl.TheVariants as decl
use Rattle.rx_typed.specs.Regions.{RegionTyp, region_integer, region_boolean, region_tuple, region_reference, region_named, RegionTyps, no_region, region_and, regions_of, region-Ty, lifetimes_in, lifetimes_among}
use Rattle.rx_typed.specs.Types.{Declarations}
use Rattle.rx_typed.specs.Tree as tree
use Rattle.rx_typed_declarations.specs.WellFormed.{is_adt, all_below, fits, all_fit, bounds_fit, signature_fits}
use Rattle.rx_typed.specs.Numbers.{open_one, open_in, number, numbers, numbered, all_numbered as types_numbered}
use Rattle.rx_typed.specs.Renaming.{unit_region}
use Rattle.rx_region_outlives.specs.Implied.{HasPair, pair_of, with_arguments, all_outlive, implied_in, implied_among}
use Rattle.rx_region_outlives.specs.Related.{outlives}
use Rattle.rx_region_outlives.proofs.ImpliedLemmas.{has_front, has_behind, has_either}
use Rattle.rx_lower_lifetimes.specs.Values.{Open, Held, lifetimes_of, result_type}
use Rattle.rx_lower_lifetimes.specs.Variables.{Written, parameter_type, written_type, told, open_type, open_types}
use Rattle.rx_lower_lifetimes.specs.Numbered.{all_numbered, opened}
use Rattle.rx_lower_lifetimes.specs.Lowered.{parameters, bounds_of}
use Rattle.rx_region.specs.Tables.{Follows, itself, by}
use Rattle.rx_repair.specs.Signatures.{signature_says}

-- ---- pairs of a type are of its lifetimes

record Stand (ls : List ℕ) (l k : ℕ) : Type 0 where
  long : IsIn ls l
  short : IsIn ls k

outlive_stand : (ls : List ℕ) (m l k : ℕ) → HasPair (all_outlive ls m) l k → IsIn ls l × (m ≡ k)
outlive_stand [] m l k h = absurd h
outlive_stand (x ∷ ls) m l k (inl e) = (inl (ap (λ (b : Bound). b.long) e), ap (λ (b : Bound). b.short) e)
outlive_stand (x ∷ ls) m l k (inr h) = let r = outlive_stand ls m l k h in (inr r.0, r.1)

at_in : (ls : List ℕ) (i l : ℕ) → slice_get ls i ≡ Some l → IsIn ls l
at_in [] i l e = absurd (cc)
at_in (x ∷ ls) zero l e = inl (cc)
at_in (x ∷ ls) (suc i) l e = inr (at_in ls i l e)

pair_stands : (ls : List ℕ) (a b : Option ℕ) → ((l : ℕ) → a ≡ Some l → IsIn ls l) → ((l : ℕ) → b ≡ Some l → IsIn ls l) → (l k : ℕ) → HasPair (pair_of a b) l k → Stand ls l k
pair_stands ls None b f g l k h = absurd h
pair_stands ls (Some x) None f g l k h = absurd h
pair_stands ls (Some x) (Some y) f g l k (inl e) = record { long = f l (ap (λ (b : Bound). Some b.long) e); short = g k (ap (λ (b : Bound). Some b.short) e) }
pair_stands ls (Some x) (Some y) f g l k (inr h) = absurd h

arguments_stand : (ls : List ℕ) (ps : List Bound) (l k : ℕ) → HasPair (with_arguments ls ps) l k → Stand ls l k
arguments_stand ls [] l k h = absurd h
arguments_stand ls (b ∷ ps) l k h = elim (has_either (pair_of (slice_get ls b.long) (slice_get ls b.short)) (with_arguments ls ps) l k h) [
  | inl x ↦ pair_stands ls (slice_get ls b.long) (slice_get ls b.short) (at_in ls b.long) (at_in ls b.short) l k x
  | inr y ↦ arguments_stand ls ps l k y
]

module _ (P : ℕ → List Bound) where
  pointing : (r : ℕ) (t : RegionTyp) (l k : ℕ) → (HasPair (implied_in P t) l k → Stand (lifetimes_in t) l k)
      → HasPair (all_outlive (lifetimes_in t) r) l k ⊎ HasPair (implied_in P t) l k → Stand (r ∷ lifetimes_in t) l k
  pointing r t l k inner (inl x) = let o = outlive_stand (lifetimes_in t) r l k x in record { long = inr o.0; short = inl o.1 }
  pointing r t l k inner (inr y) = let s = inner y in record { long = inr s.long; short = inr s.short }

  either : (t : RegionTyp) (ts : RegionTyps) (l k : ℕ) → (HasPair (implied_in P t) l k → Stand (lifetimes_in t) l k) → (HasPair (implied_among P ts) l k → Stand (lifetimes_among ts) l k)
      → HasPair (implied_in P t) l k ⊎ HasPair (implied_among P ts) l k → Stand (lifetimes_in t ++ lifetimes_among ts) l k
  either t ts l k first later (inl x) = let s = first x in
      record { long = is_in_front (lifetimes_in t) (lifetimes_among ts) l s.long; short = is_in_front (lifetimes_in t) (lifetimes_among ts) k s.short }
  either t ts l k first later (inr y) = let s = later y in
      record { long = is_in_behind (lifetimes_in t) (lifetimes_among ts) l s.long; short = is_in_behind (lifetimes_in t) (lifetimes_among ts) k s.short }

  mutual
    implied_stand : (t : RegionTyp) (l k : ℕ) → HasPair (implied_in P t) l k → Stand (lifetimes_in t) l k
    implied_stand (region_integer n) l k h = absurd h
    implied_stand region_boolean l k h = absurd h
    implied_stand (region_tuple ts) l k h = among_stand ts l k h
    implied_stand (region_reference m r t) l k h = pointing r t l k (implied_stand t l k) (has_either (all_outlive (lifetimes_in t) r) (implied_in P t) l k h)
    implied_stand (region_named i ls) l k h = arguments_stand ls (P i) l k h

    among_stand : (ts : RegionTyps) (l k : ℕ) → HasPair (implied_among P ts) l k → Stand (lifetimes_among ts) l k
    among_stand no_region l k h = absurd h
    among_stand (region_and t ts) l k h = either t ts l k (implied_stand t l k) (among_stand ts l k) (has_either (implied_in P t) (implied_among P ts) l k h)

-- ---- in a type that fits, all lifetimes are the item's own

less : (a b : ℕ) → nat_lt a b ≡ true → a < b
less a b h = ltb-true a b h

list_below : (n : ℕ) (ls : List ℕ) → all_below n ls ≡ true → (l : ℕ) → IsIn ls l → l < n
list_below n [] e l h = absurd h
list_below n (x ∷ ls) e l (inl is) = subst (λ y. y < n) is (less x n (both_of (nat_lt x n) (all_below n ls) e).0)
list_below n (x ∷ ls) e l (inr h) = list_below n ls (both_of (nat_lt x n) (all_below n ls) e).1 l h

module _ (E : Declarations) (n : ℕ) where
  either_below : (t : RegionTyp) (ts : RegionTyps) (l : ℕ) → (IsIn (lifetimes_in t) l → l < n) → (IsIn (lifetimes_among ts) l → l < n) → IsIn (lifetimes_in t) l ⊎ IsIn (lifetimes_among ts) l → l < n
  either_below t ts l f g (inl a) = f a
  either_below t ts l f g (inr b) = g b

  mutual
    fit_below : (t : RegionTyp) → fits E n t ≡ true → (l : ℕ) → IsIn (lifetimes_in t) l → l < n
    fit_below (region_integer k) e l h = absurd h
    fit_below region_boolean e l h = absurd h
    fit_below (region_tuple ts) e l h = all_fit_below ts e l h
    fit_below (region_reference m x t) e l (inl is) = subst (λ y. y < n) is (less x n (both_of (nat_lt x n) (fits E n t) e).0)
    fit_below (region_reference m x t) e l (inr h) = fit_below t (both_of (nat_lt x n) (fits E n t) e).1 l h
    fit_below (region_named i ls) e l h = list_below n ls (both_of _ (all_below n ls) e).1 l h

    all_fit_below : (ts : RegionTyps) → all_fit E n ts ≡ true → (l : ℕ) → IsIn (lifetimes_among ts) l → l < n
    all_fit_below no_region e l h = absurd h
    all_fit_below (region_and t ts) e l h = either_below t ts l (fit_below t (both_of (fits E n t) (all_fit E n ts) e).0 l) (all_fit_below ts (both_of (fits E n t) (all_fit E n ts) e).1 l)
        (is_in_either (lifetimes_in t) (lifetimes_among ts) l h)

-- ---- numbers

own_number : (n next l : ℕ) → l < n → number n next l ≡ l
own_number n next l w = chosen (nat_le n l) refl where
  chosen : (b : Bool) → nat_le n l ≡ b → (if b then next else l) ≡ l
  chosen true e = (let v = leb-true n l e in absurd (omega (arith, w, v)))
  chosen false e = refl

own_numbers : (n next : ℕ) (ls : List ℕ) → ((l : ℕ) → IsIn ls l → l < n) → numbers n next ls ≡ ls
own_numbers n next [] h = refl
own_numbers n next (l ∷ ls) h = λ j. own_number n next l (h l (inl refl)) j ∷ own_numbers n (next + open_one n l) ls (λ k w. h k (inr w)) j

mutual
  own_numbered : (n next : ℕ) (t : RegionTyp) → ((l : ℕ) → IsIn (lifetimes_in t) l → l < n) → numbered n next t ≡ t
  own_numbered n next (region_integer k) h = refl
  own_numbered n next region_boolean h = refl
  own_numbered n next (region_tuple ts) h = ap region_tuple (own_all_numbered n next ts h)
  own_numbered n next (region_reference m l t) h = λ j. region_reference m (own_number n next l (h l (inl refl)) j) (own_numbered n (next + open_one n l) t (λ k w. h k (inr w)) j)
  own_numbered n next (region_named i ls) h = ap (region_named i) (own_numbers n next ls h)

  own_all_numbered : (n next : ℕ) (ts : RegionTyps) → ((l : ℕ) → IsIn (lifetimes_among ts) l → l < n) → types_numbered n next ts ≡ ts
  own_all_numbered n next no_region h = refl
  own_all_numbered n next (region_and t ts) h = λ j. region_and
      (own_numbered n next t (λ l w. h l (is_in_front (lifetimes_in t) (lifetimes_among ts) l w)) j)
      (own_all_numbered n (next + open_in n t) ts (λ l w. h l (is_in_behind (lifetimes_in t) (lifetimes_among ts) l w)) j)

new_number : (next l : ℕ) → number 0 next l ≡ next
new_number next l = ap (λ (b : Bool). if b then next else l) (le-leb 0 l (omega arith))

new_numbers : (next : ℕ) (ls : List ℕ) (l : ℕ) → IsIn (numbers 0 next ls) l → next ≤ l
new_numbers next [] l h = absurd h
new_numbers next (x ∷ ls) l (inl e) = let q = new_number next x in omega (arith, e, q)
new_numbers next (x ∷ ls) l (inr h) = let w = new_numbers (next + open_one 0 x) ls l h in omega (arith, w)

new_either : (next : ℕ) (t : RegionTyp) (ts : RegionTyps) (l : ℕ) → (IsIn (lifetimes_in (numbered 0 next t)) l → next ≤ l)
    → (IsIn (lifetimes_among (types_numbered 0 (next + open_in 0 t) ts)) l → next + open_in 0 t ≤ l)
    → IsIn (lifetimes_in (numbered 0 next t)) l ⊎ IsIn (lifetimes_among (types_numbered 0 (next + open_in 0 t) ts)) l → next ≤ l
new_either next t ts l f g (inl a) = f a
new_either next t ts l f g (inr b) = let w = g b in omega (arith, w)

mutual
  new_numbered : (next : ℕ) (t : RegionTyp) (l : ℕ) → IsIn (lifetimes_in (numbered 0 next t)) l → next ≤ l
  new_numbered next (region_integer k) l h = absurd h
  new_numbered next region_boolean l h = absurd h
  new_numbered next (region_tuple ts) l h = new_all_numbered next ts l h
  new_numbered next (region_reference m x t) l (inl e) = let q = new_number next x in omega (arith, e, q)
  new_numbered next (region_reference m x t) l (inr h) = let w = new_numbered (next + open_one 0 x) t l h in omega (arith, w)
  new_numbered next (region_named i ls) l h = new_numbers next ls l h

  new_all_numbered : (next : ℕ) (ts : RegionTyps) (l : ℕ) → IsIn (lifetimes_among (types_numbered 0 next ts)) l → next ≤ l
  new_all_numbered next no_region l h = absurd h
  new_all_numbered next (region_and t ts) l h = new_either next t ts l (new_numbered next t l) (new_all_numbered (next + open_in 0 t) ts l)
      (is_in_either (lifetimes_in (numbered 0 next t)) (lifetimes_among (types_numbered 0 (next + open_in 0 t) ts)) l h)

-- ---- the type of a parameter's variable

-- the type at a place of a list of open ones: the unit, or one of these with numbers from some next one on
record Numbered (n : ℕ) (W : List Open) (x : ℕ) : Type 0 where
  open_one_is : Open
  next : ℕ
  least : n ≤ next
  stands : slice_get W x ≡ Some open_one_is
  is : get_or (all_numbered n W) x unit_region ≡ numbered open_one_is.from next open_one_is.typ

type_there : (n : ℕ) (W : List Open) (x : ℕ) → (get_or (all_numbered n W) x unit_region ≡ unit_region) ⊎ Numbered n W x
type_there n [] x = inl refl
type_there n (o ∷ W) zero = inr (record { open_one_is = o; next = n; least = omega arith; stands = refl; is = refl })
type_there n (o ∷ W) (suc x) = elim (type_there (n + open_in o.from o.typ) W x) [
  | inl e ↦ inl e
  | inr r ↦ (let w = r.least in inr (record { open_one_is = r.open_one_is; next = r.next; least = omega (arith, w); stands = r.stands; is = r.is }))
]

data AmongTypes (t : Ty) : List Ty → Type 0 where
  here : {ts : List Ty} → AmongTypes t (t ∷ ts)
  there : {u : Ty} {ts : List Ty} → AmongTypes t ts → AmongTypes t (u ∷ ts)

among_pairs : (P : ℕ → List Bound) (t : Ty) (ts : List Ty) → AmongTypes t ts → (l k : ℕ) → HasPair (implied_in P (region-Ty t)) l k → HasPair (implied_among P (regions_of (map region-Ty ts))) l k
among_pairs P t _ (here {ts = ts}) l k h = has_front (implied_in P (region-Ty t)) (implied_among P (regions_of (map region-Ty ts))) l k h
among_pairs P t _ (there {u = u} {ts = ts} w) l k h = has_behind (implied_in P (region-Ty u)) (implied_among P (regions_of (map region-Ty ts))) l k (among_pairs P t ts w l k h)

among_fits : (E : Declarations) (n : ℕ) (t : Ty) (ts : List Ty) → AmongTypes t ts → all_fit E n (regions_of (map region-Ty ts)) ≡ true → fits E n (region-Ty t) ≡ true
among_fits E n t _ (here {ts = ts}) e = (both_of (fits E n (region-Ty t)) (all_fit E n (regions_of (map region-Ty ts))) e).0
among_fits E n t _ (there {u = u} {ts = ts} w) e = among_fits E n t ts w (both_of (fits E n (region-Ty u)) (all_fit E n (regions_of (map region-Ty ts))) e).1

abbrev pub variable_of : tree.Parameter → ℕ
variable_of p = p.variable

record Declared (ps : List tree.Parameter) (ts : List Ty) (x : ℕ) : Type 0 where
  typ : Ty
  is : parameter_type ps ts x ≡ Some typ
  among : AmongTypes typ ts

parameter_found : (ps : List tree.Parameter) (ts : List Ty) → length ps ≡ length ts → (x : ℕ) → IsIn (map variable_of ps) x → Declared ps ts x
parameter_found [] ts e x h = absurd h
parameter_found (p ∷ ps) [] e x h = absurd (omega (arith, e))
parameter_found (p ∷ ps) (t ∷ ts) e x h = chosen (p.variable == x) refl (λ w. parameter_found ps ts (omega (arith, e)) x w) h where
  chosen : (b : Bool) → (p.variable == x) ≡ b → (IsIn (map variable_of ps) x → Declared ps ts x) → (p.variable ≡ x) ⊎ IsIn (map variable_of ps) x → Declared (p ∷ ps) (t ∷ ts) x
  chosen true q rest h = record { typ = t; is = ap (λ (b : Bool). if b then Some t else parameter_type ps ts x) q; among = here }
  chosen false q rest (inl w) = absurd (true≢false (sym (eq-eqb p.variable x w) ∙ q))
  chosen false q rest (inr w) = let d = rest w in record { typ = d.typ; is = ap (λ (b : Bool). if b then Some t else parameter_type ps ts x) q ∙ d.is; among = there d.among }

abbrev closed : ℕ → Ty → Open
closed own t = record { typ = region-Ty t; from = own }

open_same : (a b : Open) → ◌≡◌ {A = Option Open} (Some a) (Some b) → a ≡ b
open_same a b e = cc

open_none : (a : Open) → ◌≡◌ {A = Option Open} None (Some a) → ⊥
open_none a e = cc

open_at : (own : ℕ) (ps : List tree.Parameter) (ts : List Ty) (ws : List Written) (y : ℕ) (raws : List (Option Ty)) (x : ℕ) (o : Open)
    → slice_get (open_types own ps ts ws y raws) x ≡ Some o → (t : Ty) → parameter_type ps ts (y + x) ≡ Some t → o ≡ closed own t
open_at own ps ts ws y [] x o e t d = absurd (open_none o e)
open_at own ps ts ws y (r ∷ rs) zero o e t d =
    let at : y + 0 ≡ y = omega arith in
    sym (open_same (open_type own (told (parameter_type ps ts y) (written_type ws y)) r) o e)
    ∙ ap (λ (q : Option Ty). open_type own (told q (written_type ws y)) r) (ap (parameter_type ps ts) (sym at) ∙ d)
open_at own ps ts ws y (r ∷ rs) (suc x) o e t d =
    let at : suc y + x ≡ y + suc x = omega arith in
    open_at own ps ts ws (suc y) rs x o e t (ap (parameter_type ps ts) at ∙ d)

plus_zero : (x : ℕ) → 0 + x ≡ x
plus_zero x = omega arith

in_either : (V W : List Open) (x : ℕ) (o : Open) → slice_get (V ++ W) x ≡ Some o → (slice_get V x ≡ Some o) ⊎ ((j : ℕ) × (slice_get W j ≡ Some o))
in_either [] W x o e = inr (x, e)
in_either (v ∷ V) W zero o e = inl e
in_either (v ∷ V) W (suc x) o e = in_either V W x o e

opened_from : (hs : List Held) (j : ℕ) (o : Open) → slice_get (opened hs) j ≡ Some o → o.from ≡ 0
opened_from [] j o e = absurd (open_none o e)
opened_from (h ∷ hs) zero o e = sym (ap (λ (x : Open). x.from) (open_same (record { typ = h.typ; from = 0 }) o e))
opened_from (h ∷ hs) (suc j) o e = opened_from hs j o e

module _ (P : ℕ → List Bound) (E : Declarations) (own : ℕ) (ps : List tree.Parameter) (ts : List Ty) (count : length ps ≡ length ts) (fit : all_fit E own (regions_of (map region-Ty ts)) ≡ true)
    (ws : List Written) (raws : List (Option Ty)) (H : List Held) where
  abbrev variables : List Open
  variables = open_types own ps ts ws 0 raws

  abbrev types : List RegionTyp
  types = all_numbered own (variables ++ opened H)

  numbered_pair : (x : ℕ) → IsIn (map variable_of ps) x → (r : Numbered own (variables ++ opened H) x) → (l k : ℕ) → l < own
      → HasPair (implied_in P (numbered r.open_one_is.from r.next r.open_one_is.typ)) l k → HasPair (implied_among P (regions_of (map region-Ty ts))) l k
  numbered_pair x given r l k w h = elim (in_either variables (opened H) x r.open_one_is r.stands) [
    | inl v ↦ (let d = parameter_found ps ts count x given in
        let is = open_at own ps ts ws 0 raws x r.open_one_is v d.typ (ap (parameter_type ps ts) (plus_zero x) ∙ d.is) in
        among_pairs P d.typ ts d.among l k
        (subst (λ (t : RegionTyp). HasPair (implied_in P t) l k) (own_numbered own r.next (region-Ty d.typ) (fit_below E own (region-Ty d.typ) (among_fits E own d.typ ts d.among fit)))
        (subst (λ (o : Open). HasPair (implied_in P (numbered o.from r.next o.typ)) l k) is h)))
    | inr v ↦ (let n = opened_from H v.0 r.open_one_is v.1 in
        let s = implied_stand P (numbered 0 r.next r.open_one_is.typ) l k (subst (λ m. HasPair (implied_in P (numbered m r.next r.open_one_is.typ)) l k) n h) in
        let b = new_numbered r.next r.open_one_is.typ l s.long in let a = r.least in absurd (omega (arith, w, a, b)))
  ]

  pub parameter_pair : (x : ℕ) → IsIn (map variable_of ps) x → (l k : ℕ) → l < own → HasPair (implied_in P (get_or types x unit_region)) l k → HasPair (implied_among P (regions_of (map region-Ty ts))) l k
  parameter_pair x given l k w h = elim (type_there own (variables ++ opened H) x) [
    | inl e ↦ absurd (subst (λ (t : RegionTyp). HasPair (implied_in P t) l k) e h)
    | inr r ↦ numbered_pair x given r l k w (subst (λ (t : RegionTyp). HasPair (implied_in P t) l k) r.is h)
  ]

-- ---- a signature that fits

pub record Fitting (E : Declarations) (o : Option Decl) : Type 0 where
  pub params : all_fit E (lifetimes_of o) (regions_of (map region-Ty (parameters o))) ≡ true
  pub answer : fits E (lifetimes_of o) (result_type o) ≡ true
  pub bounds : bounds_fit (lifetimes_of o) (bounds_of o) ≡ true

-- an item that is no function has no parameters, the unit as its result, and no bounds
pub fitting : (E : Declarations) (o : Option Decl) → ((d : Decl) → o ≡ Some d → signature_fits E d ≡ true) → Fitting E o
fitting E None h = record { params = refl; answer = refl; bounds = refl }
fitting E (Some decl.Rt) h = record { params = refl; answer = refl; bounds = refl }
fitting E (Some (decl.Struct c l vs fs)) h = record { params = refl; answer = refl; bounds = refl }
fitting E (Some (decl.Enum c l vs ds)) h = record { params = refl; answer = refl; bounds = refl }
fitting E (Some (decl.Func l ps t bs)) h =
    let a = both_of (all_fit E l (regions_of (map region-Ty ps)) && fits E l (region-Ty t)) (bounds_fit l bs) (h (decl.Func l ps t bs) refl) in
    let b = both_of (all_fit E l (regions_of (map region-Ty ps))) (fits E l (region-Ty t)) a.0 in
    record { params = b.0; answer = b.1; bounds = a.1 }

bound_below : (n : ℕ) (bs : List Bound) → bounds_fit n bs ≡ true → (l k : ℕ) → HasPair bs l k → k < n
bound_below n [] e l k h = absurd h
bound_below n (b ∷ bs) e l k (inl is) =
    let a = both_of (nat_lt b.long n && nat_lt b.short n) (bounds_fit n bs) e in
    subst (λ y. y < n) (ap (λ (c : Bound). c.short) is) (less b.short n (both_of (nat_lt b.long n) (nat_lt b.short n) a.0).1)
bound_below n (b ∷ bs) e l k (inr h) = bound_below n bs (both_of (nat_lt b.long n && nat_lt b.short n) (bounds_fit n bs) e).1 l k h

-- what it says, whatever the item is
abbrev pub says : (ℕ → List Bound) → Option Decl → List Bound
says P o = bounds_of o ++ (implied_among P (regions_of (map region-Ty (parameters o))) ++ implied_in P (result_type o))

pub says_is : (P : ℕ → List Bound) (o : Option Decl) → says P o ≡ signature_says P o
says_is P None = refl
says_is P (Some decl.Rt) = refl
says_is P (Some (decl.Struct c l vs fs)) = refl
says_is P (Some (decl.Enum c l vs ds)) = refl
says_is P (Some (decl.Func l ps t bs)) = refl

-- its pairs are of its lifetimes
pub said_below : (P : ℕ → List Bound) (E : Declarations) (o : Option Decl) → Fitting E o → (l k : ℕ) → HasPair (says P o) l k → k < lifetimes_of o
said_below P E o f l k h = elim (has_either (bounds_of o) (implied_among P (regions_of (map region-Ty (parameters o))) ++ implied_in P (result_type o)) l k h) [
  | inl a ↦ bound_below (lifetimes_of o) (bounds_of o) f.bounds l k a
  | inr b ↦ elim (has_either (implied_among P (regions_of (map region-Ty (parameters o)))) (implied_in P (result_type o)) l k b) [
    | inl c ↦ all_fit_below E (lifetimes_of o) (regions_of (map region-Ty (parameters o))) f.params k (among_stand P (regions_of (map region-Ty (parameters o))) l k c).short
    | inr d ↦ fit_below E (lifetimes_of o) (result_type o) f.answer k (implied_stand P (result_type o) l k d).short
  ]
]
