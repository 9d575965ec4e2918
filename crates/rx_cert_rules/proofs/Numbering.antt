-- The lifetimes of a function's types are among those that are counted.
use Rattle.std.proofs.Common.{◌≡◌, ◌⊎◌, inl, inr, ℕ, zero, suc, ◌+◌, ◌<◌, ◌≤◌, Bool, true, false, if◌then◌else◌, nat_le, List, [], ◌∷◌, ◌++◌, take, drop, get_or, Option, Some, None, slice_get, refl, subst, arith}
use Rattle.std.proofs.lemmas.Bool.{leb-false}
use Rattle.rx_core.specs.declared.types.Ty.{Ty}
use Rattle.rx_core.specs.declared.types.Bound.{Bound}
use Rattle.rx_graph_cycles.specs.Reaches.{IsIn}
use Rattle.rx_typed.specs.declared.declarations.Decl.{Decl}
use Rattle.rx_typed.specs.Regions.{RegionTyp, region_integer, region_boolean, region_tuple, region_reference, region_named, RegionTyps, no_region, region_and, lifetimes_in, lifetimes_among}
use Rattle.rx_typed.specs.Renaming.{unit_region}
use Rattle.rx_typed.specs.Numbers.{open_one, open_among, open_in, open_in_all, number, numbers, numbered, all_numbered as all_parts_numbered}
use Rattle.rx_typed.specs.Tree.{Temporary, Root, variable, temporary, Parameter, Function}
use Rattle.rx_lower_lifetimes.specs.Values.{Open, Held, lifetimes_of, same}
use Rattle.rx_lower_lifetimes.specs.Variables.{Written, open_types, told, parameter_type, written_type, open_type}
use Rattle.rx_lower_lifetimes.specs.Numbered.{all_open, all_numbered, opened}
use Rattle.rx_lower_lifetimes.specs.Lowered.{lifetimes, function_of, parameters, temporaries}
use Rattle.rx_lower_lifetimes.specs.Lowered.{Function as Lowered}
use Rattle.rx_region.specs.Constraints.{root_type, temporary_type, variables_of}
use Rattle.rx_cert_rules.specs.Written.{Numbered}

-- ---- one type: a lifetime of it is one that wasn't open, or one of those that are counted

one_below : (from next l : ℕ) → (number from next l < from) ⊎ (number from next l < next + open_one from l)
one_below from next l = go (nat_le from l) refl where
  go : (b : Bool) → nat_le from l ≡ b → ((if b then next else l) < from) ⊎ ((if b then next else l) < next + (if b then 1 else 0))
  go true e = inr (omega arith)
  go false e = inl (leb-false from l e)

wider : (n from a b : ℕ) → a ≤ b → (n < from) ⊎ (n < a) → (n < from) ⊎ (n < b)
wider n from a b h (inl e) = inl e
wider n from a b h (inr e) = inr (omega (arith, h, e))

split : (xs ys : List ℕ) (n : ℕ) → IsIn (xs ++ ys) n → IsIn xs n ⊎ IsIn ys n
split [] ys n i = inr i
split (x ∷ xs) ys n (inl e) = inl (inl e)
split (x ∷ xs) ys n (inr i) = more (split xs ys n i) where
  more : IsIn xs n ⊎ IsIn ys n → IsIn (x ∷ xs) n ⊎ IsIn ys n
  more (inl j) = inl (inr j)
  more (inr j) = inr j

some_below : (from next : ℕ) (ls : List ℕ) (n : ℕ) → IsIn (numbers from next ls) n → (n < from) ⊎ (n < next + open_among from ls)
some_below from next [] n i = absurd i
some_below from next (l ∷ ls) n (inl e) =
    subst (λ x. (x < from) ⊎ (x < next + (open_one from l + open_among from ls))) e
    (wider (number from next l) from (next + open_one from l) (next + (open_one from l + open_among from ls)) (omega arith) (one_below from next l))
some_below from next (l ∷ ls) n (inr i) =
    wider n from (next + open_one from l + open_among from ls) (next + (open_one from l + open_among from ls)) (omega arith)
    (some_below from (next + open_one from l) ls n i)

either : {A B : Type 0} (from next a b n : ℕ) → (A → (n < from) ⊎ (n < next + a)) → (B → (n < from) ⊎ (n < next + a + b)) → A ⊎ B
    → (n < from) ⊎ (n < next + (a + b))
either from next a b n f g (inl x) = wider n from (next + a) (next + (a + b)) (omega arith) (f x)
either from next a b n f g (inr y) = wider n from (next + a + b) (next + (a + b)) (omega arith) (g y)

mutual
  type_below : (from next : ℕ) (t : RegionTyp) (n : ℕ) → IsIn (lifetimes_in (numbered from next t)) n → (n < from) ⊎ (n < next + open_in from t)
  type_below from next (region_integer k) n i = absurd i
  type_below from next region_boolean n i = absurd i
  type_below from next (region_tuple ts) n i = parts_below from next ts n i
  type_below from next (region_reference m l t) n (inl e) =
      subst (λ x. (x < from) ⊎ (x < next + (open_one from l + open_in from t))) e
      (wider (number from next l) from (next + open_one from l) (next + (open_one from l + open_in from t)) (omega arith) (one_below from next l))
  type_below from next (region_reference m l t) n (inr i) =
      wider n from (next + open_one from l + open_in from t) (next + (open_one from l + open_in from t)) (omega arith)
      (type_below from (next + open_one from l) t n i)
  type_below from next (region_named k ls) n i = some_below from next ls n i

  parts_below : (from next : ℕ) (ts : RegionTyps) (n : ℕ) → IsIn (lifetimes_among (all_parts_numbered from next ts)) n → (n < from) ⊎ (n < next + open_in_all from ts)
  parts_below from next no_region n i = absurd i
  parts_below from next (region_and t ts) n i =
      either from next (open_in from t) (open_in_all from ts) n (λ j. type_below from next t n j) (λ j. parts_below from (next + open_in from t) ts n j)
      (split (lifetimes_in (numbered from next t)) (lifetimes_among (all_parts_numbered from (next + open_in from t) ts)) n i)

-- ---- lists of types

abbrev pub Below : ℕ → List RegionTyp → Type 0
Below bound [] = Unit {0}
Below bound (t ∷ ts) = ((n : ℕ) → IsIn (lifetimes_in t) n → n < bound) × Below bound ts

-- lifetimes that aren't open are the function's own
abbrev From : ℕ → List Open → Type 0
From own [] = Unit {0}
From own (t ∷ ts) = (t.from ≤ own) × From own ts

more_below : (a b : ℕ) (ts : List RegionTyp) → a ≤ b → Below a ts → Below b ts
more_below a b [] h below = tt
more_below a b (t ∷ ts) h below = (λ n i. let r = below.0 n i in omega (arith, h, r), more_below a b ts h below.1)

all_below : (own next : ℕ) (ts : List Open) → own ≤ next → From own ts → Below (next + all_open ts) (all_numbered next ts)
all_below own next [] h from = tt
all_below own next (t ∷ ts) h from = (
  λ n i. one n (type_below t.from next t.typ n i),
  more_below (next + open_in t.from t.typ + all_open ts) (next + (open_in t.from t.typ + all_open ts)) (all_numbered (next + open_in t.from t.typ) ts) (omega arith)
      (all_below own (next + open_in t.from t.typ) ts (omega (arith, h)) from.1),
) where
  one : (n : ℕ) → (n < t.from) ⊎ (n < next + open_in t.from t.typ) → n < next + (open_in t.from t.typ + all_open ts)
  one n (inl e) = omega (arith, e, h, from.0)
  one n (inr e) = omega (arith, e)

below_take : (bound k : ℕ) (ts : List RegionTyp) → Below bound ts → Below bound (take k ts)
below_take bound zero ts b = tt
below_take bound (suc k) [] b = tt
below_take bound (suc k) (t ∷ ts) b = (b.0, below_take bound k ts b.1)

below_drop : (bound k : ℕ) (ts : List RegionTyp) → Below bound ts → Below bound (drop k ts)
below_drop bound zero ts b = b
below_drop bound (suc k) [] b = tt
below_drop bound (suc k) (t ∷ ts) b = below_drop bound k ts b.1

below_at : (bound x : ℕ) (ts : List RegionTyp) → Below bound ts → (n : ℕ) → IsIn (lifetimes_in (get_or ts x unit_region)) n → n < bound
below_at bound x [] b n i = absurd i
below_at bound zero (t ∷ ts) b n i = b.0 n i
below_at bound (suc x) (t ∷ ts) b n i = below_at bound x ts b.1 n i

below_temporary : (bound : ℕ) (ss : List Temporary) (ts : List RegionTyp) (s : Temporary) → Below bound ts → (n : ℕ)
    → IsIn (lifetimes_in (temporary_type ss ts s)) n → n < bound
below_temporary bound [] ts s b n i = absurd i
below_temporary bound (z ∷ ss) [] s b n i = absurd i
below_temporary bound (z ∷ ss) (t ∷ ts) s b n i = go (λ j. below_temporary bound ss ts s b.1 n j) (same z s) i where
  go : (IsIn (lifetimes_in (temporary_type ss ts s)) n → n < bound) → (c : Bool) → IsIn (lifetimes_in (if c then t else temporary_type ss ts s)) n → n < bound
  go more true j = b.0 n j
  go more false j = more j

from_types : (own : ℕ) (ps : List Parameter) (ts : List Ty) (ws : List Written) (x : ℕ) (rs : List (Option Ty)) → From own (open_types own ps ts ws x rs)
from_types own ps ts ws x [] = tt
from_types own ps ts ws x (r ∷ rs) = (one (told (parameter_type ps ts x) (written_type ws x)), from_types own ps ts ws (suc x) rs) where
  one : (o : Option RegionTyp) → (open_type own o r).from ≤ own
  one (Some t) = omega arith
  one None = omega arith

from_both : (own : ℕ) (V : List Open) (H : List Held) → From own V → From own (V ++ opened H)
from_both own [] [] f = tt
from_both own [] (h ∷ H) f = (omega arith, from_both own [] H tt)
from_both own (t ∷ V) H f = (f.0, from_both own V H f.1)

-- all types of a function have lifetimes that are counted
pub types_below : (D : List Decl) (f : ℕ) (b : Function) (raws : List (Option Ty)) (ws : List Written)
    → Below (lifetimes (function_of D f b raws ws)).regions (lifetimes (function_of D f b raws ws)).types
types_below D f b raws ws = more_below (own + all_open vs) (lifetimes F).regions (lifetimes F).types (omega arith)
    (all_below own own vs (omega arith) (from_both own F.variables (temporaries F) (from_types own b.params (parameters (slice_get D f)) ws 0 raws))) where
      F : Lowered
      F = function_of D f b raws ws

      own : ℕ
      own = lifetimes_of (slice_get D f)

      vs : List Open
      vs = F.variables ++ opened (temporaries F)

pub are_numbered : (D : List Decl) (P : ℕ → List Bound) (f : ℕ) (b : Function) (raws : List (Option Ty)) (ws : List Written)
    → Numbered (record { items = D; implied = P; lifetimes = lifetimes (function_of D f b raws ws) })
are_numbered D P f b raws ws = record {
  own = omega arith;
  types = of_root;
} where
  F : Lowered
  F = function_of D f b raws ws

  all : Below (lifetimes F).regions (lifetimes F).types
  all = types_below D f b raws ws

  of_root : (r : Root) (n : ℕ) → IsIn (lifetimes_in (root_type (lifetimes F) r)) n → n < (lifetimes F).regions
  of_root (variable x) n i = below_at (lifetimes F).regions x (take (variables_of (lifetimes F)) (lifetimes F).types)
      (below_take (lifetimes F).regions (variables_of (lifetimes F)) (lifetimes F).types all) n i
  of_root (temporary t) n i = below_temporary (lifetimes F).regions (lifetimes F).temporaries (drop (variables_of (lifetimes F)) (lifetimes F).types) t
      (below_drop (lifetimes F).regions (variables_of (lifetimes F)) (lifetimes F).types all) n i
