-- The pairs of a type as a list are those of the definition, where those of the items that it names are.
use Rattle.std.proofs.Common.{◌≡◌, ◌↔◌, ◌⊎◌, inl, inr, ℕ, zero, suc, Bool, List, [], ◌∷◌, ◌++◌, Option, Some, None, slice_get, refl, sym, ap, ◌∙◌, subst}
use Rattle.std.proofs.Common.{length, map, take, drop, get_or, ◌+◌, ◌<◌, arith}
use Rattle.rx_core.specs.declared.types.Bound.{Bound}
use Rattle.std.proofs.lemmas.List.{append_assoc, at_drop_more}
use Rattle.rx_graph_cycles.specs.Reaches.{IsIn}
use Rattle.rx_graph_cycles.proofs.Ways.{is_in_front, is_in_behind, is_in_either}
use Rattle.rx_typed.specs.Regions.{RegionTyp, region_integer, region_boolean, region_tuple, region_reference}
use Rattle.rx_typed.specs.Regions.{region_named, RegionTyps, no_region, region_and, regions_of, regions_at, lifetimes_in, erased, all_erased}
use Rattle.rx_typed_declarations.specs.Held.{named_in, named_among}
use Rattle.rx_region_outlives.specs.Related.{outlives}
use Rattle.rx_region_outlives.specs.Implied.{Implied, in_tuple, behind, pointed_to, by_fields, ImpliedAmong, in_first, in_rest, ImpliedBy, in_held}
use Rattle.rx_region_outlives.specs.Implied.{HasPair, SamePairs, Kept, Marked, pair_of, with_arguments, all_outlive, implied_in, implied_among, ImpliesOf}

-- ---- lists of pairs

pub has_front : (ps qs : List Bound) (l k : ℕ) → HasPair ps l k → HasPair (ps ++ qs) l k
has_front [] qs l k h = absurd h
has_front (p ∷ ps) qs l k (inl e) = inl e
has_front (p ∷ ps) qs l k (inr h) = inr (has_front ps qs l k h)

pub has_behind : (ps qs : List Bound) (l k : ℕ) → HasPair qs l k → HasPair (ps ++ qs) l k
has_behind [] qs l k h = h
has_behind (p ∷ ps) qs l k h = inr (has_behind ps qs l k h)

pub has_either : (ps qs : List Bound) (l k : ℕ) → HasPair (ps ++ qs) l k → HasPair ps l k ⊎ HasPair qs l k
has_either [] qs l k h = inr h
has_either (p ∷ ps) qs l k (inl e) = inl (inl e)
has_either (p ∷ ps) qs l k (inr h) = elim (has_either ps qs l k h) [ inl a ↦ inl (inr a) | inr b ↦ inr b ]

all_there : (ls : List ℕ) (l k : ℕ) → IsIn ls l → HasPair (all_outlive ls k) l k
all_there [] l k h = absurd h
all_there (x ∷ ls) l k (inl same) = inl (ap (λ x. outlives x k) same)
all_there (x ∷ ls) l k (inr h) = inr (all_there ls l k h)

-- the pairs of those that outlive one
record Outlived (ls : List ℕ) (r l k : ℕ) : Type 0 where
  stands : IsIn ls l
  is : k ≡ r

all_back : (ls : List ℕ) (r l k : ℕ) → HasPair (all_outlive ls r) l k → Outlived ls r l k
all_back [] r l k h = absurd h
all_back (x ∷ ls) r l k (inl e) = record { stands = inl (ap (λ b. b.long) e); is = sym (ap (λ b. b.short) e) }
all_back (x ∷ ls) r l k (inr h) = let o = all_back ls r l k h in record { stands = inr o.stands; is = o.is }

-- a pair that is there once more
pub known_same : (ps : List Bound) (b : Bound) → HasPair ps b.long b.short → SamePairs ps (ps ++ b ∷ [])
known_same ps b h l k = (has_front ps (b ∷ []) l k, back)
  where
    there : b ≡ outlives l k → HasPair ps l k
    there e = subst (λ (c : Bound). HasPair ps c.long c.short) e h

    back : HasPair (ps ++ b ∷ []) l k → HasPair ps l k
    back n = elim (has_either ps (b ∷ []) l k n) [ inl o ↦ o | inr o ↦ elim o [ inl e ↦ there e | inr f ↦ absurd f ] ]

-- one that is kept and marked
pub kept_more : (old new : List (List ℕ)) (ps : List Bound) (b : Bound) → Kept old ps → Marked old new b → Kept new (ps ++ b ∷ [])
kept_more old new ps b kept more l k h =
    elim (more l k h) [ inl o ↦ has_front ps (b ∷ []) l k (kept l k o) | inr e ↦ has_behind ps (b ∷ []) l k (inl e) ]

-- rows that are written back
taken : (n : ℕ) (xs ys : List (List ℕ)) → length xs ≡ n → take n (xs ++ ys) ≡ xs
taken zero [] ys e = refl
taken zero (x ∷ xs) ys e = absurd (omega (arith, e))
taken (suc n) [] ys e = absurd (omega (arith, e))
taken (suc n) (x ∷ xs) ys e = ap (λ zs. x ∷ zs) (taken n xs ys (omega (arith, e)))

pub kept_back : (n : ℕ) (rows rest : List (List ℕ)) (ps : List Bound) → length rows ≡ n → Kept rows ps → Kept (take n (rows ++ rest)) ps
kept_back n rows rest ps e kept = subst (λ R. Kept R ps) (sym (taken n rows rest e)) kept

-- what is kept, and what is left
pub same_more : (kept new rest all : List Bound) (b : Bound) → SamePairs (kept ++ b ∷ rest) all → SamePairs new (kept ++ b ∷ [])
    → SamePairs (new ++ rest) all
same_more kept new rest all b same step l k = (forth, back)
  where
    moved : (kept ++ b ∷ []) ++ rest ≡ kept ++ b ∷ rest
    moved = append_assoc kept (b ∷ []) rest

    forth : HasPair (new ++ rest) l k → HasPair all l k
    forth h = (same l k).0 (subst (λ qs. HasPair qs l k) moved (elim (has_either new rest l k h)
        [ inl o ↦ has_front (kept ++ b ∷ []) rest l k ((step l k).0 o) | inr o ↦ has_behind (kept ++ b ∷ []) rest l k o ]))

    back : HasPair all l k → HasPair (new ++ rest) l k
    back h = elim (has_either (kept ++ b ∷ []) rest l k (subst (λ qs. HasPair qs l k) (sym moved) ((same l k).1 h)))
        [ inl o ↦ has_front new rest l k ((step l k).1 o) | inr o ↦ has_behind new rest l k o ]

abbrev no_pair : Bound
no_pair = record { long = 0; short = 0 }

-- the next of those that are left
pub same_next : (kept ps all : List Bound) (i : ℕ) → i < length ps → SamePairs (kept ++ drop i ps) all
    → SamePairs (kept ++ get_or ps i no_pair ∷ drop (i + 1) ps) all
same_next kept ps all i less same = subst (λ (qs : List Bound). SamePairs qs all) (at_drop_more (λ (qs : List Bound). kept ++ qs) ps i no_pair less) same

-- ---- arguments

record Argued (ls : List ℕ) (ps : List Bound) (l k : ℕ) : Type 0 where
  long : ℕ
  short : ℕ
  first : slice_get ls long ≡ Some l
  second : slice_get ls short ≡ Some k
  pair : HasPair ps long short

pair_there : (a b : Option ℕ) (l k : ℕ) → a ≡ Some l → b ≡ Some k → HasPair (pair_of a b) l k
pair_there a b l k e f = rw (e, f) (inl refl)

record PairBack (a b : Option ℕ) (l k : ℕ) : Type 0 where
  first : a ≡ Some l
  second : b ≡ Some k

pair_back : (a b : Option ℕ) (l k : ℕ) → HasPair (pair_of a b) l k → PairBack a b l k
pair_back (Some x) (Some y) l k (inl e) = record { first = ap (λ b. Some b.long) e; second = ap (λ b. Some b.short) e }
pair_back (Some x) (Some y) l k (inr h) = absurd h
pair_back (Some x) None l k h = absurd h
pair_back None b l k h = absurd h

arguments_there : (ls : List ℕ) (ps : List Bound) (x y l k : ℕ) → HasPair ps x y → slice_get ls x ≡ Some l → slice_get ls y ≡ Some k
    → HasPair (with_arguments ls ps) l k
arguments_there ls [] x y l k h e f = absurd h
arguments_there ls (b ∷ bs) x y l k (inl same) e f =
    has_front (pair_of (slice_get ls b.long) (slice_get ls b.short)) (with_arguments ls bs) l k
    (pair_there (slice_get ls b.long) (slice_get ls b.short) l k (ap (λ c. slice_get ls c.long) same ∙ e) (ap (λ c. slice_get ls c.short) same ∙ f))
arguments_there ls (b ∷ bs) x y l k (inr h) e f =
    has_behind (pair_of (slice_get ls b.long) (slice_get ls b.short)) (with_arguments ls bs) l k (arguments_there ls bs x y l k h e f)

first_or_later : (ls : List ℕ) (b : Bound) (bs : List Bound) (l k : ℕ) → (HasPair (with_arguments ls bs) l k → Argued ls bs l k)
    → HasPair (pair_of (slice_get ls b.long) (slice_get ls b.short)) l k ⊎ HasPair (with_arguments ls bs) l k → Argued ls (b ∷ bs) l k
first_or_later ls b bs l k later (inl p) = let o = pair_back (slice_get ls b.long) (slice_get ls b.short) l k p in
    record { long = b.long; short = b.short; first = o.first; second = o.second; pair = inl refl }
first_or_later ls b bs l k later (inr p) = let a = later p in
    record { long = a.long; short = a.short; first = a.first; second = a.second; pair = inr a.pair }

arguments_back : (ls : List ℕ) (ps : List Bound) (l k : ℕ) → HasPair (with_arguments ls ps) l k → Argued ls ps l k
arguments_back ls [] l k h = absurd h
arguments_back ls (b ∷ bs) l k h =
    first_or_later ls b bs l k (arguments_back ls bs l k)
    (has_either (pair_of (slice_get ls b.long) (slice_get ls b.short)) (with_arguments ls bs) l k h)

-- ---- types

module _ (H : List (List RegionTyp)) (P : ℕ → List Bound) where
  abbrev Tells : List ℕ → Type 0
  Tells ns = (i : ℕ) → IsIn ns i → ImpliesOf H i (P i)

  mutual
    implied_there : (t : RegionTyp) (l k : ℕ) → Tells (named_in (erased t)) → Implied H t l k → HasPair (implied_in P t) l k
    implied_there t l k tells (in_tuple {ts = ts} h) = among_there ts l k tells h
    implied_there t l k tells (behind {r = r} {t = u} h) =
        has_behind (all_outlive (lifetimes_in u) r) (implied_in P u) l k (implied_there u l k tells h)
    implied_there t l k tells (pointed_to {t = u} h) =
        has_front (all_outlive (lifetimes_in u) k) (implied_in P u) l k (all_there (lifetimes_in u) l k h)
    implied_there t l k tells (by_fields {i = i} {ls = ls} {x = x} {y = y} e f h) =
        arguments_there ls (P i) x y l k ((tells i (inl refl) x y).1 h) e f

    among_there : (ts : RegionTyps) (l k : ℕ) → Tells (named_among (all_erased ts)) → ImpliedAmong H ts l k
        → HasPair (implied_among P ts) l k
    among_there us l k tells (in_first {t = t} {ts = ts} h) = has_front (implied_in P t) (implied_among P ts) l k
        (implied_there t l k (λ i n. tells i (is_in_front (named_in (erased t)) (named_among (all_erased ts)) i n)) h)
    among_there us l k tells (in_rest {t = t} {ts = ts} h) = has_behind (implied_in P t) (implied_among P ts) l k
        (among_there ts l k (λ i n. tells i (is_in_behind (named_in (erased t)) (named_among (all_erased ts)) i n)) h)

  pointing_back : (m : Bool) (r : ℕ) (t : RegionTyp) (l k : ℕ) → (HasPair (implied_in P t) l k → Implied H t l k)
      → HasPair (all_outlive (lifetimes_in t) r) l k ⊎ HasPair (implied_in P t) l k → Implied H (region_reference m r t) l k
  pointing_back m r t l k inner (inl a) = let o = all_back (lifetimes_in t) r l k a in
      subst (λ x. Implied H (region_reference m x t) l k) o.is (pointed_to o.stands)
  pointing_back m r t l k inner (inr b) = behind (inner b)

  either_back : (t : RegionTyp) (ts : RegionTyps) (l k : ℕ) → (HasPair (implied_in P t) l k → Implied H t l k)
      → (HasPair (implied_among P ts) l k → ImpliedAmong H ts l k)
      → HasPair (implied_in P t) l k ⊎ HasPair (implied_among P ts) l k → ImpliedAmong H (region_and t ts) l k
  either_back t ts l k first later (inl a) = in_first (first a)
  either_back t ts l k first later (inr b) = in_rest (later b)

  mutual
    implied_back : (t : RegionTyp) (l k : ℕ) → Tells (named_in (erased t)) → HasPair (implied_in P t) l k → Implied H t l k
    implied_back (region_integer n) l k tells h = absurd h
    implied_back region_boolean l k tells h = absurd h
    implied_back (region_tuple ts) l k tells h = in_tuple (among_back ts l k tells h)
    implied_back (region_reference m r t) l k tells h =
        pointing_back m r t l k (implied_back t l k tells) (has_either (all_outlive (lifetimes_in t) r) (implied_in P t) l k h)
    implied_back (region_named i ls) l k tells h = let a = arguments_back ls (P i) l k h in
        by_fields a.first a.second ((tells i (inl refl) a.long a.short).0 a.pair)

    among_back : (ts : RegionTyps) (l k : ℕ) → Tells (named_among (all_erased ts)) → HasPair (implied_among P ts) l k
        → ImpliedAmong H ts l k
    among_back no_region l k tells h = absurd h
    among_back (region_and t ts) l k tells h =
        either_back t ts l k (implied_back t l k (λ i n. tells i (is_in_front (named_in (erased t)) (named_among (all_erased ts)) i n)))
        (among_back ts l k (λ i n. tells i (is_in_behind (named_in (erased t)) (named_among (all_erased ts)) i n)))
        (has_either (implied_in P t) (implied_among P ts) l k h)

  pub implied_told : (t : RegionTyp) → Tells (named_in (erased t)) → (l k : ℕ) → HasPair (implied_in P t) l k ↔ Implied H t l k
  implied_told t tells l k = (implied_back t l k tells, implied_there t l k tells)

  pub among_told : (ts : RegionTyps) → Tells (named_among (all_erased ts)) → (l k : ℕ) → HasPair (implied_among P ts) l k ↔ ImpliedAmong H ts l k
  among_told ts tells l k = (among_back ts l k tells, among_there ts l k tells)

pub among_append : (P : ℕ → List Bound) (ts us : List RegionTyp)
    → implied_among P (regions_of (ts ++ us)) ≡ implied_among P (regions_of ts) ++ implied_among P (regions_of us)
among_append P [] us = refl
among_append P (t ∷ ts) us =
    ap (λ qs. implied_in P t ++ qs) (among_append P ts us)
    ∙ sym (append_assoc (implied_in P t) (implied_among P (regions_of ts)) (implied_among P (regions_of us)))
