-- The polarities that are marked in an order of the items are those of the definition.
use Rattle.std.proofs.Common.{◌≡◌, ◌↔◌, ℕ, zero, suc, ◌+◌, ◌<◌, ◌≤◌, ◌⊎◌, inl, inr, Bool, true, false, ◌||◌, ◌&&◌, List}
use Rattle.std.proofs.Common.{[], ◌∷◌, ◌++◌, length, replicate}
use Rattle.std.proofs.Common.{get_or, slice_get, slice_set, option_map, unwrap_or, Option, Some, None, refl, sym, ap}
use Rattle.std.proofs.Common.{◌∙◌, subst, arith, true≢false, nat_lt}
use Rattle.std.proofs.lemmas.List.{length-set, length-map, length-replicate}
use Rattle.std.proofs.lemmas.Bool.{or_left, ltb-true}
use Rattle.std.proofs.lemmas.Option.{slice_get-map, slice_get_past, get_or_from_slice_get, unwrap_or-slice_get}
use Rattle.rx_graph_cycles.specs.Reaches.{targets, IsIn}
use Rattle.rx_graph_cycles.specs.Orders.{InOrder}
use Rattle.rx_graph_cycles.proofs.Ways.{is_in_front, is_in_behind, is_in_either}
use Rattle.rx_typed.specs.declared.declarations.Polarity.{Polarity}
use Rattle.rx_typed.specs.declared.declarations.Polarity.TheVariants.{Co, Inv}
use Rattle.rx_typed.specs.declared.declarations.Decl.{Decl}
use Rattle.rx_typed.specs.declared.declarations.Decl.TheVariants as decl
use Rattle.rx_typed.specs.Types.{Declarations}
use Rattle.rx_typed.specs.PlainTypes.{plain-Decl, declarations}
use Rattle.rx_typed_declarations.specs.Held.{named_in, named_among, held_by, held_by_each}
use Rattle.rx_typed.specs.Regions.{RegionTyp, region_integer, region_boolean, region_tuple, region_reference}
use Rattle.rx_typed.specs.Regions.{region_named, RegionTyps, no_region, region_and, regions_of, regions_at}
use Rattle.rx_typed.specs.Regions.{lifetimes_in, lifetimes_among, erased, all_erased, region_fields, region_variants}
use Rattle.rx_typed.specs.Regions.{held_regions, regions}
use Rattle.rx_typed_declarations.specs.WellFormed.{WellFormed, all_below, fits, all_fit}
use Rattle.rx_typed_declarations.specs.Variance.{Fixed, in_tuple, behind, under_mut, as_argument, FixedAmong, in_first, in_rest}
use Rattle.rx_typed_declarations.specs.Variance.{Invariant, in_held, polarity, TellsOf, is_inv, fix_one, fix_arguments, fix_in}
use Rattle.rx_typed_declarations.specs.Variance.{fix_among, polarities_of, fill, polarity_count, AreVariances}
use Rattle.rx_typed_declarations.proofs.RegionLemmas.{item_erased}
use Rattle.rx_typed.proofs.Items.{declared_at}
use Rattle.rx_typed_declarations.proofs.ItemLemmas.{held_of, targets_held}
use Rattle.rx_typed_declarations.proofs.Filling.{fill_by, length_fill_by, all_filled}

-- ---- marks

abbrev Marked : List Polarity → ℕ → Type 0
Marked ps k = polarity ps k ≡ Inv

co_inv : Co ≡ Inv → ⊥
co_inv e = cc

set_keeps : (ps : List Polarity) (l k : ℕ) → Marked ps k → Marked (slice_set ps l Inv) k
set_keeps [] l k h = h
set_keeps (p ∷ ps) zero zero h = refl
set_keeps (p ∷ ps) zero (suc k) h = h
set_keeps (p ∷ ps) (suc l) zero h = h
set_keeps (p ∷ ps) (suc l) (suc k) h = set_keeps ps l k h

set_marks : (ps : List Polarity) (l : ℕ) → l < length ps → Marked (slice_set ps l Inv) l
set_marks [] l h = absurd (omega arith)
set_marks (p ∷ ps) zero h = refl
set_marks (p ∷ ps) (suc l) h = set_marks ps l (omega arith)

set_from : (ps : List Polarity) (l k : ℕ) → Marked (slice_set ps l Inv) k → Marked ps k ⊎ (l ≡ k)
set_from [] l k h = inl h
set_from (p ∷ ps) zero zero h = inr refl
set_from (p ∷ ps) zero (suc k) h = inl h
set_from (p ∷ ps) (suc l) zero h = inl h
set_from (p ∷ ps) (suc l) (suc k) h = elim (set_from ps l k h) [ inl o ↦ inl o | inr same ↦ inr (ap suc same) ]

one_keeps : (u : Bool) (ps : List Polarity) (l k : ℕ) → Marked ps k → Marked (fix_one u ps l) k
one_keeps true ps l k h = set_keeps ps l k h
one_keeps false ps l k h = h

one_marks : (u : Bool) (ps : List Polarity) (l k : ℕ) → u ≡ true → l ≡ k → k < length ps → Marked (fix_one u ps l) k
one_marks true ps l k is same less = subst (Marked (slice_set ps l Inv)) same (set_marks ps l (omega arith))
one_marks false ps l k is same less = absurd (true≢false (sym is))

one_from : (u : Bool) (ps : List Polarity) (l k : ℕ) → Marked (fix_one u ps l) k → Marked ps k ⊎ ((u ≡ true) × (l ≡ k))
one_from true ps l k h = elim (set_from ps l k h) [ inl o ↦ inl o | inr same ↦ inr (refl, same) ]
one_from false ps l k h = inl h

one_length : (u : Bool) (ps : List Polarity) (l : ℕ) → length (fix_one u ps l) ≡ length ps
one_length true ps l = length-set ps l Inv
one_length false ps l = refl

abbrev no_marks : List Polarity
no_marks = []

none_marked : (n k : ℕ) → Marked (replicate n Co) k → ⊥
none_marked zero k h = co_inv h
none_marked (suc n) zero h = co_inv h
none_marked (suc n) (suc k) h = none_marked n k h

or_right : (u : Bool) → (u || true) ≡ true
or_right true = refl
or_right false = refl

or_either : (u m : Bool) → (u || m) ≡ true → (u ≡ true) ⊎ (m ≡ true)
or_either true m h = inl refl
or_either false m h = inr h

inv_is : (p : Polarity) → is_inv p ≡ true → p ≡ Inv
inv_is Co h = absurd (true≢false (sym h))
inv_is Inv h = refl

-- ---- the arguments of a named type

record Argument (vs : List Polarity) (j : ℕ) (ls : List ℕ) (k : ℕ) : Type 0 where
  place : ℕ
  stands : slice_get ls place ≡ Some k
  inv : polarity vs (j + place) ≡ Inv

module _ (u : Bool) (vs : List Polarity) where
  arguments_keep : (j : ℕ) (ps : List Polarity) (ls : List ℕ) (k : ℕ) → Marked ps k
      → Marked (fix_arguments u vs j ps ls) k
  arguments_keep j ps [] k h = h
  arguments_keep j ps (l ∷ ls) k h =
      let v = u || is_inv (polarity vs j) in arguments_keep (j + 1) (fix_one v ps l) ls k (one_keeps v ps l k h)

  arguments_length : (j : ℕ) (ps : List Polarity) (ls : List ℕ) → length (fix_arguments u vs j ps ls) ≡ length ps
  arguments_length j ps [] = refl
  arguments_length j ps (l ∷ ls) =
      let v = u || is_inv (polarity vs j) in arguments_length (j + 1) (fix_one v ps l) ls ∙ one_length v ps l

  arguments_under : (j : ℕ) (ps : List Polarity) (ls : List ℕ) (k : ℕ) → k < length ps → u ≡ true → IsIn ls k
      → Marked (fix_arguments u vs j ps ls) k
  arguments_under j ps [] k less is h = absurd h
  arguments_under j ps (l ∷ ls) k less is (inl same) =
      let v = u || is_inv (polarity vs j) in
      let fixed_now : v ≡ true = or_left u (is_inv (polarity vs j)) is in
      arguments_keep (j + 1) (fix_one v ps l) ls k (one_marks v ps l k fixed_now same less)
  arguments_under j ps (l ∷ ls) k less is (inr h) =
      let v = u || is_inv (polarity vs j) in
      arguments_under (j + 1) (fix_one v ps l) ls k (rw (one_length v ps l) less) is h

  arguments_marked : (j : ℕ) (ps : List Polarity) (ls : List ℕ) (k n : ℕ) → k < length ps → slice_get ls n ≡ Some k
      → polarity vs (j + n) ≡ Inv → Marked (fix_arguments u vs j ps ls) k
  arguments_marked j ps [] k n less stands inv = absurd (cc)
  arguments_marked j ps (l ∷ ls) k zero less stands inv =
      let v = u || is_inv (polarity vs j) in
      let same : l ≡ k = cc in
      let here : polarity vs j ≡ Inv = ap (polarity vs) (omega arith) ∙ inv in
      let is : v ≡ true = rw here (or_right u) in
      arguments_keep (j + 1) (fix_one v ps l) ls k (one_marks v ps l k is same less)
  arguments_marked j ps (l ∷ ls) k (suc n) less stands inv =
      let v = u || is_inv (polarity vs j) in
      arguments_marked (j + 1) (fix_one v ps l) ls k n (rw (one_length v ps l) less) stands
      (ap (polarity vs) (omega arith) ∙ inv)

  -- why an argument is marked
  data FromArguments (j : ℕ) (ps : List Polarity) (ls : List ℕ) (k : ℕ) : Type 0 where
    was_marked : Marked ps k → FromArguments j ps ls k
    all_marked : u ≡ true → IsIn ls k → FromArguments j ps ls k
    argued : Argument vs j ls k → FromArguments j ps ls k

  arguments_from : (j : ℕ) (ps : List Polarity) (ls : List ℕ) (k : ℕ) → Marked (fix_arguments u vs j ps ls) k
      → FromArguments j ps ls k
  arguments_from j ps [] k h = was_marked h
  arguments_from j ps (l ∷ ls) k h =
      by (arguments_from (j + 1) (fix_one (u || is_inv (polarity vs j)) ps l) ls k h)
    where
      why : l ≡ k → (u ≡ true) ⊎ (is_inv (polarity vs j) ≡ true) → FromArguments j ps (l ∷ ls) k
      why same (inl is) = all_marked is (inl same)
      why same (inr is) = argued (record {
        place = zero;
        stands = ap Some same;
        inv = ap (polarity vs) (omega arith) ∙ inv_is (polarity vs j) is;
      })

      first : Marked ps k ⊎ (((u || is_inv (polarity vs j)) ≡ true) × (l ≡ k)) → FromArguments j ps (l ∷ ls) k
      first (inl o) = was_marked o
      first (inr v) = why v.1 (or_either u (is_inv (polarity vs j)) v.0)

      by : FromArguments (j + 1) (fix_one (u || is_inv (polarity vs j)) ps l) ls k → FromArguments j ps (l ∷ ls) k
      by (was_marked m) = first (one_from (u || is_inv (polarity vs j)) ps l k m)
      by (all_marked is m) = all_marked is (inr m)
      by (argued a) = argued (record {
        place = suc a.place;
        stands = a.stands;
        inv = ap (polarity vs) (omega arith) ∙ a.inv;
      })

-- ---- types

pub get_is_in : (ls : List ℕ) (n k : ℕ) → slice_get ls n ≡ Some k → IsIn ls k
get_is_in [] n k h = absurd (cc)
get_is_in (l ∷ ls) zero k h = inl (cc)
get_is_in (l ∷ ls) (suc n) k h = inr (get_is_in ls n k h)

module _ (H : List (List RegionTyp)) (V : List (List Polarity)) where
  abbrev Tells : List ℕ → Type 0
  Tells ns = (i : ℕ) → IsIn ns i → (k : ℕ) → (polarity (get_or V i []) k ≡ Inv) ↔ Invariant H i k

  front : (ms ns : List ℕ) → Tells (ms ++ ns) → Tells ms
  front ms ns tells i h = tells i (is_in_front ms ns i h)

  rest : (ms ns : List ℕ) → Tells (ms ++ ns) → Tells ns
  rest ms ns tells i h = tells i (is_in_behind ms ns i h)

  mutual
    in_keeps : (u : Bool) (ps : List Polarity) (t : RegionTyp) (k : ℕ) → Marked ps k → Marked (fix_in V u ps t) k
    in_keeps u ps (region_integer n) k h = h
    in_keeps u ps region_boolean k h = h
    in_keeps u ps (region_tuple ts) k h = among_keeps u ps ts k h
    in_keeps u ps (region_reference m l t) k h = in_keeps (u || m) (fix_one u ps l) t k (one_keeps u ps l k h)
    in_keeps u ps (region_named i ls) k h = arguments_keep u (get_or V i []) 0 ps ls k h

    among_keeps : (u : Bool) (ps : List Polarity) (ts : RegionTyps) (k : ℕ) → Marked ps k
        → Marked (fix_among V u ps ts) k
    among_keeps u ps no_region k h = h
    among_keeps u ps (region_and t ts) k h = among_keeps u (fix_in V u ps t) ts k (in_keeps u ps t k h)

  mutual
    in_length : (u : Bool) (ps : List Polarity) (t : RegionTyp) → length (fix_in V u ps t) ≡ length ps
    in_length u ps (region_integer n) = refl
    in_length u ps region_boolean = refl
    in_length u ps (region_tuple ts) = among_length u ps ts
    in_length u ps (region_reference m l t) = in_length (u || m) (fix_one u ps l) t ∙ one_length u ps l
    in_length u ps (region_named i ls) = arguments_length u (get_or V i []) 0 ps ls

    among_length : (u : Bool) (ps : List Polarity) (ts : RegionTyps) → length (fix_among V u ps ts) ≡ length ps
    among_length u ps no_region = refl
    among_length u ps (region_and t ts) = among_length u (fix_in V u ps t) ts ∙ in_length u ps t

  -- what stands under a `&mut` is marked
  mutual
    in_under : (u : Bool) (ps : List Polarity) (t : RegionTyp) (k : ℕ) → k < length ps → u ≡ true
        → IsIn (lifetimes_in t) k → Marked (fix_in V u ps t) k
    in_under u ps (region_integer n) k less is h = absurd h
    in_under u ps region_boolean k less is h = absurd h
    in_under u ps (region_tuple ts) k less is h = among_under u ps ts k less is h
    in_under u ps (region_reference m l t) k less is (inl same) =
        in_keeps (u || m) (fix_one u ps l) t k (one_marks u ps l k is same less)
    in_under u ps (region_reference m l t) k less is (inr h) =
        in_under (u || m) (fix_one u ps l) t k (rw (one_length u ps l) less) (or_left u m is) h
    in_under u ps (region_named i ls) k less is h = arguments_under u (get_or V i []) 0 ps ls k less is h

    among_under : (u : Bool) (ps : List Polarity) (ts : RegionTyps) (k : ℕ) → k < length ps → u ≡ true
        → IsIn (lifetimes_among ts) k → Marked (fix_among V u ps ts) k
    among_under u ps no_region k less is h = absurd h
    among_under u ps (region_and t ts) k less is h = by (is_in_either (lifetimes_in t) (lifetimes_among ts) k h)
        (λ (m : IsIn (lifetimes_in t) k). among_keeps u (fix_in V u ps t) ts k (in_under u ps t k less is m))
        (λ (m : IsIn (lifetimes_among ts) k). among_under u (fix_in V u ps t) ts k (rw (in_length u ps t) less) is m)
      where
        by : IsIn (lifetimes_in t) k ⊎ IsIn (lifetimes_among ts) k
            → (IsIn (lifetimes_in t) k → Marked (fix_among V u ps (region_and t ts)) k)
            → (IsIn (lifetimes_among ts) k → Marked (fix_among V u ps (region_and t ts)) k)
            → Marked (fix_among V u ps (region_and t ts)) k
        by (inl m) first later = first m
        by (inr m) first later = later m

  -- and so is what is invariant
  mutual
    in_fixed : (u : Bool) (ps : List Polarity) (t : RegionTyp) (k : ℕ) → k < length ps → Tells (named_in (erased t))
        → Fixed H t k → Marked (fix_in V u ps t) k
    in_fixed u ps t k less tells (in_tuple {ts = ts} f) = among_fixed u ps ts k less tells f
    in_fixed u ps t k less tells (behind {m = m} {l = l} {t = r} f) =
        in_fixed (u || m) (fix_one u ps l) r k (rw (one_length u ps l) less) tells f
    in_fixed u ps t k less tells (under_mut {l = l} {t = r} h) =
        in_under (u || true) (fix_one u ps l) r k (rw (one_length u ps l) less) (or_right u) h
    in_fixed u ps t k less tells (as_argument {i = i} {ls = ls} {j = j} stands inv) =
        let here : polarity (get_or V i []) (0 + j) ≡ Inv =
        ap (polarity (get_or V i [])) (omega arith) ∙ (tells i (inl refl) j).1 inv in
        arguments_marked u (get_or V i []) 0 ps ls k j less stands here

    among_fixed : (u : Bool) (ps : List Polarity) (ts : RegionTyps) (k : ℕ) → k < length ps
        → Tells (named_among (all_erased ts)) → FixedAmong H ts k → Marked (fix_among V u ps ts) k
    among_fixed u ps ts k less tells (in_first {t = t} {ts = rs} f) =
        among_keeps u (fix_in V u ps t) rs k
        (in_fixed u ps t k less (front (named_in (erased t)) (named_among (all_erased rs)) tells) f)
    among_fixed u ps ts k less tells (in_rest {t = t} {ts = rs} f) =
        among_fixed u (fix_in V u ps t) rs k (rw (in_length u ps t) less)
        (rest (named_in (erased t)) (named_among (all_erased rs)) tells) f

  -- and nothing else
  data From (u : Bool) (ps : List Polarity) (t : RegionTyp) (k : ℕ) : Type 0 where
    was : Marked ps k → From u ps t k
    fixed : Fixed H t k → From u ps t k
    under : u ≡ true → IsIn (lifetimes_in t) k → From u ps t k

  data FromAmong (u : Bool) (ps : List Polarity) (ts : RegionTyps) (k : ℕ) : Type 0 where
    was_before : Marked ps k → FromAmong u ps ts k
    fixed_there : FixedAmong H ts k → FromAmong u ps ts k
    under_one : u ≡ true → IsIn (lifetimes_among ts) k → FromAmong u ps ts k

  from_one : (u : Bool) (ps : List Polarity) (m : Bool) (l : ℕ) (t : RegionTyp) (k : ℕ) → Marked (fix_one u ps l) k
      → From u ps (region_reference m l t) k
  from_one u ps m l t k h = by (one_from u ps l k h)
    where
      by : Marked ps k ⊎ ((u ≡ true) × (l ≡ k)) → From u ps (region_reference m l t) k
      by (inl o) = was o
      by (inr v) = under v.0 (inl v.1)

  through : (u : Bool) (ps : List Polarity) (m : Bool) (l : ℕ) (t : RegionTyp) (k : ℕ)
      → From (u || m) (fix_one u ps l) t k → From u ps (region_reference m l t) k
  through u ps m l t k (was h) = from_one u ps m l t k h
  through u ps m l t k (fixed f) = fixed (behind f)
  through u ps true l t k (under is h) = fixed (under_mut h)
  through u ps false l t k (under is h) = by (or_either u false is)
    where
      by : (u ≡ true) ⊎ (false ≡ true) → From u ps (region_reference false l t) k
      by (inl is) = under is (inr h)
      by (inr e) = absurd (true≢false (sym e))

  from_arguments : (u : Bool) (ps : List Polarity) (i : ℕ) (ls : List ℕ) (k : ℕ) → Tells (i ∷ [])
      → FromArguments u (get_or V i []) 0 ps ls k → From u ps (region_named i ls) k
  from_arguments u ps i ls k tells (was_marked h) = was h
  from_arguments u ps i ls k tells (all_marked is h) = under is h
  from_arguments u ps i ls k tells (argued a) =
      let here : polarity (get_or V i []) a.place ≡ Inv = ap (polarity (get_or V i [])) (omega arith) ∙ a.inv in
      fixed (as_argument a.stands ((tells i (inl refl) a.place).0 here))

  from_two : (u : Bool) (ps ps' : List Polarity) (t : RegionTyp) (ts : RegionTyps) (k : ℕ)
      → (Marked ps' k → From u ps t k) → FromAmong u ps' ts k → FromAmong u ps (region_and t ts) k
  from_two u ps ps' t ts k first (was_before h) = by (first h)
    where
      by : From u ps t k → FromAmong u ps (region_and t ts) k
      by (was h) = was_before h
      by (fixed f) = fixed_there (in_first f)
      by (under is h) = under_one is (is_in_front (lifetimes_in t) (lifetimes_among ts) k h)
  from_two u ps ps' t ts k first (fixed_there f) = fixed_there (in_rest f)
  from_two u ps ps' t ts k first (under_one is h) =
      under_one is (is_in_behind (lifetimes_in t) (lifetimes_among ts) k h)

  tupled : (u : Bool) (ps : List Polarity) (ts : RegionTyps) (k : ℕ) → FromAmong u ps ts k
      → From u ps (region_tuple ts) k
  tupled u ps ts k (was_before h) = was h
  tupled u ps ts k (fixed_there f) = fixed (in_tuple f)
  tupled u ps ts k (under_one is h) = under is h

  mutual
    in_from : (u : Bool) (ps : List Polarity) (t : RegionTyp) (k : ℕ) → Tells (named_in (erased t))
        → Marked (fix_in V u ps t) k → From u ps t k
    in_from u ps (region_integer n) k tells h = was h
    in_from u ps region_boolean k tells h = was h
    in_from u ps (region_tuple ts) k tells h = tupled u ps ts k (among_from u ps ts k tells h)
    in_from u ps (region_reference m l t) k tells h =
        through u ps m l t k (in_from (u || m) (fix_one u ps l) t k tells h)
    in_from u ps (region_named i ls) k tells h =
        from_arguments u ps i ls k tells (arguments_from u (get_or V i []) 0 ps ls k h)

    among_from : (u : Bool) (ps : List Polarity) (ts : RegionTyps) (k : ℕ) → Tells (named_among (all_erased ts))
        → Marked (fix_among V u ps ts) k → FromAmong u ps ts k
    among_from u ps no_region k tells h = was_before h
    among_from u ps (region_and t ts) k tells h =
        from_two u ps (fix_in V u ps t) t ts k
        (λ m. in_from u ps t k (front (named_in (erased t)) (named_among (all_erased ts)) tells) m)
        (among_from u (fix_in V u ps t) ts k (rest (named_in (erased t)) (named_among (all_erased ts)) tells) h)

-- ---- what is invariant occurs, so a list of an item's lifetimes has a place for it

and_left : (a b : Bool) → (a && b) ≡ true → a ≡ true
and_left true b h = refl
and_left false b h = h

and_right : (a b : Bool) → (a && b) ≡ true → b ≡ true
and_right true b h = h
and_right false b h = absurd (true≢false (sym h))

below : (n : ℕ) (ls : List ℕ) (k : ℕ) → all_below n ls ≡ true → IsIn ls k → k < n
below n [] k fit h = absurd h
below n (l ∷ ls) k fit (inl same) = let less = ltb-true l n (and_left (nat_lt l n) (all_below n ls) fit) in omega arith
below n (l ∷ ls) k fit (inr h) = below n ls k (and_right (nat_lt l n) (all_below n ls) fit) h

module _ (D : Declarations) (n : ℕ) where
  mutual
    in_below : (t : RegionTyp) (k : ℕ) → fits D n t ≡ true → IsIn (lifetimes_in t) k → k < n
    in_below (region_integer i) k fit h = absurd h
    in_below region_boolean k fit h = absurd h
    in_below (region_tuple ts) k fit h = among_below ts k fit h
    in_below (region_reference m l t) k fit (inl same) =
        let less = ltb-true l n (and_left (nat_lt l n) (fits D n t) fit) in omega arith
    in_below (region_reference m l t) k fit (inr h) = in_below t k (and_right (nat_lt l n) (fits D n t) fit) h
    in_below (region_named i ls) k fit h = below n ls k (and_right _ (all_below n ls) fit) h

    among_below : (ts : RegionTyps) (k : ℕ) → all_fit D n ts ≡ true → IsIn (lifetimes_among ts) k → k < n
    among_below no_region k fit h = absurd h
    among_below (region_and t ts) k fit h = by (is_in_either (lifetimes_in t) (lifetimes_among ts) k h)
        (λ (m : IsIn (lifetimes_in t) k). in_below t k (and_left (fits D n t) (all_fit D n ts) fit) m)
        (λ (m : IsIn (lifetimes_among ts) k). among_below ts k (and_right (fits D n t) (all_fit D n ts) fit) m)
      where
        by : IsIn (lifetimes_in t) k ⊎ IsIn (lifetimes_among ts) k → (IsIn (lifetimes_in t) k → k < n)
            → (IsIn (lifetimes_among ts) k → k < n) → k < n
        by (inl m) first later = first m
        by (inr m) first later = later m

module _ (H : List (List RegionTyp)) where
  mutual
    fixed_occurs : (t : RegionTyp) (k : ℕ) → Fixed H t k → IsIn (lifetimes_in t) k
    fixed_occurs t k (in_tuple {ts = ts} f) = among_occurs ts k f
    fixed_occurs t k (behind {t = r} f) = inr (fixed_occurs r k f)
    fixed_occurs t k (under_mut h) = inr h
    fixed_occurs t k (as_argument {ls = ls} {j = j} stands inv) = get_is_in ls j k stands

    among_occurs : (ts : RegionTyps) (k : ℕ) → FixedAmong H ts k → IsIn (lifetimes_among ts) k
    among_occurs ts k (in_first {t = t} {ts = rs} f) =
        is_in_front (lifetimes_in t) (lifetimes_among rs) k (fixed_occurs t k f)
    among_occurs ts k (in_rest {t = t} {ts = rs} f) =
        is_in_behind (lifetimes_in t) (lifetimes_among rs) k (among_occurs rs k f)

  none_fixed : (k : ℕ) → FixedAmong H no_region k → ⊥
  none_fixed k f = elim f [ ]

-- ---- items

module _ (items : List Decl) (wf : WellFormed items) where
  abbrev H : List (List RegionTyp)
  H = regions items

  abbrev edges : List (List ℕ)
  edges = held_by_each (declarations items)

  same_length : length items ≡ length edges
  same_length = sym (length-map (declarations items) held_by ∙ length-map items plain-Decl)

  held_fixed : (i : ℕ) (ts : RegionTyps) (k : ℕ) → regions_at H i ≡ ts → Invariant H i k → FixedAmong H ts k
  held_fixed i ts k is (in_held f) = let At : RegionTyps → Type 0 = λ rs. FixedAmong H rs k in subst At is f

  held_invariant : (i : ℕ) (ts : RegionTyps) (k : ℕ) → regions_at H i ≡ ts → FixedAmong H ts k → Invariant H i k
  held_invariant i ts k is f = let At : RegionTyps → Type 0 = λ rs. FixedAmong H rs k in in_held (subst At (sym is) f)

  -- what holds nothing has no invariant lifetime
  pub tells_none : (i : ℕ) → regions_at H i ≡ no_region → TellsOf items i []
  tells_none i is k = (λ e. absurd (co_inv e), λ v. absurd (none_fixed H k (held_fixed i no_region k is v)))

  tells_types : (V : List (List Polarity)) (n l : ℕ) (ts : RegionTyps) → regions_at H n ≡ ts
      → all_fit (declarations items) l ts ≡ true → Tells H V (named_among (all_erased ts))
      → TellsOf items n (fix_among V false (replicate l Co) ts)
  tells_types V n l ts is fit tells k =
      (λ m. why (among_from H V false (replicate l Co) ts k tells m), λ v. marks (held_fixed n ts k is v))
    where
      why : FromAmong H V false (replicate l Co) ts k → Invariant H n k
      why (was_before m) = absurd (none_marked l k m)
      why (fixed_there f) = held_invariant n ts k is f
      why (under_one e h) = absurd (true≢false (sym e))

      marks : FixedAmong H ts k → polarity (fix_among V false (replicate l Co) ts) k ≡ Inv
      marks f =
          let less : k < l = among_below (declarations items) l ts k fit (among_occurs H ts k f) in
          among_fixed H V false (replicate l Co) ts k (rw (length-replicate l Co) less) tells f

  pub regions_past : (i : ℕ) → slice_get items i ≡ None → regions_at H i ≡ no_region
  regions_past i is =
      let at : slice_get H i ≡ None = slice_get-map held_regions items i ∙ ap (option_map held_regions) is in
      let none : get_or H i [] ≡ [] = sym (unwrap_or-slice_get H i []) ∙ ap (λ o. unwrap_or o []) at in
      ap regions_of none

  pub regions_are : (i : ℕ) (d : Decl) → slice_get items i ≡ Some d → regions_at H i ≡ regions_of (held_regions d)
  regions_are i d is =
      let at : slice_get H i ≡ Some (held_regions d) =
      slice_get-map held_regions items i ∙ ap (option_map held_regions) is in
      ap regions_of (get_or_from_slice_get H i (held_regions d) [] at)

  targets_are : (i : ℕ) (d : Decl) → slice_get items i ≡ Some d
      → targets edges i ≡ named_among (all_erased (regions_of (held_regions d)))
  targets_are i d is =
      targets_held (declarations items) i ∙ ap held_of (declared_at items i)
      ∙ ap (λ o. held_of (option_map plain-Decl o)) is ∙ ap named_among (sym (item_erased d))

  past : (i : ℕ) → length edges ≤ i → TellsOf items i []
  past i le = tells_none i (regions_past i (slice_get_past items i (rw same_length le)))

  step_at : (V : List (List Polarity)) (n : ℕ) (o : Option Decl) → slice_get items n ≡ o → Tells H V (targets edges n)
      → TellsOf items n (polarities_of V o)
  step_at V n None is tells = tells_none n (regions_past n is)
  step_at V n (Some decl.Rt) is tells = tells_none n (regions_are n decl.Rt is)
  step_at V n (Some (decl.Func l ps t bs)) is tells = tells_none n (regions_are n (decl.Func l ps t bs) is)
  step_at V n (Some (decl.Struct c l vs fs)) is tells =
      let d = decl.Struct c l vs fs in
      tells_types V n l (regions_of (region_fields fs)) (regions_are n d is) (wf.named n d is)
      (subst (Tells H V) (targets_are n d is) tells)
  step_at V n (Some (decl.Enum c l vs ds)) is tells =
      let d = decl.Enum c l vs ds in
      tells_types V n l (regions_of (region_variants ds)) (regions_are n d is) (wf.named n d is)
      (subst (Tells H V) (targets_are n d is) tells)

  abbrev value : List (List Polarity) → ℕ → List Polarity
  value V n = polarities_of V (slice_get items n)

  fill_is : (V : List (List Polarity)) (order : List ℕ) → fill items V order ≡ fill_by value V order
  fill_is V [] = refl
  fill_is V (n ∷ ns) = fill_is (slice_set V n (value V n)) ns

  all_tell : (V : List (List Polarity)) (order : List ℕ) → length V ≡ length items → InOrder edges order → (i : ℕ)
      → TellsOf items i (get_or (fill items V order) i [])
  all_tell V order whole is i =
      let At : List (List Polarity) → Type 0 = λ W. TellsOf items i (get_or W i []) in
      subst At (sym (fill_is V order))
      (all_filled (List Polarity) [] edges (TellsOf items) value past
      (λ W n tells. step_at W n (slice_get items n) refl tells)
      order V (whole ∙ same_length) is i)

  -- how many there are
  none_as_many : (i : ℕ) → length edges ≤ i → length no_marks ≡ polarity_count (slice_get items i)
  none_as_many i le = ap polarity_count (sym (slice_get_past items i (rw same_length le)))

  value_as_many : (V : List (List Polarity)) (o : Option Decl) → length (polarities_of V o) ≡ polarity_count o
  value_as_many V None = refl
  value_as_many V (Some decl.Rt) = refl
  value_as_many V (Some (decl.Func l ps t bs)) = refl
  value_as_many V (Some (decl.Struct c l vs fs)) =
      among_length H V false (replicate l Co) (regions_of (region_fields fs)) ∙ length-replicate l Co
  value_as_many V (Some (decl.Enum c l vs ds)) =
      among_length H V false (replicate l Co) (regions_of (region_variants ds)) ∙ length-replicate l Co

  all_as_many : (V : List (List Polarity)) (order : List ℕ) → length V ≡ length items → InOrder edges order → (i : ℕ)
      → length (get_or (fill items V order) i []) ≡ polarity_count (slice_get items i)
  all_as_many V order whole is i =
      let At : List (List Polarity) → Type 0 = λ W. length (get_or W i []) ≡ polarity_count (slice_get items i) in
      subst At (sym (fill_is V order))
      (all_filled (List Polarity) [] edges (λ n ps. length ps ≡ polarity_count (slice_get items n)) value none_as_many
      (λ W n tells. value_as_many W (slice_get items n)) order V (whole ∙ same_length) is i)

  length_fill : (V : List (List Polarity)) (order : List ℕ) → length (fill items V order) ≡ length V
  length_fill V order = ap length (fill_is V order) ∙ length_fill_by value V order

  are_variances : (V : List (List Polarity)) (order : List ℕ) → length V ≡ length items → InOrder edges order
      → AreVariances items (fill items V order)
  are_variances V order whole is = record { whole = length_fill V order ∙ whole; each = all_tell V order whole is; as_many = all_as_many V order whole is }

  -- the same, where the code has equations
  pub variances_at : (graph : List (List ℕ)) (order order' : List ℕ) (V W : List (List Polarity)) → graph ≡ edges
      → InOrder graph order → order' ≡ order → length V ≡ length items → W ≡ fill items V order' → AreVariances items W
  variances_at graph order order' V W graph_is is same whole filled =
      let Are : List (List Polarity) → Type 0 = λ w. AreVariances items w in
      let Order : List (List ℕ) → Type 0 = λ g. InOrder g order in
      let all : W ≡ fill items V order = cc in
      subst Are (sym all) (are_variances V order whole (subst Order graph_is is))
