-- The lifetimes of the pairs that a function's actions impose are among those that are counted, where any is.
use Rattle.std.proofs.Common.{◌≡◌, inl, inr, ℕ, zero, suc, ◌+◌, ◌<◌, ◌≤◌, Bool, true, false, ◌&&◌, nat_lt, nat_eq, if◌then◌else◌, List, [], ◌∷◌, ◌++◌, map, length, Option, Some, None, slice_get, refl, ap, subst, arith}
use Rattle.std.proofs.lemmas.Bool.{ltb-true}
use Rattle.rx_core.specs.declared.types.Bound.{Bound}
use Rattle.rx_core.specs.declared.types.Step.{Step}
use Rattle.rx_core.specs.declared.types.Step.TheVariants as step
use Rattle.rx_graph.proofs.Spreading.{both_of}
use Rattle.rx_graph_cycles.specs.Reaches.{IsIn}
use Rattle.rx_typed.specs.declared.declarations.Decl.{Decl}
use Rattle.rx_typed.specs.declared.declarations.Decl.TheVariants as decl
use Rattle.rx_typed.specs.declared.declarations.Polarity.{Polarity}
use Rattle.rx_typed.specs.declared.declarations.Polarity.TheVariants.{Co, Inv}
use Rattle.rx_typed.specs.Types.{Declarations}
use Rattle.rx_typed.specs.PlainTypes.{declarations}
use Rattle.rx_typed.specs.Regions.{RegionTyp, region_integer, region_boolean, region_tuple, region_reference, region_named, RegionTyps, no_region, region_and, regions_of, region-Ty, lifetimes_in, lifetimes_among}
use Rattle.rx_typed.specs.Renaming.{Signature, of_list, renamed, all_renamed, instance, bound_renamed, from, signature_from}
use Rattle.rx_typed.specs.Places.{part_at, fields_of, variant_of as parts_of_variant, behind, place_type}
use Rattle.rx_typed.specs.Tree.{Root, temporary, Temporary, Making, constant, negation, inversion, operation, lazy, tuple, struct, variant_of}
use Rattle.rx_typed.specs.Tree as tree
use Rattle.rx_typed_declarations.specs.WellFormed.{fits, all_fit, is_adt, all_below, bounds_fit, signature_fits, WellSigned}
use Rattle.rx_typed.specs.Types.{lifetimes_declared}
use Rattle.rx_lower_walks.specs.Actions.{Act, Declare, Dead, Read, Write, Borrow, Test, Call, Build, Input, Print, Give, Action}
use Rattle.rx_lower_walks.specs.Text.{actions_of}
use Rattle.rx_region_outlives.specs.Related.{outlives, in_place, within, first_polarity, other_polarities, arguments, related, all_related}
use Rattle.rx_region_outlives.specs.Implied.{HasPair, pair_of, with_arguments, all_outlive, implied_in, implied_among}
use Rattle.rx_lower_lifetimes.specs.Values.{result_type, lifetimes_of as lifetimes_had}
use Rattle.rx_lower_lifetimes.specs.Numbered.{Own, none, region, signed, own_of, all_owned, all_open, opened}
use Rattle.rx_lower_lifetimes.specs.Positions.{own_lifetimes, all_own}
use Rattle.rx_lower_lifetimes.specs.Lowered.{lifetimes, temporaries}
use Rattle.rx_lower_lifetimes.specs.Lowered as lowered
use Rattle.rx_lower.specs.Functions.{function, trimmed, written as annotated}
use Rattle.rx_typed.specs.PlainTree.{plain-TypedTree}
use Rattle.rx_region.specs.Constraints.{Context, root_type, type_at, type_in, held, flows, parts_flow, parameters_flow, lifetimes_of, tuple_parts, instances, made_parts, goes_shared, through, reborrows, signature_asks, variances, asks, all_ask, is_among, formed, imposed}
use Rattle.rx_typeck_typed.specs.declared.typed.TypedFn.{TypedFn}
use Rattle.rx_facts.specs.Functions.{sites_of}
use Rattle.rx_check.specs.Contexts.{context_of}
use Rattle.rx_cert_rules.specs.Written.{Numbered}
use Rattle.rx_cert_rules.proofs.Numbering.{Below, types_below, are_numbered}

-- ---- lists

abbrev pub AllBelow : ℕ → List ℕ → Type 0
AllBelow b [] = Unit {0}
AllBelow b (l ∷ ls) = (l < b) × AllBelow b ls

abbrev pub PairsBelow : ℕ → List Bound → Type 0
PairsBelow b [] = Unit {0}
PairsBelow b (p ∷ ps) = (p.long < b) × (p.short < b) × PairsBelow b ps

all_in : (b : ℕ) (ls : List ℕ) → ((n : ℕ) → IsIn ls n → n < b) → AllBelow b ls
all_in b [] h = tt
all_in b (l ∷ ls) h = (h l (inl refl), all_in b ls (λ n i. h n (inr i)))

both_below : (b : ℕ) (xs ys : List ℕ) → AllBelow b xs → AllBelow b ys → AllBelow b (xs ++ ys)
both_below b [] ys h g = g
both_below b (x ∷ xs) ys h g = (h.0, both_below b xs ys h.1 g)

front_below : (b : ℕ) (xs ys : List ℕ) → AllBelow b (xs ++ ys) → AllBelow b xs
front_below b [] ys h = tt
front_below b (x ∷ xs) ys h = (h.0, front_below b xs ys h.1)

back_below : (b : ℕ) (xs ys : List ℕ) → AllBelow b (xs ++ ys) → AllBelow b ys
back_below b [] ys h = h
back_below b (x ∷ xs) ys h = back_below b xs ys h.1

pairs_both : (b : ℕ) (ps qs : List Bound) → PairsBelow b ps → PairsBelow b qs → PairsBelow b (ps ++ qs)
pairs_both b [] qs h g = g
pairs_both b (p ∷ ps) qs h g = (h.0, h.1, pairs_both b ps qs h.2 g)

pub pair_below : (b : ℕ) (ps : List Bound) (l k : ℕ) → PairsBelow b ps → HasPair ps l k → (l < b) × (k < b)
pair_below b [] l k h i = absurd i
pair_below b (p ∷ ps) l k h (inl e) = (subst (λ n. n < b) (ap (λ (x : Bound). x.long) e) h.0, subst (λ n. n < b) (ap (λ (x : Bound). x.short) e) h.1)
pair_below b (p ∷ ps) l k h (inr i) = pair_below b ps l k h.2 i

-- a lifetime of a list, or the first of all
pub listed_below : (b : ℕ) → 0 < b → (ls : List ℕ) → AllBelow b ls → (l : ℕ) → of_list ls l < b
listed_below b some [] h l = some
listed_below b some (x ∷ ls) h zero = h.0
listed_below b some (x ∷ ls) h (suc l) = listed_below b some ls h.1 l

-- ---- types

abbrev TypeBelow : ℕ → RegionTyp → Type 0
TypeBelow b t = AllBelow b (lifetimes_in t)

abbrev TypesBelow : ℕ → RegionTyps → Type 0
TypesBelow b ts = AllBelow b (lifetimes_among ts)

module _ (b : ℕ) (f : ℕ → ℕ) (below : (l : ℕ) → f l < b) where
  all_mapped : (ls : List ℕ) → AllBelow b (map f ls)
  all_mapped [] = tt
  all_mapped (l ∷ ls) = (below l, all_mapped ls)

  mutual
    type_renamed : (t : RegionTyp) → TypeBelow b (renamed f t)
    type_renamed (region_integer k) = tt
    type_renamed region_boolean = tt
    type_renamed (region_tuple ts) = types_renamed ts
    type_renamed (region_reference m l t) = (below l, type_renamed t)
    type_renamed (region_named i ls) = all_mapped ls

    types_renamed : (ts : RegionTyps) → TypesBelow b (all_renamed f ts)
    types_renamed no_region = tt
    types_renamed (region_and t ts) = both_below b (lifetimes_in (renamed f t)) (lifetimes_among (all_renamed f ts)) (type_renamed t) (types_renamed ts)

  bounds_renamed : (bs : List Bound) → PairsBelow b (map (bound_renamed f) bs)
  bounds_renamed [] = tt
  bounds_renamed (x ∷ bs) = (below x.long, below x.short, bounds_renamed bs)

part_below : (b : ℕ) (ts : RegionTyps) (i : ℕ) → TypesBelow b ts → TypeBelow b (part_at ts i)
part_below b no_region i h = tt
part_below b (region_and t ts) zero h = front_below b (lifetimes_in t) (lifetimes_among ts) h
part_below b (region_and t ts) (suc i) h = part_below b ts i (back_below b (lifetimes_in t) (lifetimes_among ts) h)

-- ---- places

module _ (b : ℕ) (some : 0 < b) (D : List Decl) where
  instance_below : (ls : List ℕ) (t : RegionTyp) → AllBelow b ls → TypeBelow b (instance ls t)
  instance_below ls t h = type_renamed b (of_list ls) (listed_below b some ls h) t

  instances_below : (ls : List ℕ) (ts : RegionTyps) → AllBelow b ls → TypesBelow b (instances ls ts)
  instances_below ls no_region h = tt
  instances_below ls (region_and t ts) h =
      both_below b (lifetimes_in (instance ls t)) (lifetimes_among (instances ls ts)) (instance_below ls t h) (instances_below ls ts h)

  behind_below : (t : RegionTyp) (s : Step) → TypeBelow b t → TypeBelow b (behind D t s)
  behind_below (region_integer k) s h = tt
  behind_below region_boolean s h = tt
  behind_below (region_tuple ts) (step.Field i) h = part_below b ts i h
  behind_below (region_tuple ts) (step.Variant i) h = tt
  behind_below (region_tuple ts) (step.Deref k) h = tt
  behind_below (region_reference m l t) (step.Field i) h = tt
  behind_below (region_reference m l t) (step.Variant i) h = tt
  behind_below (region_reference m l t) (step.Deref k) h = h.1
  behind_below (region_named j ls) (step.Field i) h = instance_below ls (part_at (fields_of (slice_get D j)) i) h
  behind_below (region_named j ls) (step.Variant i) h = instance_below ls (region_tuple (parts_of_variant (slice_get D j) i)) h
  behind_below (region_named j ls) (step.Deref k) h = tt

  place_below : (t : RegionTyp) (ss : List Step) → TypeBelow b t → TypeBelow b (place_type D t ss)
  place_below t [] h = h
  place_below t (s ∷ ss) h = place_below (behind D t s) ss (behind_below t s h)

  through_below : (t : RegionTyp) (r : ℕ) (ss : List Step) → TypeBelow b t → r < b → PairsBelow b (through t r ss)
  through_below (region_integer k) r ss h w = tt
  through_below region_boolean r ss h w = tt
  through_below (region_tuple ts) r ss h w = tt
  through_below (region_reference m l t) r ss h w = go (goes_shared ss) where
    go : (c : Bool) → PairsBelow b (if c then [] else outlives l r ∷ [])
    go true = tt
    go false = (h.0, w, tt)
  through_below (region_named i ls) r ss h w = tt

  reborrows_below : (t : RegionTyp) (r : ℕ) (ss : List Step) → TypeBelow b t → r < b → PairsBelow b (reborrows D t r ss)
  reborrows_below t r [] h w = tt
  reborrows_below t r (step.Deref k ∷ ss) h w = pairs_both b (through t r ss) (reborrows D (behind D t (step.Deref k)) r ss) (through_below t r ss h w)
      (reborrows_below (behind D t (step.Deref k)) r ss (behind_below t (step.Deref k) h) w)
  reborrows_below t r (step.Field i ∷ ss) h w = reborrows_below (behind D t (step.Field i)) r ss (behind_below t (step.Field i) h) w
  reborrows_below t r (step.Variant i ∷ ss) h w = reborrows_below (behind D t (step.Variant i)) r ss (behind_below t (step.Variant i) h) w

  own_lifetimes_below : (t : RegionTyp) → TypeBelow b t → AllBelow b (lifetimes_of t)
  own_lifetimes_below (region_integer k) h = tt
  own_lifetimes_below region_boolean h = tt
  own_lifetimes_below (region_tuple ts) h = tt
  own_lifetimes_below (region_reference m l t) h = tt
  own_lifetimes_below (region_named i ls) h = h

  tuple_parts_below : (t : RegionTyp) → TypeBelow b t → TypesBelow b (tuple_parts t)
  tuple_parts_below (region_integer k) h = tt
  tuple_parts_below region_boolean h = tt
  tuple_parts_below (region_tuple ts) h = h
  tuple_parts_below (region_reference m l t) h = tt
  tuple_parts_below (region_named i ls) h = tt

  made_below : (w : Making) (t : RegionTyp) → TypeBelow b t → TypesBelow b (made_parts D w t)
  made_below (constant c) t h = tt
  made_below negation t h = tt
  made_below inversion t h = tt
  made_below (operation o) t h = tt
  made_below lazy t h = tt
  made_below tuple t h = tuple_parts_below t h
  made_below (struct i) t h = instances_below (lifetimes_of t) (fields_of (slice_get D i)) (own_lifetimes_below t h)
  made_below (variant_of i v) t h = instances_below (lifetimes_of t) (parts_of_variant (slice_get D i) v) (own_lifetimes_below t h)

-- ---- values that are written where others are wanted

module _ (b : ℕ) (V : ℕ → List Polarity) where
  in_place_below : (p : Polarity) (l k : ℕ) → l < b → k < b → PairsBelow b (in_place p l k)
  in_place_below Co l k h g = (h, g, tt)
  in_place_below Inv l k h g = (h, g, (g, h, tt))

  arguments_below : (p : Polarity) (vs : List Polarity) (ls ks : List ℕ) → AllBelow b ls → AllBelow b ks → PairsBelow b (arguments p vs ls ks)
  arguments_below p vs [] ks h g = tt
  arguments_below p vs (l ∷ ls) [] h g = tt
  arguments_below p vs (l ∷ ls) (k ∷ ks) h g = pairs_both b (in_place (within p (first_polarity vs)) l k) (arguments p (other_polarities vs) ls ks)
      (in_place_below (within p (first_polarity vs)) l k h.0 g.0) (arguments_below p (other_polarities vs) ls ks h.1 g.1)

  mutual
    related_below : (p : Polarity) (t u : RegionTyp) → TypeBelow b t → TypeBelow b u → PairsBelow b (related V p t u)
    related_below p (region_integer k) u h g = tt
    related_below p region_boolean u h g = tt
    related_below p (region_tuple ts) (region_integer k) h g = tt
    related_below p (region_tuple ts) region_boolean h g = tt
    related_below p (region_tuple ts) (region_tuple us) h g = all_related_below p ts us h g
    related_below p (region_tuple ts) (region_reference n k u) h g = tt
    related_below p (region_tuple ts) (region_named j ks) h g = tt
    related_below p (region_reference false l t) (region_integer k) h g = tt
    related_below p (region_reference false l t) region_boolean h g = tt
    related_below p (region_reference false l t) (region_tuple us) h g = tt
    related_below p (region_reference false l t) (region_reference false k u) h g =
        pairs_both b (in_place p l k) (related V p t u) (in_place_below p l k h.0 g.0) (related_below p t u h.1 g.1)
    related_below p (region_reference false l t) (region_reference true k u) h g = tt
    related_below p (region_reference false l t) (region_named j ks) h g = tt
    related_below p (region_reference true l t) (region_integer k) h g = tt
    related_below p (region_reference true l t) region_boolean h g = tt
    related_below p (region_reference true l t) (region_tuple us) h g = tt
    related_below p (region_reference true l t) (region_reference false k u) h g = tt
    related_below p (region_reference true l t) (region_reference true k u) h g =
        pairs_both b (in_place p l k) (related V Inv t u) (in_place_below p l k h.0 g.0) (related_below Inv t u h.1 g.1)
    related_below p (region_reference true l t) (region_named j ks) h g = tt
    related_below p (region_named i ls) (region_integer k) h g = tt
    related_below p (region_named i ls) region_boolean h g = tt
    related_below p (region_named i ls) (region_tuple us) h g = tt
    related_below p (region_named i ls) (region_reference n k u) h g = tt
    related_below p (region_named i ls) (region_named j ks) h g = arguments_below p (V i) ls ks h g

    all_related_below : (p : Polarity) (ts us : RegionTyps) → TypesBelow b ts → TypesBelow b us → PairsBelow b (all_related V p ts us)
    all_related_below p no_region us h g = tt
    all_related_below p (region_and t ts) no_region h g = tt
    all_related_below p (region_and t ts) (region_and u us) h g = pairs_both b (related V p t u) (all_related V p ts us)
        (related_below p t u (front_below b (lifetimes_in t) (lifetimes_among ts) h) (front_below b (lifetimes_in u) (lifetimes_among us) g))
        (all_related_below p ts us (back_below b (lifetimes_in t) (lifetimes_among ts) h) (back_below b (lifetimes_in u) (lifetimes_among us) g))

-- ---- types that are formed

module _ (b : ℕ) (P : ℕ → List Bound) where
  outlive_below : (ls : List ℕ) (k : ℕ) → AllBelow b ls → k < b → PairsBelow b (all_outlive ls k)
  outlive_below [] k h w = tt
  outlive_below (l ∷ ls) k h w = (h.0, w, outlive_below ls k h.1 w)

  abbrev OptionBelow : Option ℕ → Type 0
  OptionBelow (Some l) = l < b
  OptionBelow None = Unit {0}

  got_below : (ls : List ℕ) (n : ℕ) → AllBelow b ls → OptionBelow (slice_get ls n)
  got_below [] n h = tt
  got_below (l ∷ ls) zero h = h.0
  got_below (l ∷ ls) (suc n) h = got_below ls n h.1

  of_options : (o q : Option ℕ) → OptionBelow o → OptionBelow q → PairsBelow b (pair_of o q)
  of_options None q h g = tt
  of_options (Some l) None h g = tt
  of_options (Some l) (Some k) h g = (h, g, tt)

  with_below : (ls : List ℕ) (bs : List Bound) → AllBelow b ls → PairsBelow b (with_arguments ls bs)
  with_below ls [] h = tt
  with_below ls (x ∷ bs) h = pairs_both b (pair_of (slice_get ls x.long) (slice_get ls x.short)) (with_arguments ls bs)
      (of_options (slice_get ls x.long) (slice_get ls x.short) (got_below ls x.long h) (got_below ls x.short h)) (with_below ls bs h)

  mutual
    implied_below : (t : RegionTyp) → TypeBelow b t → PairsBelow b (implied_in P t)
    implied_below (region_integer n) h = tt
    implied_below region_boolean h = tt
    implied_below (region_tuple ts) h = all_implied_below ts h
    implied_below (region_reference m k t) h = pairs_both b (all_outlive (lifetimes_in t) k) (implied_in P t) (outlive_below (lifetimes_in t) k h.1 h.0) (implied_below t h.1)
    implied_below (region_named i ls) h = with_below ls (P i) h

    all_implied_below : (ts : RegionTyps) → TypesBelow b ts → PairsBelow b (implied_among P ts)
    all_implied_below no_region h = tt
    all_implied_below (region_and t ts) h = pairs_both b (implied_in P t) (implied_among P ts)
        (implied_below t (front_below b (lifetimes_in t) (lifetimes_among ts) h)) (all_implied_below ts (back_below b (lifetimes_in t) (lifetimes_among ts) h))

-- ---- what sites have of their own

record SignatureBelow (b : ℕ) (S : Signature) : Type 0 where
  params : TypesBelow b S.params
  answer : TypeBelow b S.answer
  bounds : PairsBelow b S.bounds

abbrev OwnBelow : ℕ → Own → Type 0
OwnBelow b none = Unit {0}
OwnBelow b (region r) = r < b
OwnBelow b (signed S) = SignatureBelow b S

abbrev OwnedBelow : ℕ → List Own → Type 0
OwnedBelow b [] = Unit {0}
OwnedBelow b (o ∷ os) = OwnBelow b o × OwnedBelow b os

from_below : (b n k : ℕ) → n + k ≤ b → AllBelow b (from n k)
from_below b n zero h = tt
from_below b n (suc k) h = (omega (arith, h), from_below b (suc n) k (omega (arith, h)))

module _ (b : ℕ) (some : 0 < b) (D : List Decl) where
  nothing_below : SignatureBelow b (record { params = no_region; answer = region_tuple no_region; bounds = [] })
  nothing_below = record { params = tt; answer = tt; bounds = tt }

  signature_below : (n : ℕ) (o : Option Decl) → n + lifetimes_had o ≤ b → SignatureBelow b (signature_from n o)
  signature_below n None h = nothing_below
  signature_below n (Some decl.Rt) h = nothing_below
  signature_below n (Some (decl.Struct c l vs fs)) h = nothing_below
  signature_below n (Some (decl.Enum c l vs ds)) h = nothing_below
  signature_below n (Some (decl.Func l ps t bs)) h = let each = listed_below b some (from n l) (from_below b n l h) in record {
    params = types_renamed b (of_list (from n l)) each (regions_of (map region-Ty ps));
    answer = type_renamed b (of_list (from n l)) each (region-Ty t);
    bounds = bounds_renamed b (of_list (from n l)) each bs;
  }

  own_below : (n : ℕ) (a : Act) → n + own_lifetimes D a ≤ b → OwnBelow b (own_of D n a)
  own_below n (Declare x) h = tt
  own_below n (Dead x) h = tt
  own_below n (Read m p d) h = tt
  own_below n (Write p t ss) h = tt
  own_below n (Borrow k p d) h = omega (arith, h)
  own_below n (Test p c) h = tt
  own_below n (Call f ts d) h = signature_below n (slice_get D f) h
  own_below n (Build w is ts d) h = tt
  own_below n (Input d) h = tt
  own_below n (Print t) h = tt
  own_below n (Give t) h = tt

  owned_below : (n : ℕ) (us : List Action) → n + all_own D us ≤ b → OwnedBelow b (all_owned D n us)
  owned_below n [] h = tt
  owned_below n (a ∷ us) h = (own_below n a.act (omega (arith, h)), owned_below (n + own_lifetimes D a.act) us (omega (arith, h)))

-- ---- all that is imposed

module _ (C : Context) (b : ℕ) (some : 0 < b) (roots : (r : Root) → TypeBelow b (root_type C.lifetimes r)) (answer : TypeBelow b C.lifetimes.answer) where
  at_below : (r : Root) (ss : List Step) → TypeBelow b (type_at C r ss)
  at_below r ss = place_below b some C.items (root_type C.lifetimes r) ss (roots r)

  in_below : (p : tree.Place) → TypeBelow b (type_in C p)
  in_below p = at_below p.root p.steps

  held_below : (t : Temporary) → TypeBelow b (held C t)
  held_below t = roots (temporary t)

  flows_below : (t u : RegionTyp) → TypeBelow b t → TypeBelow b u → PairsBelow b (flows C t u)
  flows_below t u h g = related_below b (variances C) Co t u h g

  parts_flow_below : (us : RegionTyps) (is : List ℕ) (ts : List Temporary) → TypesBelow b us → PairsBelow b (parts_flow C us is ts)
  parts_flow_below us [] ts h = tt
  parts_flow_below us (i ∷ is) [] h = tt
  parts_flow_below us (i ∷ is) (t ∷ ts) h = pairs_both b (flows C (held C t) (part_at us i)) (parts_flow C us is ts)
      (flows_below (held C t) (part_at us i) (held_below t) (part_below b us i h)) (parts_flow_below us is ts h)

  parameters_flow_below : (us : RegionTyps) (ts : List Temporary) → TypesBelow b us → PairsBelow b (parameters_flow C us ts)
  parameters_flow_below no_region ts h = tt
  parameters_flow_below (region_and u us) [] h = tt
  parameters_flow_below (region_and u us) (t ∷ ts) h = pairs_both b (flows C (held C t) u) (parameters_flow C us ts)
      (flows_below (held C t) u (held_below t) (front_below b (lifetimes_in u) (lifetimes_among us) h))
      (parameters_flow_below us ts (back_below b (lifetimes_in u) (lifetimes_among us) h))

  signed_below : (S : Signature) (ts : List Temporary) (d : Temporary) → SignatureBelow b S
      → PairsBelow b (signature_asks C S ++ (parameters_flow C S.params ts ++ flows C S.answer (held C d)))
  signed_below S ts d h = pairs_both b (signature_asks C S) (parameters_flow C S.params ts ++ flows C S.answer (held C d))
      (pairs_both b S.bounds (implied_among C.implied S.params ++ implied_in C.implied S.answer) h.bounds
      (pairs_both b (implied_among C.implied S.params) (implied_in C.implied S.answer) (all_implied_below b C.implied S.params h.params) (implied_below b C.implied S.answer h.answer)))
      (pairs_both b (parameters_flow C S.params ts) (flows C S.answer (held C d)) (parameters_flow_below S.params ts h.params)
      (flows_below S.answer (held C d) h.answer (held_below d)))

  asks_below : (a : Act) (o : Own) → OwnBelow b o → PairsBelow b (asks C a o)
  asks_below (Declare x) o h = tt
  asks_below (Dead x) o h = tt
  asks_below (Read m p d) o h = flows_below (type_in C p) (held C d) (in_below p) (held_below d)
  asks_below (Write p t ss) o h = flows_below (type_at C (temporary t) ss) (type_in C p) (at_below (temporary t) ss) (in_below p)
  asks_below (Borrow k p d) none h = tt
  asks_below (Borrow k p d) (region r) h = pairs_both b (reborrows C.items (root_type C.lifetimes p.root) r p.steps)
      (flows C (region_reference k r (type_in C p)) (held C d))
      (reborrows_below b some C.items (root_type C.lifetimes p.root) r p.steps (roots p.root) h)
      (flows_below (region_reference k r (type_in C p)) (held C d) (h, in_below p) (held_below d))
  asks_below (Borrow k p d) (signed S) h = tt
  asks_below (Test p c) o h = tt
  asks_below (Call f ts d) none h = tt
  asks_below (Call f ts d) (region r) h = tt
  asks_below (Call f ts d) (signed S) h = signed_below S ts d h
  asks_below (Build w is ts d) o h = parts_flow_below (made_parts C.items w (held C d)) is ts (made_below b some C.items w (held C d) (held_below d))
  asks_below (Input d) o h = tt
  asks_below (Print t) o h = tt
  asks_below (Give t) o h = flows_below (held C t) C.lifetimes.answer (held_below t) answer

  all_ask_below : (us : List Action) (os : List Own) → OwnedBelow b os → PairsBelow b (all_ask C us os)
  all_ask_below [] os h = tt
  all_ask_below (a ∷ us) [] h = tt
  all_ask_below (a ∷ us) (o ∷ os) h = pairs_both b (asks C a.act o) (all_ask C us os) (asks_below a.act o h.0) (all_ask_below us os h.1)

  formed_below : (x : ℕ) (ts : List RegionTyp) → Below b ts → PairsBelow b (formed C x ts)
  formed_below x [] h = tt
  formed_below x (t ∷ ts) h = pairs_both b (if is_among x C.lifetimes.params then [] else implied_in C.implied t) (formed C (x + 1) ts)
      (one (is_among x C.lifetimes.params)) (formed_below (x + 1) ts h.1) where
        one : (c : Bool) → PairsBelow b (if c then [] else implied_in C.implied t)
        one true = tt
        one false = implied_below b C.implied t (all_in b (lifetimes_in t) h.0)

  imposed_below : (us : List Action) → OwnedBelow b C.lifetimes.owned → Below b C.lifetimes.types → PairsBelow b (imposed C us)
  imposed_below us owned types = pairs_both b (all_ask C us C.lifetimes.owned) (formed C 0 C.lifetimes.types)
      (all_ask_below us C.lifetimes.owned owned) (formed_below 0 C.lifetimes.types types)

-- ---- the type of the answer

below_of : (n b : ℕ) (ls : List ℕ) → n ≤ b → all_below n ls ≡ true → AllBelow b ls
below_of n b [] w h = tt
below_of n b (l ∷ ls) w h = let e = both_of (nat_lt l n) (all_below n ls) h in
    (let less = ltb-true l n e.0 in omega (arith, less, w), below_of n b ls w e.1)

module _ (D : Declarations) (n b : ℕ) (w : n ≤ b) where
  mutual
    fits_below : (t : RegionTyp) → fits D n t ≡ true → TypeBelow b t
    fits_below (region_integer k) h = tt
    fits_below region_boolean h = tt
    fits_below (region_tuple ts) h = all_fit_below ts h
    fits_below (region_reference m l t) h = let e = both_of (nat_lt l n) (fits D n t) h in
        (let less = ltb-true l n e.0 in omega (arith, less, w), fits_below t e.1)
    fits_below (region_named i ls) h = below_of n b ls w
        (both_of (is_adt (slice_get D i) && nat_eq (length ls) (lifetimes_declared (slice_get D i))) (all_below n ls) h).1

    all_fit_below : (ts : RegionTyps) → all_fit D n ts ≡ true → TypesBelow b ts
    all_fit_below no_region h = tt
    all_fit_below (region_and t ts) h = let e = both_of (fits D n t) (all_fit D n ts) h in
        both_below b (lifetimes_in t) (lifetimes_among ts) (fits_below t e.0) (all_fit_below ts e.1)

answer_below : (D : Declarations) (o : Option Decl) (b : ℕ) → lifetimes_had o ≤ b → ((d : Decl) → o ≡ Some d → signature_fits D d ≡ true)
    → TypeBelow b (result_type o)
answer_below D None b w h = tt
answer_below D (Some decl.Rt) b w h = tt
answer_below D (Some (decl.Struct c l vs fs)) b w h = tt
answer_below D (Some (decl.Enum c l vs ds)) b w h = tt
answer_below D (Some (decl.Func l ps t bs)) b w h = fits_below D l b w (region-Ty t)
    (both_of (all_fit D l (regions_of (map region-Ty ps))) (fits D l (region-Ty t)) (both_of (all_fit D l (regions_of (map region-Ty ps)) && fits D l (region-Ty t)) (bounds_fit l bs) (h (decl.Func l ps t bs) refl)).0).1

-- ---- of a function of a typed program

pub pairs_counted : (D : List Decl) (P : ℕ → List Bound) (f : TypedFn) → WellSigned D → 0 < (lifetimes (function D f)).regions
    → PairsBelow (lifetimes (function D f)).regions (imposed (context_of D P f) (actions_of (sites_of f)))
pairs_counted D P f well some = imposed_below (context_of D P f) b some roots answer (actions_of (sites_of f)) owned
    (types_below D f.item (plain-TypedTree f.tree) (trimmed f.variables) (map annotated f.annotations)) where
      F : lowered.Function
      F = function D f

      b : ℕ
      b = (lifetimes F).regions

      counted : Numbered (context_of D P f)
      counted = are_numbered D P f.item (plain-TypedTree f.tree) (trimmed f.variables) (map annotated f.annotations)

      roots : (r : Root) → TypeBelow b (root_type (lifetimes F) r)
      roots r = all_in b (lifetimes_in (root_type (lifetimes F) r)) (counted.types r)

      answer : TypeBelow b (lifetimes F).answer
      answer = answer_below (declarations D) (slice_get D f.item) b counted.own (λ d e. well.signatures f.item d e)

      behind_types : ℕ
      behind_types = lifetimes_had (slice_get D f.item) + all_open (F.variables ++ opened (temporaries F))

      owned : OwnedBelow b (lifetimes F).owned
      owned = owned_below b some D behind_types (actions_of (sites_of f)) (omega arith)
