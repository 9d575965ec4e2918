-- What each site has of its own, by the new numbers: the region of a borrow, and the signature of a call, of which bounds between lifetimes
-- that became one may be missing.
use Rattle.std.proofs.Common.{◌≡◌, ◌⊎◌, inl, inr, ℕ, zero, suc, ◌+◌, ◌-◌, ◌<◌, ◌≤◌, true, List, [], ◌∷◌, map, get_or, Option, Some, None, option_map, slice_get, refl, sym, ap, ap₂, subst, ◌∙◌, arith}
use Rattle.rx_core.specs.declared.types.Bound.{Bound}
use Rattle.rx_core.specs.declared.types.Ty.{Ty}
use Rattle.rx_graph_cycles.specs.Reaches.{IsIn}
use Rattle.rx_typed.specs.declared.declarations.Decl.{Decl}
use Rattle.rx_typed.specs.declared.declarations.Decl.TheVariants as decl
use Rattle.rx_typed.specs.Regions.{RegionTyp, RegionTyps, no_region, regions_of, region-Ty, lifetimes_in, lifetimes_among}
use Rattle.rx_typed.specs.Renaming.{Signature, signature_with, signature_from, of_list, from, renamed, all_renamed, bound_renamed, unit_region}
use Rattle.rx_typed.specs.Types.{Declarations}
use Rattle.rx_typed_declarations.specs.Variance.{unrecorded}
use Rattle.rx_region_outlives.specs.Implied.{HasPair}
use Rattle.rx_lower_walks.specs.Actions.{Act, Declare, Dead, Read, Write, Borrow, Test, Call, Build, Input, Print, Give, Action}
use Rattle.rx_lower_lifetimes.specs.Values.{lifetimes_of}
use Rattle.rx_lower_lifetimes.specs.Numbered as numbered
use Rattle.rx_lower_lifetimes.specs.Numbered.{Own, own_of, all_owned}
use Rattle.rx_lower_lifetimes.specs.Positions.{own_lifetimes}
use Rattle.rx_repair.proofs.Deciding.{same_or}
use Rattle.rx_repair.proofs.Parameters.{Fitting}
use Rattle.rx_repair.proofs.Renamed.{Was, bounds_moved, bounds_back}
use Rattle.rx_compact_laws.specs.MergedSignatures.{AreBoundsUnder}
use Rattle.rx_compact_types.proofs.Filling.{renamed_twice, all_renamed_twice}
use Rattle.rx_compact_types.proofs.Programs.{renamed_itself, all_renamed_itself}
use Rattle.rx_compact_accepted.specs.AreShort.{AreShort}
use Rattle.rx_compact_accepted.proofs.Below.{type_below, types_below, bounds_below, type_agrees, types_agree}
use Rattle.rx_compact_accepted.proofs.Numbers.{called_number, act_number, moved, moved_here, moved_behind, called_same, called_other, within}

-- a signature by the new numbers
pub record SignedUnder (F : ℕ → ℕ) (S T : Signature) : Type 0 where
  pub params : T.params ≡ all_renamed F S.params
  pub answer : T.answer ≡ renamed F S.answer
  pub kept : (l k : ℕ) → HasPair S.bounds l k → (F l ≡ F k) ⊎ HasPair T.bounds (F l) (F k)
  pub only : (x y : ℕ) → HasPair T.bounds x y → (l k : ℕ) × HasPair S.bounds l k × (x ≡ F l) × (y ≡ F k)

abbrev pub OwnUnder : (ℕ → ℕ) → Own → Own → Type 0
OwnUnder F numbered.none numbered.none = Unit {0}
OwnUnder F (numbered.region r) (numbered.region q) = q ≡ F r
OwnUnder F (numbered.signed S) (numbered.signed T) = SignedUnder F S T
OwnUnder F _ _ = ⊥

abbrev pub AllOwnUnder : (ℕ → ℕ) → List Own → List Own → Type 0
AllOwnUnder F [] [] = Unit {0}
AllOwnUnder F (o ∷ os) (w ∷ ws) = OwnUnder F o w × AllOwnUnder F os ws
AllOwnUnder F _ _ = ⊥

pub from_at : (n l k : ℕ) → k < l → of_list (from n l) k ≡ n + k
from_at n zero k h = absurd (omega (arith, h))
from_at n (suc l) zero h = omega arith
from_at n (suc l) (suc k) h = let z : suc n + k ≡ n + suc k = omega arith in from_at (suc n) l k (omega (arith, h)) ∙ z

-- ---- a signature from one number on, and under others from another on

module _ (F h : ℕ → ℕ) (n m a b : ℕ) (within : (l : ℕ) → l < a → h l < b) (is : (l : ℕ) → l < a → F (n + l) ≡ m + h l) where
  abbrev old : ℕ → ℕ
  old = of_list (from n a)

  abbrev new : ℕ → ℕ
  new = of_list (from m b)

  agrees : (l : ℕ) → l < a → new (h l) ≡ F (old l)
  agrees l w = from_at m b (h l) (within l w) ∙ (sym (is l w) ∙ ap F (sym (from_at n a l w)))

  pub signed_under : (ps qs : RegionTyps) (t u : RegionTyp) (bs cs : List Bound) → ((l : ℕ) → IsIn (lifetimes_among ps) l → l < a) → ((l : ℕ) → IsIn (lifetimes_in t) l → l < a)
      → ((l k : ℕ) → HasPair bs l k → (l < a) × (k < a)) → qs ≡ all_renamed h ps → u ≡ renamed h t → AreBoundsUnder h bs cs → SignedUnder F (signature_with old ps t bs) (signature_with new qs u cs)
  signed_under ps qs t u bs cs x y z p q w = record {
    params = ap (all_renamed new) p ∙ (all_renamed_twice h new ps ∙ (types_agree (λ l. new (h l)) (λ l. F (old l)) ps (λ l v. agrees l (x l v)) ∙ sym (all_renamed_twice old F ps)));
    answer = ap (renamed new) q ∙ (renamed_twice h new t ∙ (type_agrees (λ l. new (h l)) (λ l. F (old l)) t (λ l v. agrees l (y l v)) ∙ sym (renamed_twice old F t)));
    kept = λ l k v. kept_one l k (bounds_back old bs l k v);
    only = λ l k v. only_one l k (bounds_back new cs l k v);
  }
    where
      kept_pair : (l k : ℕ) → HasPair bs l k → (F (old l) ≡ F (old k)) ⊎ HasPair (map (bound_renamed new) cs) (F (old l)) (F (old k))
      kept_pair l k v =
          let c = z l k v in
          elim (w.kept l k v) [
            | inl e ↦ inl (sym (agrees l c.0) ∙ (ap new e ∙ agrees k c.1))
            | inr g ↦ inr (subst (λ x. HasPair (map (bound_renamed new) cs) x (F (old k))) (agrees l c.0) (subst (λ y. HasPair (map (bound_renamed new) cs) (new (h l)) y) (agrees k c.1) (bounds_moved new cs (h l) (h k) g)))
          ]

      kept_one : (l k : ℕ) → Was old bs l k → (F l ≡ F k) ⊎ HasPair (map (bound_renamed new) cs) (F l) (F k)
      kept_one l k v = subst (λ x. (F x ≡ F k) ⊎ HasPair (map (bound_renamed new) cs) (F x) (F k)) v.first
          (subst (λ y. (F (old v.long) ≡ F y) ⊎ HasPair (map (bound_renamed new) cs) (F (old v.long)) (F y)) v.second (kept_pair v.long v.short v.pair))

      only_one : (l k : ℕ) → Was new cs l k → (x y : ℕ) × HasPair (map (bound_renamed old) bs) x y × (l ≡ F x) × (k ≡ F y)
      only_one l k v =
          let r = w.only v.long v.short v.pair in
          let c = z r.0 r.1 r.2 in
          (old r.0, old r.1, bounds_moved old bs r.0 r.1 r.2, sym v.first ∙ (ap new r.3 ∙ agrees r.0 c.0), sym v.second ∙ (ap new r.4 ∙ agrees r.1 c.1))

-- ---- the signature of a call

signature_plain : (n : ℕ) (o : Option Decl) → signature_from n (option_map unrecorded o) ≡ signature_from n o
signature_plain n None = refl
signature_plain n (Some decl.Rt) = refl
signature_plain n (Some (decl.Struct c l vs fs)) = refl
signature_plain n (Some (decl.Enum c l vs ds)) = refl
signature_plain n (Some (decl.Func l ps t bs)) = refl

nothing_under : (F : ℕ → ℕ) → SignedUnder F (record { params = no_region; answer = unit_region; bounds = [] }) (record { params = no_region; answer = unit_region; bounds = [] })
nothing_under F = record { params = refl; answer = refl; kept = λ l k h. absurd h; only = λ x y h. absurd h }

module _ (E : Declarations) (F : ℕ → ℕ) (n m : ℕ) where
  -- of the same item
  same_under : (o : Option Decl) → Fitting E o → ((l : ℕ) → l < lifetimes_of o → F (n + l) ≡ m + l) → SignedUnder F (signature_from n o) (signature_from m o)
  same_under None fit h = nothing_under F
  same_under (Some decl.Rt) fit h = nothing_under F
  same_under (Some (decl.Struct c l vs fs)) fit h = nothing_under F
  same_under (Some (decl.Enum c l vs ds)) fit h = nothing_under F
  same_under (Some (decl.Func a ps t bs)) fit h =
      signed_under F (λ l. l) n m a a (λ l w. w) h (regions_of (map region-Ty ps)) (regions_of (map region-Ty ps)) (region-Ty t) (region-Ty t) bs bs
      (types_below E a (regions_of (map region-Ty ps)) fit.params) (type_below E a (region-Ty t) fit.answer) (bounds_below a bs fit.bounds)
      (sym (all_renamed_itself (regions_of (map region-Ty ps)))) (sym (renamed_itself (region-Ty t))) (record { kept = λ l k w. inr w; only = λ x y w. (x, y, w, refl, refl) })

module _ (i : ℕ) (f : ℕ → ℕ) (D E : List Decl) (S : AreShort i f D E) (G : Declarations) (fit : (j : ℕ) → Fitting G (slice_get D j)) where
  module _ (F : ℕ → ℕ) where
    short_under : (n m : ℕ) → ((l : ℕ) → l < lifetimes_of (slice_get D i) → F (n + l) ≡ m + f l) → SignedUnder F (signature_from n (slice_get D i)) (signature_from m (slice_get E i))
    short_under n m h =
        let c = ap lifetimes_of S.like.under.old in
        let e = ap lifetimes_of S.like.under.new in
        let w : Fitting G (Some (decl.Func S.like.under.count S.like.under.params S.like.under.answer S.like.under.bounds)) = subst (Fitting G) S.like.under.old (fit i) in
        subst (λ x. SignedUnder F x (signature_from m (slice_get E i))) (ap (signature_from n) (sym S.like.under.old))
        (subst (λ y. SignedUnder F (signature_from n (Some (decl.Func S.like.under.count S.like.under.params S.like.under.answer S.like.under.bounds))) y) (ap (signature_from m) (sym S.like.under.new))
        (signed_under F f n m S.like.under.count S.like.under.new_count
        (λ l v. subst (λ k. f l < k) e (within i f D E S l (subst (λ k. l < k) (sym c) v)))
        (λ l v. h l (subst (λ k. l < k) (sym c) v))
        (regions_of (map region-Ty S.like.under.params)) (regions_of (map region-Ty S.like.under.new_params)) (region-Ty S.like.under.answer) (region-Ty S.like.under.new_answer) S.like.under.bounds S.like.under.new_bounds
        (types_below G S.like.under.count (regions_of (map region-Ty S.like.under.params)) w.params) (type_below G S.like.under.count (region-Ty S.like.under.answer) w.answer) (bounds_below S.like.under.count S.like.under.bounds w.bounds)
        S.like.under.params_are S.like.under.answer_is S.like.under.bounds_are))

    call_under : (j n m : ℕ) → ((l : ℕ) → l < lifetimes_of (slice_get D j) → F (n + l) ≡ m + called_number i f D E S j l) → SignedUnder F (signature_from n (slice_get D j)) (signature_from m (slice_get E j))
    call_under j n m h = elim (same_or j i) [
      | inl e ↦ subst (λ k. SignedUnder F (signature_from n (slice_get D k)) (signature_from m (slice_get E k))) (sym e)
          (short_under n m (λ l v. h l (subst (λ k. l < lifetimes_of (slice_get D k)) (sym e) v) ∙ ap (λ x. m + x) (called_same i f D E S j l e)))
      | inr ne ↦ subst (λ T. SignedUnder F (signature_from n (slice_get D j)) T) (sym (sym (signature_plain m (slice_get E j)) ∙ (ap (signature_from m) (S.like.others j ne) ∙ signature_plain m (slice_get D j))))
          (same_under G F n m (slice_get D j) (fit j) (λ l v. h l v ∙ ap (λ x. m + x) (called_other i f D E S j l ne)))
    ]

    -- ---- sites

    own_under : (n m : ℕ) (a : Act) → ((l : ℕ) → l < own_lifetimes D a → F (n + l) ≡ m + act_number i f D E S a l) → OwnUnder F (own_of D n a) (own_of E m a)
    own_under n m (Call j ts d) h = call_under j n m h
    own_under n m (Borrow k p d) h =
        let x : n + 0 ≡ n = omega arith in
        let y : m + 0 ≡ m = omega arith in
        sym y ∙ (sym (h 0 (omega arith)) ∙ ap F x)
    own_under n m (Declare x) h = tt
    own_under n m (Dead x) h = tt
    own_under n m (Read k p d) h = tt
    own_under n m (Write p t ss) h = tt
    own_under n m (Test p c) h = tt
    own_under n m (Build w is ts d) h = tt
    own_under n m (Input d) h = tt
    own_under n m (Print t) h = tt
    own_under n m (Give t) h = tt

    pub owned_under : (us : List Action) (n m : ℕ) → ((l : ℕ) → n ≤ l → F l ≡ moved i f D E S us n m l) → AllOwnUnder F (all_owned D n us) (all_owned E m us)
    owned_under [] n m h = tt
    owned_under (a ∷ us) n m h = (
      own_under n m a.act (λ l w.
          let x : n + l < n + own_lifetimes D a.act = omega (arith, w) in
          let y : (n + l) - n ≡ l = omega arith in
          h (n + l) (omega arith) ∙ (moved_here i f D E S a us n m (n + l) x ∙ ap (λ k. m + act_number i f D E S a.act k) y)),
      owned_under us (n + own_lifetimes D a.act) (m + own_lifetimes E a.act) (λ l w. h l (omega (arith, w)) ∙ moved_behind i f D E S a us n m l w),
    )
