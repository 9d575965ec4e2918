-- What a signature says of lifetimes under other numbers is what it says of them by their old ones.
use Rattle.std.proofs.Common.{◌≡◌, ◌↔◌, ◌⊎◌, inl, inr, ℕ, zero, suc, Bool, true, List, [], ◌∷◌, ◌++◌, map, Option, Some, slice_get, refl, sym, ap, subst, ◌∙◌}
use Rattle.rx_core.specs.declared.types.Bound.{Bound}
use Rattle.rx_core.specs.declared.types.Ty.{Ty}
use Rattle.rx_typed.specs.declared.declarations.Decl.{Decl}
use Rattle.rx_typed.specs.declared.declarations.Decl.TheVariants as decl
use Rattle.rx_typed.specs.Regions.{RegionTyp, region_integer, region_boolean, region_tuple, region_reference, region_named, RegionTyps, no_region, region_and, lifetimes_in, lifetimes_among, regions, regions_of, region-Ty}
use Rattle.rx_typed.specs.Renaming.{renamed, all_renamed}
use Rattle.rx_graph_cycles.specs.Reaches.{IsIn}
use Rattle.rx_region_outlives.specs.Implied.{Implied, in_tuple, behind, pointed_to, by_fields, ImpliedAmong, in_first, in_rest}
use Rattle.rx_compact.specs.Outliving.{Says, Outlives, itself, by}
use Rattle.rx_compact_laws.specs.MergedSignatures.{AreBoundsUnder, IsUnder, MergesKnown, MergesAll}

module _ (H : List (List RegionTyp)) (f : ℕ → ℕ) where
  in_renamed : (ls : List ℕ) (l : ℕ) → IsIn ls l → IsIn (map f ls) (f l)
  in_renamed [] l h = absurd h
  in_renamed (k ∷ ks) l (inl e) = inl (ap f e)
  in_renamed (k ∷ ks) l (inr h) = inr (in_renamed ks l h)

  in_front : (ls ms : List ℕ) (l : ℕ) → IsIn ls l → IsIn (ls ++ ms) l
  in_front [] ms l h = absurd h
  in_front (k ∷ ks) ms l (inl e) = inl e
  in_front (k ∷ ks) ms l (inr h) = inr (in_front ks ms l h)

  in_behind : (ls ms : List ℕ) (l : ℕ) → IsIn ms l → IsIn (ls ++ ms) l
  in_behind [] ms l h = h
  in_behind (k ∷ ks) ms l h = inr (in_behind ks ms l h)

  in_either : (ls ms : List ℕ) (l : ℕ) → IsIn (ls ++ ms) l → IsIn ls l ⊎ IsIn ms l
  in_either [] ms l h = inr h
  in_either (k ∷ ks) ms l (inl e) = inl (inl e)
  in_either (k ∷ ks) ms l (inr h) = elim (in_either ks ms l h) [
    | inl a ↦ inl (inr a)
    | inr b ↦ inr b
  ]

  -- a lifetime of a type under the new numbers is one of the old, and back
  mutual
    pub type_there : (t : RegionTyp) (l : ℕ) → IsIn (lifetimes_in t) l → IsIn (lifetimes_in (renamed f t)) (f l)
    type_there (region_integer k) l h = absurd h
    type_there region_boolean l h = absurd h
    type_there (region_tuple ts) l h = types_there ts l h
    type_there (region_reference m r t) l (inl e) = inl (ap f e)
    type_there (region_reference m r t) l (inr h) = inr (type_there t l h)
    type_there (region_named i ls) l h = in_renamed ls l h

    types_there : (ts : RegionTyps) (l : ℕ) → IsIn (lifetimes_among ts) l → IsIn (lifetimes_among (all_renamed f ts)) (f l)
    types_there no_region l h = absurd h
    types_there (region_and t ts) l h = elim (in_either (lifetimes_in t) (lifetimes_among ts) l h) [
      | inl a ↦ in_front (lifetimes_in (renamed f t)) (lifetimes_among (all_renamed f ts)) (f l) (type_there t l a)
      | inr b ↦ in_behind (lifetimes_in (renamed f t)) (lifetimes_among (all_renamed f ts)) (f l) (types_there ts l b)
    ]

  listed_back : (ls : List ℕ) (x : ℕ) → IsIn (map f ls) x → (l : ℕ) × IsIn ls l × (x ≡ f l)
  listed_back [] x h = absurd h
  listed_back (k ∷ ks) x (inl e) = (k, inl refl, sym e)
  listed_back (k ∷ ks) x (inr h) = let r = listed_back ks x h in (r.0, inr r.1, r.2)

  mutual
    pub type_back : (t : RegionTyp) (x : ℕ) → IsIn (lifetimes_in (renamed f t)) x → (l : ℕ) × IsIn (lifetimes_in t) l × (x ≡ f l)
    type_back (region_integer k) x h = absurd h
    type_back region_boolean x h = absurd h
    type_back (region_tuple ts) x h = types_back ts x h
    type_back (region_reference m r t) x (inl e) = (r, inl refl, sym e)
    type_back (region_reference m r t) x (inr h) = let b = type_back t x h in (b.0, inr b.1, b.2)
    type_back (region_named i ls) x h = listed_back ls x h

    types_back : (ts : RegionTyps) (x : ℕ) → IsIn (lifetimes_among (all_renamed f ts)) x → (l : ℕ) × IsIn (lifetimes_among ts) l × (x ≡ f l)
    types_back no_region x h = absurd h
    types_back (region_and t ts) x h = elim (in_either (lifetimes_in (renamed f t)) (lifetimes_among (all_renamed f ts)) x h) [
      | inl a ↦ let r = type_back t x a in (r.0, in_front (lifetimes_in t) (lifetimes_among ts) r.0 r.1, r.2)
      | inr b ↦ let r = types_back ts x b in (r.0, in_behind (lifetimes_in t) (lifetimes_among ts) r.0 r.1, r.2)
    ]

  nth_there : (ls : List ℕ) (x l : ℕ) → slice_get ls x ≡ Some l → slice_get (map f ls) x ≡ Some (f l)
  nth_there [] x l e = absurd (cc)
  nth_there (k ∷ ks) zero l e = let q : k ≡ l = cc in ap (λ m. Some (f m)) q
  nth_there (k ∷ ks) (suc x) l e = nth_there ks x l e

  nth_back : (ls : List ℕ) (x y : ℕ) → slice_get (map f ls) x ≡ Some y → (l : ℕ) × (slice_get ls x ≡ Some l) × (y ≡ f l)
  nth_back [] x y e = absurd (cc)
  nth_back (k ∷ ks) zero y e = (k, refl, cc)
  nth_back (k ∷ ks) (suc x) y e = nth_back ks x y e

  -- ---- what types ask

  mutual
    asked_there : (t : RegionTyp) (l k : ℕ) → Implied H t l k → Implied H (renamed f t) (f l) (f k)
    asked_there u l k (in_tuple {ts = ts} h) = in_tuple (all_asked_there ts l k h)
    asked_there u l k (behind {t = t} h) = behind (asked_there t l k h)
    asked_there u l k (pointed_to {t = t} h) = pointed_to (type_there t l h)
    asked_there u l k (by_fields {i = i} {ls = ls} {x = x} {y = y} a b h) = by_fields (nth_there ls x l a) (nth_there ls y k b) h

    all_asked_there : (ts : RegionTyps) (l k : ℕ) → ImpliedAmong H ts l k → ImpliedAmong H (all_renamed f ts) (f l) (f k)
    all_asked_there us l k (in_first {t = t} h) = in_first (asked_there t l k h)
    all_asked_there us l k (in_rest {ts = ts} h) = in_rest (all_asked_there ts l k h)

  abbrev Back : (ℕ → ℕ → Type 0) → ℕ → ℕ → Type 0
  Back R x y = (l k : ℕ) × R l k × (x ≡ f l) × (y ≡ f k)

  mutual
    asked_back : (t : RegionTyp) (x y : ℕ) → Implied H (renamed f t) x y → Back (Implied H t) x y
    asked_back (region_integer n) x y h = elim h [ ]
    asked_back region_boolean x y h = elim h [ ]
    asked_back (region_tuple ts) x y (in_tuple h) = let r = all_asked_back ts x y h in (r.0, r.1, in_tuple r.2, r.3, r.4)
    asked_back (region_reference m r t) x y (behind h) = let b = asked_back t x y h in (b.0, b.1, behind b.2, b.3, b.4)
    asked_back (region_reference m r t) x y (pointed_to h) = let b = type_back t x h in (b.0, r, pointed_to b.1, b.2, refl)
    asked_back (region_named i ls) x y (by_fields {x = p} {y = q} a b h) =
        let c = nth_back ls p x a in let d = nth_back ls q y b in (c.0, d.0, by_fields c.1 d.1 h, c.2, d.2)

    all_asked_back : (ts : RegionTyps) (x y : ℕ) → ImpliedAmong H (all_renamed f ts) x y → Back (ImpliedAmong H ts) x y
    all_asked_back no_region x y h = elim h [ ]
    all_asked_back (region_and t ts) x y (in_first h) = let r = asked_back t x y h in (r.0, r.1, in_first r.2, r.3, r.4)
    all_asked_back (region_and t ts) x y (in_rest h) = let r = all_asked_back ts x y h in (r.0, r.1, in_rest r.2, r.3, r.4)

-- ---- signatures

module _ (D E : List Decl) (f : ℕ → ℕ) (same : regions E ≡ regions D) (n m : ℕ) (ps qs : List Ty) (t u : Ty) (bs cs : List Bound)
    (params : regions_of (map region-Ty qs) ≡ all_renamed f (regions_of (map region-Ty ps))) (answer : region-Ty u ≡ renamed f (region-Ty t)) (bounds : AreBoundsUnder f bs cs) where
  abbrev old : Option Decl
  old = Some (decl.Func n ps t bs)

  abbrev new : Option Decl
  new = Some (decl.Func m qs u cs)

  says_there : (l k : ℕ) → Says D old l k → (f l ≡ f k) ⊎ Says E new (f l) (f k)
  says_there l k (inl a) = elim (bounds.kept l k a) [
    | inl e ↦ inl e
    | inr b ↦ inr (inl b)
  ]
  says_there l k (inr (inl a)) = inr (inr (inl (subst (λ H. ImpliedAmong H (regions_of (map region-Ty qs)) (f l) (f k)) (sym same)
      (subst (λ ts. ImpliedAmong (regions D) ts (f l) (f k)) (sym params) (all_asked_there (regions D) f (regions_of (map region-Ty ps)) l k a)))))
  says_there l k (inr (inr a)) = inr (inr (inr (subst (λ H. Implied H (region-Ty u) (f l) (f k)) (sym same)
      (subst (λ r. Implied (regions D) r (f l) (f k)) (sym answer) (asked_there (regions D) f (region-Ty t) l k a)))))

  says_back : (x y : ℕ) → Says E new x y → (l k : ℕ) × Says D old l k × (x ≡ f l) × (y ≡ f k)
  says_back x y (inl a) = let r = bounds.only x y a in (r.0, r.1, inl r.2, r.3, r.4)
  says_back x y (inr (inl a)) =
      let r = all_asked_back (regions D) f (regions_of (map region-Ty ps)) x y (subst (λ ts. ImpliedAmong (regions D) ts x y) params (subst (λ H. ImpliedAmong H (regions_of (map region-Ty qs)) x y) same a)) in
      (r.0, r.1, inr (inl r.2), r.3, r.4)
  says_back x y (inr (inr a)) =
      let r = asked_back (regions D) f (region-Ty t) x y (subst (λ v. Implied (regions D) v x y) answer (subst (λ H. Implied H (region-Ty u) x y) same a)) in
      (r.0, r.1, inr (inr r.2), r.3, r.4)

  there : (l k : ℕ) → Outlives D old l k → Outlives E new (f l) (f k)
  there l k itself = itself
  there l k (by a s rest) = elim (says_there l a s) [
    | inl e ↦ subst (λ x. Outlives E new x (f k)) (sym e) (there a k rest)
    | inr b ↦ by (f a) b (there a k rest)
  ]

  goes_on : (l k j : ℕ) → Outlives D old l k → Outlives D old k j → Outlives D old l j
  goes_on l k j itself g = g
  goes_on l k j (by a s rest) g = by a s (goes_on a k j rest g)

  back : ((l k : ℕ) → f l ≡ f k → Outlives D old l k) → (x y : ℕ) → Outlives E new x y → (l k : ℕ) → x ≡ f l → y ≡ f k → Outlives D old l k
  back known x y itself l k a b = known l k (sym a ∙ b)
  back known x y (by z s rest) l k a b =
      let r = says_back x z s in
      goes_on l r.0 k (known l r.0 (sym a ∙ r.3)) (by r.1 r.2 (back known z y rest r.1 k r.4 b))

pub knows_the_same : (D E : List Decl) (d e : Option Decl) (f : ℕ → ℕ) → regions E ≡ regions D → IsUnder f d e → MergesKnown D d f
    → (l k : ℕ) → Outlives E e (f l) (f k) ↔ Outlives D d l k
knows_the_same D E d e f same u merges l k =
    let known : (a b : ℕ) → f a ≡ f b → Outlives D (Some (decl.Func u.count u.params u.answer u.bounds)) a b = λ a b q. subst (λ o. Outlives D o a b) u.old (merges a b q) in (
      λ h. subst (λ o. Outlives D o l k) (sym u.old) (back D E f same u.count u.new_count u.params u.new_params u.answer u.new_answer u.bounds u.new_bounds u.params_are u.answer_is u.bounds_are known
          (f l) (f k) (subst (λ o. Outlives E o (f l) (f k)) u.new h) l k refl refl),
      λ h. subst (λ o. Outlives E o (f l) (f k)) (sym u.new) (there D E f same u.count u.new_count u.params u.new_params u.answer u.new_answer u.bounds u.new_bounds u.params_are u.answer_is u.bounds_are
          l k (subst (λ o. Outlives D o l k) u.old h)),
    )

pub are_apart : (D E : List Decl) (d e : Option Decl) (f : ℕ → ℕ) → regions E ≡ regions D → IsUnder f d e → MergesKnown D d f → (these : ℕ → Bool) → MergesAll D d f these
    → (l k : ℕ) → these l ≡ true → these k ≡ true → Outlives E e (f l) (f k) → Outlives E e (f k) (f l) → f l ≡ f k
are_apart D E d e f same u merges these all l k x y a b = all l k x y ((knows_the_same D E d e f same u merges l k).0 a) ((knows_the_same D E d e f same u merges k l).0 b)
