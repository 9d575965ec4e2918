-- What is imposed on a function's lifetimes by the new numbers is what was imposed on these, but for bounds of called signatures between
-- lifetimes that became one.
use Rattle.std.proofs.Common.{◌≡◌, ◌⊎◌, inl, inr, ℕ, List, [], ◌∷◌, ◌++◌, map, refl, sym, ap, subst, ◌∙◌}
use Rattle.rx_core.specs.declared.types.Bound.{Bound}
use Rattle.rx_typed.specs.Tree.{Temporary}
use Rattle.rx_typed.specs.Renaming.{Signature, signature_with, bound_renamed}
use Rattle.rx_region_outlives.specs.Implied.{HasPair, implied_in, implied_among}
use Rattle.rx_region_outlives.proofs.ImpliedLemmas.{has_front, has_behind, has_either}
use Rattle.rx_lower_walks.specs.Actions.{Act, Declare, Dead, Read, Write, Borrow, Test, Call, Build, Input, Print, Give, Action}
use Rattle.rx_lower_lifetimes.specs.Numbered.{Own, none, region, signed}
use Rattle.rx_region.specs.Constraints.{Context, held, flows, parameters_flow, signature_asks, asks, all_ask, formed, imposed}
use Rattle.rx_region.specs.Known.{told}
use Rattle.rx_repair.specs.Fitting.{Fits}
use Rattle.rx_repair.specs.Renaming.{own_renamed, context_renamed}
use Rattle.rx_repair.proofs.Renamed.{bounds_moved, bounds_back}
use Rattle.rx_compact_accepted.proofs.AskingRenamed.{imposed_same, types_told}
use Rattle.rx_repair.specs.LeastBounds.{by_types}
use Rattle.rx_compact_laws.specs.MergedSignatures.{AreBoundsUnder}
use Rattle.rx_compact_accepted.proofs.Owned.{SignedUnder, OwnUnder, AllOwnUnder}
use Rattle.rx_compact_accepted.proofs.Reading.{ReadsSame, all_alike, formed_alike, by_types_alike}

module _ (F : ℕ → ℕ) (K : Context) where
  -- ---- a call

  abbrev turned : Signature → Signature
  turned S = signature_with F S.params S.answer S.bounds

  -- what is asked but for its bounds
  abbrev types_ask : Signature → List Bound
  types_ask S = implied_among K.implied S.params ++ implied_in K.implied S.answer

  types_same : (S T : Signature) → SignedUnder F S T → types_ask T ≡ types_ask (turned S)
  types_same S T w = λ j. implied_among K.implied (w.params j) ++ implied_in K.implied (w.answer j)

  signature_there : (S T : Signature) → SignedUnder F S T → (x y : ℕ) → HasPair (signature_asks K (turned S)) x y → (x ≡ y) ⊎ HasPair (signature_asks K T) x y
  signature_there S T w x y h = elim (has_either (turned S).bounds (types_ask (turned S)) x y h) [
    | inl a ↦ (let b = bounds_back F S.bounds x y a in elim (w.kept b.long b.short b.pair) [
      | inl e ↦ inl (sym b.first ∙ (e ∙ b.second))
      | inr g ↦ inr (has_front T.bounds (types_ask T) x y (subst (λ z. HasPair T.bounds z y) b.first (subst (λ z. HasPair T.bounds (F b.long) z) b.second g)))
    ])
    | inr a ↦ inr (has_behind T.bounds (types_ask T) x y (subst (λ ps. HasPair ps x y) (sym (types_same S T w)) a))
  ]

  signature_back : (S T : Signature) → SignedUnder F S T → (x y : ℕ) → HasPair (signature_asks K T) x y → HasPair (signature_asks K (turned S)) x y
  signature_back S T w x y h = elim (has_either T.bounds (types_ask T) x y h) [
    | inl a ↦ (let r = w.only x y a in has_front (turned S).bounds (types_ask (turned S)) x y
        (subst (λ z. HasPair (turned S).bounds z y) (sym r.3) (subst (λ z. HasPair (turned S).bounds (F r.0) z) (sym r.4) (bounds_moved F S.bounds r.0 r.1 r.2))))
    | inr a ↦ has_behind (turned S).bounds (types_ask (turned S)) x y (subst (λ ps. HasPair ps x y) (types_same S T w) a)
  ]

  -- ---- an action

  abbrev There : List Bound → List Bound → Type 0
  There ps qs = (x y : ℕ) → HasPair ps x y → (x ≡ y) ⊎ HasPair qs x y

  abbrev Within : List Bound → List Bound → Type 0
  Within ps qs = (x y : ℕ) → HasPair ps x y → HasPair qs x y

  both_there : (ps qs rs ss : List Bound) → There ps rs → There qs ss → There (ps ++ qs) (rs ++ ss)
  both_there ps qs rs ss a b x y h = elim (has_either ps qs x y h) [
    | inl u ↦ elim (a x y u) [ inl e ↦ inl e | inr v ↦ inr (has_front rs ss x y v) ]
    | inr u ↦ elim (b x y u) [ inl e ↦ inl e | inr v ↦ inr (has_behind rs ss x y v) ]
  ]

  both_within : (ps qs rs ss : List Bound) → Within ps rs → Within qs ss → Within (ps ++ qs) (rs ++ ss)
  both_within ps qs rs ss a b x y h = elim (has_either ps qs x y h) [ inl u ↦ has_front rs ss x y (a x y u) | inr u ↦ has_behind rs ss x y (b x y u) ]

  same_there : (ps qs : List Bound) → ps ≡ qs → There ps qs
  same_there ps qs e x y h = inr (subst (λ z. HasPair z x y) e h)

  same_within : (ps qs : List Bound) → ps ≡ qs → Within ps qs
  same_within ps qs e x y h = subst (λ z. HasPair z x y) e h

  record Alike (a : Act) (o w : Own) : Type 0 where
    there : There (asks K a (own_renamed F o)) (asks K a w)
    back : Within (asks K a w) (asks K a (own_renamed F o))

  by_equal : (a : Act) (o w : Own) → asks K a (own_renamed F o) ≡ asks K a w → Alike a o w
  by_equal a o w e = record { there = same_there (asks K a (own_renamed F o)) (asks K a w) e; back = same_within (asks K a w) (asks K a (own_renamed F o)) (sym e) }

  call_alike : (j : ℕ) (ts : List Temporary) (d : Temporary) (S T : Signature) → SignedUnder F S T → Alike (Call j ts d) (signed S) (signed T)
  call_alike j ts d S T w =
      let flow : parameters_flow K (turned S).params ts ++ flows K (turned S).answer (held K d) ≡ parameters_flow K T.params ts ++ flows K T.answer (held K d) =
      (λ k. parameters_flow K (sym w.params k) ts ++ flows K (sym w.answer k) (held K d)) in
      record {
        there = both_there (signature_asks K (turned S)) (parameters_flow K (turned S).params ts ++ flows K (turned S).answer (held K d)) (signature_asks K T) (parameters_flow K T.params ts ++ flows K T.answer (held K d))
            (signature_there S T w) (same_there (parameters_flow K (turned S).params ts ++ flows K (turned S).answer (held K d)) (parameters_flow K T.params ts ++ flows K T.answer (held K d)) flow);
        back = both_within (signature_asks K T) (parameters_flow K T.params ts ++ flows K T.answer (held K d)) (signature_asks K (turned S)) (parameters_flow K (turned S).params ts ++ flows K (turned S).answer (held K d))
            (signature_back S T w) (same_within (parameters_flow K T.params ts ++ flows K T.answer (held K d)) (parameters_flow K (turned S).params ts ++ flows K (turned S).answer (held K d)) (sym flow));
      }

  act_alike : (a : Act) (o w : Own) → OwnUnder F o w → Alike a o w
  act_alike (Call j ts d) none none h = by_equal (Call j ts d) none none refl
  act_alike (Call j ts d) none (region q) h = absurd h
  act_alike (Call j ts d) none (signed T) h = absurd h
  act_alike (Call j ts d) (region r) none h = absurd h
  act_alike (Call j ts d) (region r) (region q) h = by_equal (Call j ts d) (region r) (region q) refl
  act_alike (Call j ts d) (region r) (signed T) h = absurd h
  act_alike (Call j ts d) (signed S) none h = absurd h
  act_alike (Call j ts d) (signed S) (region q) h = absurd h
  act_alike (Call j ts d) (signed S) (signed T) h = call_alike j ts d S T h
  act_alike (Borrow k p d) none none h = by_equal (Borrow k p d) none none refl
  act_alike (Borrow k p d) none (region q) h = absurd h
  act_alike (Borrow k p d) none (signed T) h = absurd h
  act_alike (Borrow k p d) (region r) none h = absurd h
  act_alike (Borrow k p d) (region r) (region q) h = by_equal (Borrow k p d) (region r) (region q) (ap (λ x. asks K (Borrow k p d) (region x)) (sym h))
  act_alike (Borrow k p d) (region r) (signed T) h = absurd h
  act_alike (Borrow k p d) (signed S) none h = absurd h
  act_alike (Borrow k p d) (signed S) (region q) h = absurd h
  act_alike (Borrow k p d) (signed S) (signed T) h = by_equal (Borrow k p d) (signed S) (signed T) refl
  act_alike (Declare x) o w h = by_equal (Declare x) o w refl
  act_alike (Dead x) o w h = by_equal (Dead x) o w refl
  act_alike (Read k p d) o w h = by_equal (Read k p d) o w refl
  act_alike (Write p t ss) o w h = by_equal (Write p t ss) o w refl
  act_alike (Test p c) o w h = by_equal (Test p c) o w refl
  act_alike (Build m is ts d) o w h = by_equal (Build m is ts d) o w refl
  act_alike (Input d) o w h = by_equal (Input d) o w refl
  act_alike (Print t) o w h = by_equal (Print t) o w refl
  act_alike (Give t) o w h = by_equal (Give t) o w refl

  all_there : (us : List Action) (os ws : List Own) → AllOwnUnder F os ws → There (all_ask K us (map (own_renamed F) os)) (all_ask K us ws)
  all_there [] os ws h = λ x y k. absurd k
  all_there (a ∷ us) [] [] h = λ x y k. absurd k
  all_there (a ∷ us) [] (w ∷ ws) h = absurd h
  all_there (a ∷ us) (o ∷ os) [] h = absurd h
  all_there (a ∷ us) (o ∷ os) (w ∷ ws) h =
      both_there (asks K a.act (own_renamed F o)) (all_ask K us (map (own_renamed F) os)) (asks K a.act w) (all_ask K us ws) (act_alike a.act o w h.0).there (all_there us os ws h.1)

  all_back : (us : List Action) (os ws : List Own) → AllOwnUnder F os ws → Within (all_ask K us ws) (all_ask K us (map (own_renamed F) os))
  all_back [] os ws h = λ x y k. absurd k
  all_back (a ∷ us) [] [] h = λ x y k. absurd k
  all_back (a ∷ us) [] (w ∷ ws) h = absurd h
  all_back (a ∷ us) (o ∷ os) [] h = absurd h
  all_back (a ∷ us) (o ∷ os) (w ∷ ws) h =
      both_within (asks K a.act w) (all_ask K us ws) (asks K a.act (own_renamed F o)) (all_ask K us (map (own_renamed F) os)) (act_alike a.act o w h.0).back (all_back us os ws h.1)

-- ---- all that is imposed

module _ (F : ℕ → ℕ) (C K : Context) (us : List Action) (reads : ReadsSame K (context_renamed F C)) (fit : Fits C us) (owned : AllOwnUnder F C.lifetimes.owned K.lifetimes.owned) where
  abbrev own : List Own
  own = map (own_renamed F) C.lifetimes.owned

  abbrev rest : List Bound
  rest = formed K 0 K.lifetimes.types

  turned_imposed : all_ask K us own ++ rest ≡ map (bound_renamed F) (imposed C us)
  turned_imposed = (λ j. all_alike K (context_renamed F C) reads us own j ++ formed_alike K (context_renamed F C) reads j) ∙ imposed_same F C us fit

  pub imposed_there : (l k : ℕ) → HasPair (imposed C us) l k → (F l ≡ F k) ⊎ HasPair (imposed K us) (F l) (F k)
  imposed_there l k h = both_there F K (all_ask K us own) rest (all_ask K us K.lifetimes.owned) rest (all_there F K us C.lifetimes.owned K.lifetimes.owned owned) (λ x y v. inr v) (F l) (F k)
      (subst (λ ps. HasPair ps (F l) (F k)) (sym turned_imposed) (bounds_moved F (imposed C us) l k h))

  pub imposed_back : (x y : ℕ) → HasPair (imposed K us) x y → (l k : ℕ) × HasPair (imposed C us) l k × (x ≡ F l) × (y ≡ F k)
  imposed_back x y h =
      let a = both_within F K (all_ask K us K.lifetimes.owned) rest (all_ask K us own) rest (all_back F K us C.lifetimes.owned K.lifetimes.owned owned) (λ u v w. w) x y h in
      let b = bounds_back F (imposed C us) x y (subst (λ ps. HasPair ps x y) turned_imposed a) in
      (b.long, b.short, b.pair, sym b.first, sym b.second)

  -- ---- what is known of its own

  module _ (bounds : AreBoundsUnder F C.lifetimes.bounds K.lifetimes.bounds) where
    types_turned : by_types K ≡ map (bound_renamed F) (by_types C)
    types_turned = by_types_alike K (context_renamed F C) reads ∙ types_told F C

    pub told_there : (l k : ℕ) → HasPair (told C) l k → (F l ≡ F k) ⊎ HasPair (told K) (F l) (F k)
    told_there l k h = elim (has_either C.lifetimes.bounds (by_types C) l k h) [
      | inl a ↦ elim (bounds.kept l k a) [ inl e ↦ inl e | inr b ↦ inr (has_front K.lifetimes.bounds (by_types K) (F l) (F k) b) ]
      | inr a ↦ inr (has_behind K.lifetimes.bounds (by_types K) (F l) (F k) (subst (λ ps. HasPair ps (F l) (F k)) (sym types_turned) (bounds_moved F (by_types C) l k a)))
    ]

    pub told_back : (x y : ℕ) → HasPair (told K) x y → (l k : ℕ) × HasPair (told C) l k × (x ≡ F l) × (y ≡ F k)
    told_back x y h = elim (has_either K.lifetimes.bounds (by_types K) x y h) [
      | inl a ↦ (let r = bounds.only x y a in (r.0, r.1, has_front C.lifetimes.bounds (by_types C) r.0 r.1 r.2, r.3, r.4))
      | inr a ↦ (let b = bounds_back F (by_types C) x y (subst (λ ps. HasPair ps x y) types_turned a) in
          (b.long, b.short, has_behind C.lifetimes.bounds (by_types C) b.long b.short b.pair, sym b.first, sym b.second))
    ]
