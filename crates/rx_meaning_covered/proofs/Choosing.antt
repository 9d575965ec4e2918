-- Where a choice is covered by the type of what is matched, its tests and bindings lead to parts that are there, and some arm's tests
-- hold: at a state whose values are of their types, without references, and whose integers are in their ranges.
use Rattle.std.proofs.Common.{◌≡◌, ℕ, true, false, List, [], ◌∷◌, ◌++◌, Option, Some, None, refl, sym, subst, ◌∙◌, inl, inr, append-nil}
use Rattle.rx_core.specs.declared.types.Step.{Step}
use Rattle.rx_typed.specs.Types.{Typ, named, Declarations}
use Rattle.rx_typed.specs.Tree.{Place, under, Pattern, Arms, no_arm, arm_and}
use Rattle.rx_typed.specs.Elaborated.{has_several}
use Rattle.rx_lower_walks.specs.Matching.{has_tag, PartTest, tests, bindings}
use Rattle.rx_lower_walks.specs.Actions.{Test, Subject, part}
use Rattle.rx_meaning.specs.Values.{Value, truth, State}
use Rattle.rx_meaning.specs.Results.{gives}
use Rattle.rx_meaning.specs.Acting.{checked}
use Rattle.rx_cover.specs.Values as covering
use Rattle.rx_cover.specs.Matching.{SomeMatches, Covers}
use Rattle.rx_cover.specs.Choices.{patterns_of}
use Rattle.rx_meaning_keeping.specs.Keeping.{AllFail}
use Rattle.rx_meaning_keeping.specs.Strict.{does_strictly, strictly}
use Rattle.rx_meaning_typed.specs.TypedActs.{Typing, typ_behind, typ_along, root_typ, place_typ}
use Rattle.rx_meaning_typed.specs.ValueTypes.{Store, MemoryTyped}
use Rattle.rx_meaning_typed.specs.NoReferences.{HasNoReference}
use Rattle.rx_meaning_typed.proofs.Parts.{some_is, split}
use Rattle.rx_meaning_typed.proofs.Stores.{RootHeld, SlotsTyped}
use Rattle.rx_meaning_covered.specs.Ways.{HasNoVariant, IsHeld, Leads}
use Rattle.rx_meaning_covered.specs.Arms.{Holds, InTurn, AllOther, AllLead, HasArm}
use Rattle.rx_meaning_covered.specs.Fitting.{PatternFits}
use Rattle.rx_meaning_covered.specs.Ranged.{AllRanged, IsInhabited}
use Rattle.rx_meaning_covered.specs.Covered.{ArmsFit}
use Rattle.rx_meaning_covered.proofs.Ways.{direct_leads, IsTagged}
use Rattle.rx_meaning_covered.proofs.Sound.{plain_along, free_below}
use Rattle.rx_meaning_covered.proofs.Turns.{arm_in_turn}
use Rattle.rx_meaning_covered.proofs.Filling.{Filled, filled}
use Rattle.rx_meaning_covered.proofs.Passing.{none_fails, all_lead}
use Rattle.rx_meaning_covered.proofs.Getting.{Got, found_got, got_typed, RootRanged, got_ranged, test_gave, typ_on, to_field, to_variant, got_on, tested_tag, only_tag}

free_along : (D : Declarations) (ss : List Step) (r t : Typ) → typ_along D r ss ≡ Some t → HasNoReference D r → HasNoReference D t
free_along D [] r t e free = subst (λ z. HasNoReference D z) (some_is e) free
free_along D (s ∷ ss) r t e free = let a = split (typ_behind D r s) (λ z. typ_along D z ss) t e in free_along D ss a.0 t a.2 (free_below D r a.0 s a.1 free)

-- what is matched stands at this place
module _ (T : Typing) (St : Store) (s : State) (memory : MemoryTyped false T.declared St s.memory) (variables : SlotsTyped false T St s.frame.slots) (ranged : AllRanged s.memory)
    (S : Subject) (B : Place) (same : (at : List Step) → part S at ≡ under B at) (vs : List Value) (free : HasNoReference T.declared (root_typ T B.root)) (given : RootHeld false T St B.root vs) (in_range : RootRanged B.root vs) (is_held : IsHeld B.root vs) (direct : HasNoVariant B.steps) where
  abbrev TypAt : List Step → Typ → Type 0
  TypAt at t = place_typ T (under B at) ≡ Some t

  abbrev GotAt : List Step → Option Value
  GotAt at = Got (under B at) vs s

  here : (at : List Step) → Leads (part S at) vs s → Leads (under B at) vs s
  here at h = subst (λ z. Leads z vs s) (same at) h

  back : (at : List Step) → Leads (under B at) vs s → Leads (part S at) vs s
  back at h = subst (λ z. Leads z vs s) (sym (same at)) h

  on_field : (at : List Step) (i : ℕ) → Leads (part S at) vs s → Leads (part S (at ++ Step.Field i ∷ [])) vs s
  on_field at i h = back (at ++ Step.Field i ∷ []) (to_field B vs s at i (here at h))

  on_variant : (at : List Step) (v : ℕ) → Leads (part S at) vs s → ((w : Value) → GotAt at ≡ Some w → IsTagged v w) → Leads (part S (at ++ Step.Variant v ∷ [])) vs s
  on_variant at v h k = back (at ++ Step.Variant v ∷ []) (to_variant B vs s at v (here at h) k)

  on_tested : (at : List Step) (t : Typ) (n v : ℕ) → TypAt at t → Leads (part S at) vs s → Holds strictly S vs s (record { node = n; steps = at; check = has_tag v }) → Leads (part S (at ++ Step.Variant v ∷ [])) vs s
  on_tested at t n v ty l h = on_variant at v l (tested_tag T B vs s at t v h.0 s free ty (subst (λ z. does_strictly (Test z (has_tag v)) vs s ≡ gives h.0 (truth true) s) (same at) h.1))

  on_only : (at : List Step) (i v : ℕ) (u : Typ) → TypAt at (named i) → has_several T.declared i ≡ false → typ_behind T.declared (named i) (Step.Variant v) ≡ Some u → Leads (part S at) vs s → Leads (part S (at ++ Step.Variant v ∷ [])) vs s
  on_only at i v u ty one e l = on_variant at v l (only_tag false T St s memory variables (under B at) vs given i v u ty one e)

  at_start : Leads (part S []) vs s
  at_start = back [] (direct_leads (under B []) vs s (subst HasNoVariant (sym (append-nil B.steps)) direct) is_held)

  module _ (t : Typ) (ty : TypAt [] t) where
    free_here : HasNoReference T.declared t
    free_here = free_along T.declared (B.steps ++ []) (root_typ T B.root) t ty free

    pub turns : (p : Pattern) → PatternFits T.declared t p → AllOther S (bindings [] p) → InTurn strictly S vs s (tests [] p) (AllLead S vs s (bindings [] p))
    turns p f o = arm_in_turn T.declared strictly S vs s TypAt (typ_on T B) on_field on_tested on_only p t ty free_here f o at_start

    -- the value that stands there, as one of the coverage
    record Shown : Type 0 where
      pub value : covering.Value
      pub has : covering.IsOfType T.declared t value
      pub shows : (w : Value) → GotAt [] ≡ Some w → Filled T.declared w t value

    shown : IsInhabited T.declared t → Shown
    shown h = by (GotAt []) refl
      where
        by : (o : Option Value) → GotAt [] ≡ o → Shown
        by None e = let a = h [] t refl in record { value = a.0; has = a.1; shows = λ w q. absurd (cc) }
        by (Some v) e =
            let a = filled false T.declared St (got_typed false T St s memory variables (under B []) vs t v given ty e) (got_ranged (under B []) vs s v ranged in_range e) (free_here, h) in
            record { value = a.0; has = a.1; shows = λ w q. subst (λ z. Filled T.declared z t a.0) (some_is (sym e ∙ q)) a.2 }

    -- a test that fails
    abbrev Fails : PartTest → Type 0
    Fails x = (u : List ℕ) × (does_strictly (Test (part S x.steps) x.check) vs s ≡ gives u (truth false) s)

    told : (x : PartTest) (u : Typ) → TypAt x.steps u → Fails x → (w : Value) × (GotAt x.steps ≡ Some w) × (checked x.check w ≡ Some false)
    told x u tx h =
        let f = test_gave (under B x.steps) x.check vs s h.0 false s (subst (λ z. does_strictly (Test z x.check) vs s ≡ gives h.0 (truth false) s) (same x.steps) h.1) in
        (f.0.1, found_got (under B x.steps) vs s f.0 (plain_along T.declared (B.steps ++ x.steps) (root_typ T B.root) u tx free) f.1, f.2)

    no_match : (c : Shown) (l : Arms) → ArmsFit T.declared S t l → AllFail strictly S vs s l → SomeMatches (patterns_of l) c.value → ⊥
    no_match c no_arm f a m = m
    no_match c (arm_and p e l) f a (inl m) =
        none_fails T.declared TypAt (typ_on T B) GotAt (got_on B vs s) Fails told p [] t c.value ty free_here f.0.0 c.has c.shows m a.0.0 a.0.1 (a.0.2, a.0.3)
    no_match c (arm_and p e l) f a (inr m) = no_match c l f.1 a.1 m

    -- some arm takes it
    pub some_arm : (l : Arms) → ArmsFit T.declared S t l → Covers T.declared t (patterns_of l) → IsInhabited T.declared t → AllFail strictly S vs s l → ⊥
    some_arm l f covers h a = let c = shown h in no_match c l f a (covers c.value c.has)

    -- one that is covered alone leads to what it binds
    pub alone : (p : Pattern) → PatternFits T.declared t p → AllOther S (bindings [] p) → Covers T.declared t (p ∷ []) → IsInhabited T.declared t → AllLead S vs s (bindings [] p)
    alone p f o covers h = let c = shown h in by c (covers c.value c.has)
      where
        by : (c : Shown) → SomeMatches (p ∷ []) c.value → AllLead S vs s (bindings [] p)
        by c (inl m) = all_lead T.declared TypAt (typ_on T B) GotAt (got_on B vs s) S vs s on_field on_variant p [] t c.value free_here f c.has c.shows m o at_start
        by c (inr m) = absurd m

-- ---- an arm of several

pub arm_fits : (D : Declarations) (S : Subject) (t : Typ) (l : Arms) → ArmsFit D S t l → (p : Pattern) → HasArm p l → PatternFits D t p × AllOther S (bindings [] p)
arm_fits D S t no_arm f p h = absurd h
arm_fits D S t (arm_and q e l) f p (inl h) = subst (λ z. PatternFits D t z × AllOther S (bindings [] z)) (sym h) f.0
arm_fits D S t (arm_and q e l) f p (inr h) = arm_fits D S t l f.1 p h
