-- A pattern that matches a value of the coverage: no test of it fails at what this fills in, and its bindings lead to parts that are
-- there. By induction on patterns.
use Rattle.std.specs.Prelude.{ℤ, int_le}
use Rattle.std.proofs.Common.{◌≡◌, ℕ, zero, suc, ◌+◌, Bool, true, false, ◌&&◌, nat_eq, List, [], ◌∷◌, ◌++◌, Option, Some, refl, sym, subst, ap, ◌∙◌, ◌⊎◌, inl, inr, ⊎_elim, arith, if◌then◌else◌, eqb-true}
use Rattle.rx_core.specs.declared.types.Step.{Step}
use Rattle.rx_typed.specs.Types.{Typ, named, Declarations}
use Rattle.rx_typed.specs.Tree.{Constant, whole_number, Pattern, any, bind, exactly, parts, variant, behind, Subpatterns, no_part, part_and}
use Rattle.rx_typed.specs.Tree as tree
use Rattle.rx_lower_walks.specs.Matching.{has_tag, equals, PartTest, tag_test, tests, tests_in, bindings, bindings_in}
use Rattle.rx_lower_walks.specs.Actions.{Subject, part}
use Rattle.rx_lower_walks.specs.Walks.{Among}
use Rattle.rx_lower_walks.specs.Walks as walk
use Rattle.rx_meaning.specs.Values as meaning
use Rattle.rx_meaning.specs.Values.{Value, State}
use Rattle.rx_meaning.specs.Operators.{same_number, same_truth}
use Rattle.rx_meaning.specs.Acting.{checked}
use Rattle.rx_cover.specs.Values as covering
use Rattle.rx_cover.specs.Matching.{part_of, Matches, MatchParts}
use Rattle.rx_meaning_typed.specs.TypedActs.{typ_behind}
use Rattle.rx_meaning_typed.specs.NoReferences.{HasNoReference}
use Rattle.rx_meaning_typed.proofs.Parts.{some_is}
use Rattle.rx_meaning_covered.specs.Ways.{Leads}
use Rattle.rx_meaning_covered.specs.Arms.{AllOther, AllLead}
use Rattle.rx_meaning_covered.specs.Fitting.{IsNotAmong, PatternFits, PartsFit}
use Rattle.rx_meaning_covered.proofs.Ways.{equal_is, IsTagged}
use Rattle.rx_meaning_covered.proofs.Ranging.{int_self}
use Rattle.rx_meaning_covered.proofs.Sound.{free_below}
use Rattle.rx_meaning_covered.proofs.Filling.{Filled, as_number, as_truth, as_tuple, as_struct, as_variant, as_lack, part_at, parts_in, field_part, filled_field, filled_variant, variant_part}
use Rattle.rx_meaning_covered.proofs.Turns.{other_front, other_behind, lead_both}

-- ---- lists

pub among_both : {A : Type 0} (a : A) (l m : List A) → Among a (l ++ m) → Among a l ⊎ Among a m
among_both a [] m h = inr h
among_both a (b ∷ l) m walk.here = inl walk.here
among_both a (b ∷ l) m (walk.there h) = ⊎_elim (λ g. inl (walk.there g)) (λ g. inr g) (among_both a l m h)

-- ---- parts by their numbers

-- what is asked of a part
asked : (ps : Subpatterns) (k : ℕ) (cs : covering.Values) → MatchParts ps k cs → (i : ℕ) (d : covering.Value) → part_at cs i ≡ Some d → Matches (part_of ps (i + k)) d
asked ps k covering.no_value h i d e = absurd (cc)
asked ps k (covering.value_and c cs) h zero d e = let q : k ≡ 0 + k = omega arith in subst (λ z. Matches (part_of ps z) d) q (subst (λ z. Matches (part_of ps k) z) (some_is e) h.0)
asked ps k (covering.value_and c cs) h (suc i) d e = let q : i + suc k ≡ suc i + k = omega arith in subst (λ z. Matches (part_of ps z) d) q (asked ps (suc k) cs h.1 i d e)

none_asked : (i : ℕ) (ps : Subpatterns) → IsNotAmong i ps → part_of ps i ≡ any
none_asked i no_part h = refl
none_asked i (part_and j p ps) h = by (nat_eq j i) refl (none_asked i ps h.1)
  where
    by : (b : Bool) → nat_eq j i ≡ b → part_of ps i ≡ any → (if b then p else part_of ps i) ≡ any
    by true e g = absurd (h.0 (sym (eqb-true j i e)))
    by false e g = g

-- the other parts
rest_asked : (i : ℕ) (p : Pattern) (ps : Subpatterns) → IsNotAmong i ps → (k : ℕ) (cs : covering.Values) → MatchParts (part_and i p ps) k cs → MatchParts ps k cs
rest_asked i p ps n k covering.no_value h = tt
rest_asked i p ps n k (covering.value_and c cs) h = (by (nat_eq i k) refl h.0, rest_asked i p ps n (suc k) cs h.1)
  where
    by : (b : Bool) → nat_eq i k ≡ b → Matches (if b then p else part_of ps k) c → Matches (part_of ps k) c
    by true e g = subst (λ z. Matches z c) (sym (none_asked k ps (subst (λ z. IsNotAmong z ps) (eqb-true i k e) n))) tt
    by false e g = g

part_asked : (i : ℕ) (p : Pattern) (ps : Subpatterns) (cs : covering.Values) → MatchParts (part_and i p ps) 0 cs → (d : covering.Value) → part_at cs i ≡ Some d → Matches p d
part_asked i p ps cs m d e =
    let q : i + 0 ≡ i = omega arith in
    subst (λ z. Matches (if z then p else part_of ps i) d) (equal_is i i refl) (subst (λ z. Matches (part_of (part_and i p ps) z) d) q (asked (part_and i p ps) 0 cs m i d e))

-- ---- what is matched

parts_matched : (ps : Subpatterns) (c : covering.Value) → Matches (parts ps) c → MatchParts ps 0 (parts_in c)
parts_matched ps (covering.tuple cs) m = m
parts_matched ps (covering.made i cs) m = m
parts_matched ps (covering.number z) m = absurd m
parts_matched ps (covering.truth b) m = absurd m
parts_matched ps (covering.variant i k cs) m = absurd m
parts_matched ps (covering.pointing c) m = absurd m

record VariantIs (i v : ℕ) (ps : Subpatterns) (c : covering.Value) : Type 0 where
  pub parts : covering.Values
  pub is : c ≡ covering.variant i v parts
  pub matched : MatchParts ps 0 parts

variant_matched : (n i : ℕ) (b : Bool) (v : ℕ) (ps : Subpatterns) (c : covering.Value) → Matches (variant n i b v ps) c → VariantIs i v ps c
variant_matched n i b v ps (covering.variant j l cs) m = record { parts = cs; is = cc; matched = m.2 }
variant_matched n i b v ps (covering.number z) m = absurd m
variant_matched n i b v ps (covering.truth x) m = absurd m
variant_matched n i b v ps (covering.tuple cs) m = absurd m
variant_matched n i b v ps (covering.made j cs) m = absurd m
variant_matched n i b v ps (covering.pointing c) m = absurd m

variant_has : (D : Declarations) (t : Typ) (i v : ℕ) (c : covering.Value) (cs : covering.Values) → t ≡ named i → c ≡ covering.variant i v cs → covering.IsOfType D t c → (u : Typ) → typ_behind D t (Step.Variant v) ≡ Some u → covering.IsOfType D u (covering.tuple cs)
variant_has D t i v c cs q e h u g =
    let h1 = subst (λ z. covering.IsOfType D (named i) z) e (subst (λ z. covering.IsOfType D z c) q h) in
    variant_part D i v cs u h1.2 (subst (λ z. typ_behind D z (Step.Variant v) ≡ Some u) q g)

tag_is : {D : Declarations} {w : Value} {t : Typ} {c : covering.Value} → Filled D w t c → (i v : ℕ) (cs : covering.Values) → c ≡ covering.variant i v cs → IsTagged v w
tag_is as_number i v cs e = tt
tag_is as_truth i v cs e = tt
tag_is (as_tuple a) i v cs e = tt
tag_is (as_struct d a) i v cs e = tt
tag_is (as_variant d f a) i v cs e = cc
tag_is as_lack i v cs e = tt

number_same : (x y : ℤ) → x ≡ y → same_number x y ≡ true
number_same x y e = subst (λ z. same_number x z ≡ true) e (ap (λ b. b && int_le x x) (int_self x) ∙ int_self x)

truth_same : (x y : Bool) → x ≡ y → same_truth x y ≡ true
truth_same true true e = refl
truth_same false false e = refl
truth_same true false e = cc
truth_same false true e = cc

not_false : (b : Bool) → b ≡ true → ◌≡◌ {A = Option Bool} (Some b) (Some false) → ⊥
not_false true e g = cc
not_false false e g = cc

-- a test for a constant holds
constant_holds : {D : Declarations} {w : Value} {t : Typ} {c : covering.Value} → Filled D w t c → (n : ℕ) (k : Constant) → Matches (exactly n k) c → checked (equals k) w ≡ Some false → ⊥
constant_holds (as_number {z = y}) n (whole_number k x) m e = not_false (same_number x y) (number_same x y m) e
constant_holds (as_truth {b = b}) n (tree.truth a) m e = not_false (same_truth a b) (truth_same a b m) e
constant_holds as_number n (tree.truth a) m e = absurd m
constant_holds as_truth n (whole_number k x) m e = absurd m
constant_holds (as_tuple a) n (whole_number k x) m e = cc
constant_holds (as_tuple a) n (tree.truth b) m e = cc
constant_holds (as_struct d a) n (whole_number k x) m e = cc
constant_holds (as_struct d a) n (tree.truth b) m e = cc
constant_holds (as_variant d f a) n (whole_number k x) m e = cc
constant_holds (as_variant d f a) n (tree.truth b) m e = cc
constant_holds as_lack n (whole_number k x) m e = cc
constant_holds as_lack n (tree.truth b) m e = cc

-- so does one for a tag
tag_holds : (w : Value) (v : ℕ) → IsTagged v w → checked (has_tag v) w ≡ Some false → ⊥
tag_holds (meaning.tagged j vs) v h e = not_false (nat_eq v j) (subst (λ z. nat_eq v z ≡ true) (sym h) (equal_is v v refl)) e
tag_holds (meaning.number k z) v h e = cc
tag_holds (meaning.truth b) v h e = cc
tag_holds (meaning.whole vs) v h e = cc
tag_holds (meaning.pointer i p m) v h e = cc
tag_holds (meaning.lacking l) v h e = cc

-- ---- by induction on patterns: `Got` is what stands at a way to a part of what is matched, if anything does
module _ (D : Declarations) (TypAt : List Step → Typ → Type 0) (typ_on : (at : List Step) (st : Step) (t u : Typ) → TypAt at t → typ_behind D t st ≡ Some u → TypAt (at ++ st ∷ []) u) (Got : List Step → Option Value)
    (got_on : (at : List Step) (st : Step) (w : Value) → Got (at ++ st ∷ []) ≡ Some w → (v : Value) × (Got at ≡ Some v) × (meaning.part v st ≡ Some w)) where
  abbrev pub Shows : List Step → Typ → covering.Value → Type 0
  Shows at t c = (w : Value) → Got at ≡ Some w → Filled D w t c

  field_shows : (at : List Step) (t : Typ) (c : covering.Value) → Shows at t c → (i : ℕ) (u : Typ) (d : covering.Value) → typ_behind D t (Step.Field i) ≡ Some u → part_at (parts_in c) i ≡ Some d → Shows (at ++ Step.Field i ∷ []) u d
  field_shows at t c h i u d e g w q = let a = got_on at (Step.Field i) w q in filled_field (h a.0 a.1) i w u d a.2 e g

  variant_shows : (at : List Step) (t : Typ) (c : covering.Value) → Shows at t c → (i k : ℕ) (cs : covering.Values) → c ≡ covering.variant i k cs → (u : Typ) → typ_behind D t (Step.Variant k) ≡ Some u → Shows (at ++ Step.Variant k ∷ []) u (covering.tuple cs)
  variant_shows at t c h i k cs q u e w g = let a = got_on at (Step.Variant k) w g in filled_variant (h a.0 a.1) i k cs q w u a.2 e

  -- ---- no test fails
  module _ (Fails : PartTest → Type 0) (told : (x : PartTest) (t : Typ) → TypAt x.steps t → Fails x → (w : Value) × (Got x.steps ≡ Some w) × (checked x.check w ≡ Some false)) where
    variant_fails : (n : ℕ) (b : Bool) (v : ℕ) (qs : List PartTest) (at : List Step) (t : Typ) → TypAt at t → (x : PartTest) → Among x (tag_test b n at v ++ qs) → Fails x → ((w : Value) → Got at ≡ Some w → IsTagged v w)
        → (Among x qs → Fails x → ⊥) → ⊥
    variant_fails n true v qs at t ty _ walk.here bad tag k = let w = told (record { node = n; steps = at; check = has_tag v }) t ty bad in tag_holds w.0 v (tag w.0 w.1) w.2
    variant_fails n true v qs at t ty x (walk.there a) bad tag k = k a bad
    variant_fails n false v qs at t ty x a bad tag k = k a bad

    mutual
      pub none_fails : (p : Pattern) (at : List Step) (t : Typ) (c : covering.Value) → TypAt at t → HasNoReference D t → PatternFits D t p → covering.IsOfType D t c → Shows at t c → Matches p c → (x : PartTest) → Among x (tests at p) → Fails x → ⊥
      none_fails any at t c ty free f h sh m x a bad = elim a [ ]
      none_fails (bind n y o) at t c ty free f h sh m x a bad = elim a [ ]
      none_fails (exactly n k) at t c ty free f h sh m _ walk.here bad = let w = told (record { node = n; steps = at; check = equals k }) t ty bad in constant_holds (sh w.0 w.1) n k m w.2
      none_fails (exactly n k) at t c ty free f h sh m x (walk.there a) bad = elim a [ ]
      none_fails (parts ps) at t c ty free f h sh m x a bad = none_in_fails ps at t c ty free f h sh (parts_matched ps c m) x a bad
      none_fails (variant n i b v ps) at t c ty free f h sh m x a bad =
          let y = variant_matched n i b v ps c m in
          variant_fails n b v (tests_in (at ++ Step.Variant v ∷ []) ps) at t ty x a bad (λ w q. tag_is (sh w q) i v y.parts y.is) (λ a1 b1.
          none_in_fails ps (at ++ Step.Variant v ∷ []) f.2.0 (covering.tuple y.parts) (typ_on at (Step.Variant v) t f.2.0 ty f.2.1) (free_below D t f.2.0 (Step.Variant v) f.2.1 free) f.2.2
          (variant_has D t i v c y.parts f.0 y.is h f.2.0 f.2.1) (variant_shows at t c sh i v y.parts y.is f.2.0 f.2.1) y.matched x a1 b1)
      none_fails (behind o p) at t c ty free f h sh m x a bad = free [] o f.0 (ap (λ z. Some z) f.1)

      none_in_fails : (ps : Subpatterns) (at : List Step) (t : Typ) (c : covering.Value) → TypAt at t → HasNoReference D t → PartsFit D t ps → covering.IsOfType D t c → Shows at t c → MatchParts ps 0 (parts_in c) → (x : PartTest) → Among x (tests_in at ps) → Fails x → ⊥
      none_in_fails no_part at t c ty free f h sh m x a bad = elim a [ ]
      none_in_fails (part_and i p ps) at t c ty free f h sh m x a bad =
          let d = field_part D t c h i f.1.0 f.1.1 in
          ⊎_elim
          (λ g. none_fails p (at ++ Step.Field i ∷ []) f.1.0 d.0 (typ_on at (Step.Field i) t f.1.0 ty f.1.1) (free_below D t f.1.0 (Step.Field i) f.1.1 free) f.1.2 d.2 (field_shows at t c sh i f.1.0 d.0 f.1.1 d.1) (part_asked i p ps (parts_in c) m d.0 d.1) x g bad)
          (λ g. none_in_fails ps at t c ty free f.2 h sh (rest_asked i p ps f.0 0 (parts_in c) m) x g bad)
          (among_both x (tests (at ++ Step.Field i ∷ []) p) (tests_in at ps) a)

  -- ---- what it binds leads to parts that are there
  module _ (S : Subject) (vs : List Value) (s : State) (to_field : (at : List Step) (i : ℕ) → Leads (part S at) vs s → Leads (part S (at ++ Step.Field i ∷ [])) vs s)
      (to_variant : (at : List Step) (v : ℕ) → Leads (part S at) vs s → ((w : Value) → Got at ≡ Some w → IsTagged v w) → Leads (part S (at ++ Step.Variant v ∷ [])) vs s) where
    mutual
      pub all_lead : (p : Pattern) (at : List Step) (t : Typ) (c : covering.Value) → HasNoReference D t → PatternFits D t p → covering.IsOfType D t c → Shows at t c → Matches p c → AllOther S (bindings at p) → Leads (part S at) vs s → AllLead S vs s (bindings at p)
      all_lead any at t c free f h sh m o l = tt
      all_lead (bind n y k) at t c free f h sh m o l = ((l, o.0), tt)
      all_lead (exactly n k) at t c free f h sh m o l = tt
      all_lead (parts ps) at t c free f h sh m o l = all_in_lead ps at t c free f h sh (parts_matched ps c m) o l
      all_lead (variant n i b v ps) at t c free f h sh m o l =
          let y = variant_matched n i b v ps c m in
          all_in_lead ps (at ++ Step.Variant v ∷ []) f.2.0 (covering.tuple y.parts) (free_below D t f.2.0 (Step.Variant v) f.2.1 free) f.2.2 (variant_has D t i v c y.parts f.0 y.is h f.2.0 f.2.1)
          (variant_shows at t c sh i v y.parts y.is f.2.0 f.2.1) y.matched o (to_variant at v l (λ w q. tag_is (sh w q) i v y.parts y.is))
      all_lead (behind k p) at t c free f h sh m o l = absurd (free [] k f.0 (ap (λ z. Some z) f.1))

      all_in_lead : (ps : Subpatterns) (at : List Step) (t : Typ) (c : covering.Value) → HasNoReference D t → PartsFit D t ps → covering.IsOfType D t c → Shows at t c → MatchParts ps 0 (parts_in c) → AllOther S (bindings_in at ps) → Leads (part S at) vs s
          → AllLead S vs s (bindings_in at ps)
      all_in_lead no_part at t c free f h sh m o l = tt
      all_in_lead (part_and i p ps) at t c free f h sh m o l =
          let d = field_part D t c h i f.1.0 f.1.1 in
          let below = at ++ Step.Field i ∷ [] in
          lead_both S vs s (bindings below p) (bindings_in at ps)
          (all_lead p below f.1.0 d.0 (free_below D t f.1.0 (Step.Field i) f.1.1 free) f.1.2 d.2 (field_shows at t c sh i f.1.0 d.0 f.1.1 d.1) (part_asked i p ps (parts_in c) m d.0 d.1) (other_front S (bindings below p) (bindings_in at ps) o) (to_field at i l))
          (all_in_lead ps at t c free f.2 h sh (rest_asked i p ps f.0 0 (parts_in c) m) (other_behind S (bindings below p) (bindings_in at ps) o) l)
