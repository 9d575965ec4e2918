-- Facts along a numbering where the answer has some subjects as shared references.
use Rattle.std.proofs.Common.{◌≡◌, Bool, true, false, List, [], ◌∷◌, map, Option, Some, refl, sym, ap, ◌∙◌, subst}
use Rattle.rx_typed.specs.Types.{integer, boolean, tuple_of, reference, named, Typ, outline}
use Rattle.rx_typeck_solver.specs.declared.facts.Subject.{Subject}
use Rattle.rx_typeck_solver.specs.declared.facts.Passing.{Passing}
use Rattle.rx_typeck_solver.specs.declared.facts.Op.{Op}
use Rattle.rx_typeck_solver.specs.declared.facts.Op.TheVariants as op
use Rattle.rx_typeck_solver.specs.declared.facts.Fact.{Fact}
use Rattle.rx_typeck_solver.specs.declared.facts.Fact.TheVariants as fact
use Rattle.rx_typeck_solver.specs.Facts.{Assignment, KnownItems, coerced, pointee, field_of, part_of, made, MeetsAll}
use Rattle.rx_engine_blocks.specs.Renumbering.{Renumbering, shape_at, subject_at, passing_at, op_at, fact_at}
use Rattle.rx_engine_blocks.specs.DemandsLike.{FactsLike}
use Rattle.rx_engine_blocks.specs.DemandsLike.FactLike.{like_fact}
use Rattle.rx_engine_blocks.specs.DemandsLike.FactsLike.{like_no_fact, like_more_facts}
use Rattle.rx_engine_blocks.specs.Knows.{Knows}
use Rattle.rx_engine_blocks.specs.Along.{PartialInverse, Viewed, none_viewed, Sees, MutableAt, shared, composed}
use Rattle.rx_engine_blocks.specs.Untested.{no_tests}
use Rattle.rx_engine_blocks.specs.Parts.{EachOf, EachPassing, About, AllAbout}
use Rattle.rx_engine_blocks.specs.Copies.{Steps, AllTests}
use Rattle.rx_engine_blocks.specs.Copies.Steps.{to_field, to_part, to_pointee}
use Rattle.rx_engine_blocks.proofs.Meets.{all_there, all_back, shape_apart}
use Rattle.rx_engine_blocks.proofs.Same.{all_same, test_anywhere}
use Rattle.rx_engine_blocks.proofs.Outlines.{composed_along}
use Rattle.rx_engine_blocks.proofs.Viewing.{peeled_shared}

-- ---- what facts are about, along the numbering

module _ (r : Renumbering) (Q P : Subject → Type 0) (so : (x : Subject) → Q x → P (subject_at r x)) where
  each_there : (xs : List Subject) → EachOf Q xs → EachOf P (map (subject_at r) xs)
  each_there [] h = tt
  each_there (x ∷ xs) h = (so x h.0, each_there xs h.1)

  passing_there : (ps : List Passing) → EachPassing Q ps → EachPassing P (map (passing_at r) ps)
  passing_there [] h = tt
  passing_there (p ∷ ps) h = (so _ h.0, passing_there ps h.1)

  about_there : (f : Fact) → About Q f → About P (fact_at r f)
  about_there (fact.Equals x o xs ps) h = (so x h.0, each_there xs h.1, passing_there ps h.2)
  about_there (fact.Integer n s) h = so _ h
  about_there (fact.IntegerBehind n s) h = so _ h
  about_there (fact.Passes t xs ps qs) h = (each_there xs h.0, passing_there ps h.1, passing_there qs h.2)
  about_there fact.Never h = tt

  all_about_there : {fs fs' : List Fact} → FactsLike r fs fs' → AllAbout Q fs → AllAbout P fs'
  all_about_there like_no_fact h = tt
  all_about_there (like_more_facts (like_fact {f = f}) l) h = (about_there f h.0, all_about_there l h.1)

-- ---- steps see through what is shared

pointee_shared : (b : Bool) (t : Typ) → pointee (shared b t) ≡ pointee t
pointee_shared true (reference m t) = refl
pointee_shared true (integer k) = refl
pointee_shared true boolean = refl
pointee_shared true (tuple_of ts) = refl
pointee_shared true (named i) = refl
pointee_shared false t = refl

steps_shared : (D : KnownItems) (r : Renumbering) {o : Op} → Steps o → (b : Bool) (t : Typ) → made (λ k. k) D.items (op_at r o) (shared b t ∷ []) [] ≡ made (λ k. k) D.items (op_at r o) (t ∷ []) []
steps_shared D r (to_field {x = x}) b t = ap (field_of (λ k. k) D.items x) (peeled_shared b t)
steps_shared D r (to_part {k = k}) b t = ap (part_of k) (peeled_shared b t)
steps_shared D r to_pointee b t = pointee_shared b t

some_same : (t v : Typ) → ◌≡◌ {A = Option Typ} (Some t) (Some v) → t ≡ v
some_same t v e = cc

inside : (m : Bool) (t v : Typ) → reference m t ≡ reference m v → t ≡ v
inside m t v e = cc

coerced_shared : (t e : Typ) → coerced (reference true t) (reference false e) ≡ reference true t → e ≡ t
coerced_shared t e h = inside true e t h

module _ (r : Renumbering) (u : PartialInverse r) (view : Viewed) (D D' : KnownItems) (known : Knows r D D') (B C : Assignment) (sees : Sees r view B C) where
  -- the assignment of the answer if nothing were viewed
  abbrev straight : Assignment
  straight = composed r u none_viewed B C

  straight_same : (x : Subject) → view x ≡ false → C (subject_at r x) ≡ straight (subject_at r x)
  straight_same x h = sees x ∙ ap (λ b. shared b (shape_at r (B x))) h ∙ sym (composed_along r u B C x)

  seen_true : (x : Subject) → view x ≡ true → (t : Typ) → B x ≡ reference true t → C (subject_at r x) ≡ reference false (shape_at r t)
  seen_true x h t e = sees x ∙ ap (λ b. shared b (shape_at r (B x))) h ∙ ap (λ p. shared true (shape_at r p)) e

  -- about nothing that is viewed
  pub plain_there : {fs fs' : List Fact} → FactsLike r fs fs' → AllAbout (λ x. view x ≡ false) fs → MeetsAll D B fs → MeetsAll D' C fs'
  plain_there {fs} {fs'} l a h = all_same D' straight C (λ y. C y ≡ straight y) (λ y e. sym e) fs' (all_about_there r (λ x. view x ≡ false) (λ y. C y ≡ straight y) straight_same l a)
      (all_there r D D' known B straight (composed_along r u B C) l h)

  pub plain_back : {fs fs' : List Fact} → FactsLike r fs fs' → AllAbout (λ x. view x ≡ false) fs → MeetsAll D' C fs' → MeetsAll D B fs
  plain_back {fs} {fs'} l a h = all_back r D D' known B straight (composed_along r u B C) l
      (all_same D' C straight (λ y. C y ≡ straight y) (λ y e. e) fs' (all_about_there r (λ x. view x ≡ false) (λ y. C y ≡ straight y) straight_same l a) h)

  -- a step from one that may be viewed
  step_made : (y : Subject) (o : Op) → Steps o → made (λ k. k) D'.items (op_at r o) (C (subject_at r y) ∷ []) [] ≡ made (λ k. k) D'.items (op_at r o) (straight (subject_at r y) ∷ []) []
  step_made y o s = ap (λ t. made (λ k. k) D'.items (op_at r o) (t ∷ []) []) (sees y) ∙ steps_shared D' r s (view y) (shape_at r (B y))
      ∙ sym (ap (λ t. made (λ k. k) D'.items (op_at r o) (t ∷ []) []) (composed_along r u B C y))

  abbrev step_fact : Subject → Op → Subject → List Fact
  step_fact x o y = fact.Equals x o (y ∷ []) [] ∷ []

  like_step : (x y : Subject) (o : Op) → FactsLike r (step_fact x o y) (step_fact (subject_at r x) (op_at r o) (subject_at r y))
  like_step x y o = like_more_facts like_fact like_no_fact

  pub step_there : (x y : Subject) (o : Op) → Steps o → view x ≡ false → MeetsAll D B (step_fact x o y) → MeetsAll D' C (step_fact (subject_at r x) (op_at r o) (subject_at r y))
  step_there x y o s v h = let k = all_there r D D' known B straight (composed_along r u B C) (like_step x y o) h in
      (step_made y o s ∙ k.0 ∙ ap Some (sym (straight_same x v)), tt)

  pub step_back : (x y : Subject) (o : Op) → Steps o → view x ≡ false → MeetsAll D' C (step_fact (subject_at r x) (op_at r o) (subject_at r y)) → MeetsAll D B (step_fact x o y)
  step_back x y o s v h = all_back r D D' known B straight (composed_along r u B C) (like_step x y o) (sym (step_made y o s) ∙ h.0 ∙ ap Some (straight_same x v), tt)

  -- two that are viewed
  pub viewed_there : (x y : Subject) → view x ≡ true → view y ≡ true → MeetsAll D B (step_fact x op.Same y) → MeetsAll D' C (step_fact (subject_at r x) op.Same (subject_at r y))
  viewed_there x y v w h = (
    ap Some (sees y ∙ ap (λ b. shared b (shape_at r (B y))) w ∙ ap (λ t. shared true (shape_at r t)) (some_same _ _ h.0)
        ∙ sym (sees x ∙ ap (λ b. shared b (shape_at r (B x))) v)),
    tt,
  )

  module _ (mutable : MutableAt view B) where
    pub viewed_back : (x y : Subject) → view x ≡ true → view y ≡ true → MeetsAll D' C (step_fact (subject_at r x) op.Same (subject_at r y)) → MeetsAll D B (step_fact x op.Same y)
    viewed_back x y v w h =
        let m = mutable x v in
        let n = mutable y w in
        let i = inside false _ _ (sym (seen_true y w n.0 n.1) ∙ some_same _ _ h.0 ∙ seen_true x v m.0 m.1) in
        (ap Some (n.1 ∙ ap (reference true) (shape_apart r D D' known n.0 m.0 i) ∙ sym m.1), tt)

    -- one that is viewed, where a shared reference is expected
    abbrev shared_fact : Subject → Subject → List Fact
    shared_fact x e = fact.Equals x op.Coerced (x ∷ e ∷ []) [] ∷ []

    pub shared_there : (x e : Subject) (t : Typ) → view x ≡ true → view e ≡ false → B e ≡ reference false t → MeetsAll D B (shared_fact x e) → MeetsAll D' C (shared_fact (subject_at r x) (subject_at r e))
    shared_there x e t v w i h =
        let m = mutable x v in
        let j = coerced_shared m.0 t (subst (λ p. coerced p (reference false t) ≡ p) m.1 (subst (λ p. coerced (B x) p ≡ B x) i (some_same _ _ h.0))) in
        let a = seen_true x v m.0 m.1 in
        let b = straight_same e w ∙ composed_along r u B C e ∙ ap (shape_at r) (i ∙ ap (reference false) j) in
        (ap Some (ap (λ p. coerced p (C (subject_at r e))) a ∙ ap (coerced (reference false (shape_at r m.0))) b ∙ sym a), tt)

    pub shared_back : (x e : Subject) (t : Typ) → view x ≡ true → view e ≡ false → B e ≡ reference false t → MeetsAll D' C (shared_fact (subject_at r x) (subject_at r e)) → MeetsAll D B (shared_fact x e)
    shared_back x e t v w i h =
        let m = mutable x v in
        let a = seen_true x v m.0 m.1 in
        let b = straight_same e w ∙ composed_along r u B C e ∙ ap (shape_at r) i in
        let k = subst (λ p. coerced p (reference false (shape_at r t)) ≡ p) a (subst (λ p. coerced (C (subject_at r x)) p ≡ C (subject_at r x)) b (some_same _ _ h.0)) in
        let j : t ≡ m.0 = shape_apart r D D' known t m.0 (inside false _ _ k) in
        (ap Some (ap (coerced (B x)) i ∙ ap (λ p. coerced p (reference false t)) m.1 ∙ ap (reference true) j ∙ sym m.1), tt)

-- ---- tests alone

pub tests_there : (r : Renumbering) (D' : KnownItems) (C : Assignment) {fs fs' : List Fact} → FactsLike r fs fs' → AllTests fs → MeetsAll D' C (no_tests fs')
tests_there r D' C like_no_fact a = tt
tests_there r D' C (like_more_facts (like_fact {f = fact.Passes t xs ps qs}) l) a = tests_there r D' C l a
tests_there r D' C (like_more_facts (like_fact {f = fact.Equals x o xs ps}) l) a = absurd a
tests_there r D' C (like_more_facts (like_fact {f = fact.Integer n s}) l) a = absurd a
tests_there r D' C (like_more_facts (like_fact {f = fact.IntegerBehind n s}) l) a = absurd a
tests_there r D' C (like_more_facts (like_fact {f = fact.Never}) l) a = absurd a

pub tests_back : (D : KnownItems) (A B : Assignment) → ((x : Subject) → outline (A x) ≡ outline (B x)) → (fs : List Fact) → AllTests fs → MeetsAll D A fs → MeetsAll D B fs
tests_back D A B o [] a h = tt
tests_back D A B o (fact.Passes t xs ps qs ∷ fs) a h = (test_anywhere D A B o t xs ps qs h.0, tests_back D A B o fs a h.1)
tests_back D A B o (_ ∷ fs) a h = absurd a
