-- Assignments that have the same types, or the same outlines, at all that a fact names meet it together.
use Rattle.std.proofs.Common.{◌≡◌, IsTrue, List, [], ◌∷◌, ◌++◌, Some, refl, sym, ap, ◌∙◌, subst}
use Rattle.rx_typed.specs.Types.{outline, peeled}
use Rattle.rx_typeck_solver.specs.declared.facts.Subject.{Subject}
use Rattle.rx_typeck_solver.specs.declared.facts.Subject.TheVariants as subject
use Rattle.rx_typeck_solver.specs.declared.facts.Passing.{Passing}
use Rattle.rx_typeck_solver.specs.declared.facts.Test.{Test}
use Rattle.rx_typeck_solver.specs.declared.facts.Fact.{Fact}
use Rattle.rx_typeck_solver.specs.declared.facts.Fact.TheVariants as fact
use Rattle.rx_typeck_solver.specs.declared.facts.Demand.{Demand}
use Rattle.rx_typeck_solver.specs.Facts.{Assignment, KnownItems, gone_through, passed, types_at, outlines_at, made, holds, Meets, MeetsAll, MeetsEach}
use Rattle.rx_typeck_solver.proofs.Natural.{gone_map}
use Rattle.rx_engine_blocks.specs.Parts.{EachOf, EachPassing, About, AllAbout, EachAbout}

module _ (D : KnownItems) (A B : Assignment) (P : Subject → Type 0) where
  module _ (o : (x : Subject) → P x → outline (A x) ≡ outline (B x)) where
    outlines_same : (xs : List Subject) → EachOf P xs → outlines_at A xs ≡ outlines_at B xs
    outlines_same [] h = refl
    outlines_same (x ∷ xs) h = ap (λ t. t ∷ outlines_at A xs) (o x h.0) ∙ ap (λ ts. outline (B x) ∷ ts) (outlines_same xs h.1)

    gone_same : (p : Passing) → P (subject.Node p.node) → gone_through p.all (A (subject.Node p.node)) ≡ gone_through p.all (B (subject.Node p.node))
    gone_same p h = sym (gone_map (λ k. tt) p.all (A (subject.Node p.node))) ∙ ap (gone_through p.all) (o (subject.Node p.node) h) ∙ gone_map (λ k. tt) p.all (B (subject.Node p.node))

    pub passed_same : (ps : List Passing) → EachPassing P ps → passed A ps ≡ passed B ps
    passed_same [] h = refl
    passed_same (p ∷ ps) h = ap (λ ms. ms ++ passed A ps) (gone_same p h.0) ∙ ap (λ ms. gone_through p.all (B (subject.Node p.node)) ++ ms) (passed_same ps h.1)

    -- a test depends on outlines alone
    pub test_same : (t : Test) (xs : List Subject) (ps qs : List Passing) → About P (fact.Passes t xs ps qs) → Meets D A (fact.Passes t xs ps qs) → Meets D B (fact.Passes t xs ps qs)
    test_same t xs ps qs q h = subst IsTrue (ap (λ ts. holds D t ts (passed A ps) (passed A qs)) (outlines_same xs q.0)
        ∙ ap (λ ms. holds D t (outlines_at B xs) ms (passed A qs)) (passed_same ps q.1) ∙ ap (holds D t (outlines_at B xs) (passed B ps)) (passed_same qs q.2)) h

  module _ (same : (x : Subject) → P x → A x ≡ B x) where
    pub its_outline : (x : Subject) → P x → outline (A x) ≡ outline (B x)
    its_outline x h = ap outline (same x h)

    pub types_same : (xs : List Subject) → EachOf P xs → types_at A xs ≡ types_at B xs
    types_same [] h = refl
    types_same (x ∷ xs) h = ap (λ t. t ∷ types_at A xs) (same x h.0) ∙ ap (λ ts. B x ∷ ts) (types_same xs h.1)

    fact_same : (f : Fact) → About P f → Meets D A f → Meets D B f
    fact_same (fact.Equals x w xs ps) q h = sym (ap (λ ts. made (λ k. k) D.items w ts (passed A ps)) (types_same xs q.1)
        ∙ ap (made (λ k. k) D.items w (types_at B xs)) (passed_same its_outline ps q.2)) ∙ h ∙ ap Some (same x q.0)
    fact_same (fact.Integer n s) q h = (h.0, sym (same (subject.Node n) q) ∙ h.1, h.2)
    fact_same (fact.IntegerBehind n s) q h = (h.0, sym (ap peeled (same (subject.Node n) q)) ∙ h.1, h.2)
    fact_same (fact.Passes t xs ps qs) q h = test_same its_outline t xs ps qs q h
    fact_same fact.Never q h = h

    pub all_same : (fs : List Fact) → AllAbout P fs → MeetsAll D A fs → MeetsAll D B fs
    all_same [] q h = tt
    all_same (f ∷ fs) q h = (fact_same f q.0 h.0, all_same fs q.1 h.1)

    pub each_same : (ds : List Demand) → EachAbout P ds → MeetsEach D A ds → MeetsEach D B ds
    each_same [] q h = tt
    each_same (d ∷ ds) q h = (all_same d.facts q.0 h.0, each_same ds q.1 h.1)

-- each fact is about something
abbrev pub Anything : Subject → Type 0
Anything x = Unit {0}

any_of : (xs : List Subject) → EachOf Anything xs
any_of [] = tt
any_of (x ∷ xs) = (tt, any_of xs)

any_passing : (ps : List Passing) → EachPassing Anything ps
any_passing [] = tt
any_passing (p ∷ ps) = (tt, any_passing ps)

pub test_anywhere : (D : KnownItems) (A B : Assignment) → ((x : Subject) → outline (A x) ≡ outline (B x)) → (t : Test) (xs : List Subject) (ps qs : List Passing)
    → Meets D A (fact.Passes t xs ps qs) → Meets D B (fact.Passes t xs ps qs)
test_anywhere D A B o t xs ps qs h = test_same D A B Anything (λ x _. o x) t xs ps qs (any_of xs, any_passing ps, any_passing qs) h
