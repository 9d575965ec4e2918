-- Demands that are copied are a block.
use Rattle.std.proofs.Common.{◌≡◌, false, List, [], ◌∷◌, ◌++◌, refl, ap, sym, ◌∙◌, subst}
use Rattle.rx_typeck_solver.specs.declared.facts.Subject.{Subject}
use Rattle.rx_typeck_solver.specs.declared.facts.Passing.{Passing}
use Rattle.rx_typeck_solver.specs.declared.facts.Op.TheVariants as op
use Rattle.rx_typeck_solver.specs.declared.facts.Fact.{Fact}
use Rattle.rx_typeck_solver.specs.declared.facts.Fact.TheVariants as fact
use Rattle.rx_typeck_solver.specs.declared.facts.Demand.{Demand}
use Rattle.rx_typed.specs.Types.{outline}
use Rattle.rx_typeck_solver.specs.Facts.{Assignment, KnownItems, MeetsAll}
use Rattle.rx_engine_blocks.specs.Renumbering.{Renumbering, fact_at}
use Rattle.rx_engine_blocks.specs.DemandsLike.{Is, FactsLike, DemandLike, DemandsLike}
use Rattle.rx_engine_blocks.specs.DemandsLike.Is.{itself}
use Rattle.rx_engine_blocks.specs.DemandsLike.FactLike.{like_fact}
use Rattle.rx_engine_blocks.specs.DemandsLike.FactsLike.{like_no_fact, like_more_facts}
use Rattle.rx_engine_blocks.specs.DemandsLike.DemandsLike.{like_no_demand, like_more_demands, like_other_demands}
use Rattle.rx_engine_blocks.specs.Knows.{Knows}
use Rattle.rx_engine_blocks.specs.Along.{PartialInverse, Viewed, none_viewed, MutableAt, composed}
use Rattle.rx_engine_blocks.specs.Untested.{no_tests}
use Rattle.rx_engine_blocks.specs.Parts.{AllAbout, EachOf, EachPassing, About}
use Rattle.rx_engine_blocks.specs.Copies.{CopiesWell, EachCopies}
use Rattle.rx_engine_blocks.specs.Copies.CopiesWell.{plainly, tests, both_viewed, a_step, becomes_shared}
use Rattle.rx_engine_blocks.specs.Blocks.{Behind, Tied, Block}
use Rattle.rx_engine_blocks.proofs.Split.{literal_one, one_literal}
use Rattle.rx_engine_blocks.proofs.Outlines.{facts_untested, composed_sees}
use Rattle.rx_engine_blocks.proofs.Viewing.{reference_so, led_to}
use Rattle.rx_engine_blocks.proofs.Copies.{plain_there, plain_back, step_there, step_back, viewed_there, viewed_back, shared_there, shared_back, tests_there, tests_back}
use Rattle.rx_engine_blocks.proofs.Blocking.{no_block, block_then}

-- the one fact that is like one
only : (r : Renumbering) (f : Fact) (fs fs' : List Fact) → fs ≡ f ∷ [] → FactsLike r fs fs' → fs' ≡ fact_at r f ∷ []
only r f fs fs' e l = by fs' (subst (λ gs. FactsLike r gs fs') e l)
  where
    by : (gs : List Fact) → FactsLike r (f ∷ []) gs → gs ≡ fact_at r f ∷ []
    by gs (like_more_facts like_fact like_no_fact) = refl

module _ (r : Renumbering) (u : PartialInverse r) (view : Viewed) (behind : Behind) (IsFixed : Subject → Type 0) (D D' : KnownItems) (known : Knows r D D') (A V : Assignment) (views : MutableAt view A) where
  abbrev B2 : List Demand → List Demand → Type 0
  B2 = Block r u view behind IsFixed D D' A V

  abbrev A' : Assignment
  A' = composed r u view A V

  is_so : {X : Type 0} {a b : X} → Is a b → a ≡ b
  is_so itself = refl

  -- facts that are copied, there and back
  record Facts (fs fs' : List Fact) : Type 0 where
    there : MeetsAll D A fs → MeetsAll D' A' (no_tests fs')
    back : (B C : Assignment) → Tied r view behind IsFixed A B C → MeetsAll D A fs → MeetsAll D' C fs' → MeetsAll D B fs

  -- of one fact
  one_fact : (fs fs' : List Fact) (f : Fact) → fs ≡ f ∷ [] → fs' ≡ fact_at r f ∷ [] → (MeetsAll D A (f ∷ []) → MeetsAll D' A' (no_tests (fact_at r f ∷ [])))
      → ((B C : Assignment) → Tied r view behind IsFixed A B C → MeetsAll D' C (fact_at r f ∷ []) → MeetsAll D B (f ∷ [])) → Facts fs fs'
  one_fact fs fs' f e i a b = record {
    there = λ h. subst (λ gs. MeetsAll D' A' (no_tests gs)) (sym i) (a (subst (MeetsAll D A) e h));
    back = λ B C t h m. subst (MeetsAll D B) (sym e) (b B C t (subst (MeetsAll D' C) i m));
  }

  copies : (d d' : Demand) → DemandLike r d d' → CopiesWell view A d → Facts d.facts d'.facts
  copies d d' l (plainly a) = record {
    there = λ h. facts_untested D' A' d'.facts (plain_there r u view D D' known A A' (composed_sees r u view A V) l.facts a h);
    back = λ B C t h m. plain_back r u view D D' known B C t.sees l.facts a m;
  }
  copies d d' l (tests a) = record { there = λ h. tests_there r D' A' l.facts a; back = λ B C t h m. tests_back D A B t.outlines d.facts a h }
  copies d d' l (both_viewed x y e v w) = one_fact d.facts d'.facts (fact.Equals x op.Same (y ∷ []) []) e (only r _ d.facts d'.facts e l.facts)
      (λ h. viewed_there r u view D D' known A A' (composed_sees r u view A V) x y v w h)
      (λ B C t m. viewed_back r u view D D' known B C t.sees t.mutable x y v w m)
  copies d d' l (a_step x y o s e v) = one_fact d.facts d'.facts (fact.Equals x o (y ∷ []) []) e (only r _ d.facts d'.facts e l.facts)
      (λ h. step_there r u view D D' known A A' (composed_sees r u view A V) x y o s v h)
      (λ B C t m. step_back r u view D D' known B C t.sees x y o s v m)
  copies d d' l (becomes_shared x y s e v w i) = one_fact d.facts d'.facts (fact.Equals x op.Coerced (x ∷ y ∷ []) []) e (only r _ d.facts d'.facts e l.facts)
      (λ h. shared_there r u view D D' known A A' (composed_sees r u view A V) views x y s v w i h)
      (λ B C t m. shared_back r u view D D' known B C t.sees t.mutable x y (led_to (B y)) v w (reference_so (B y) s false (sym (t.outlines y) ∙ ap outline i)).0 m)

  pub copied : (d d' : Demand) → DemandLike r d d' → CopiesWell view A d → B2 (d ∷ []) (d' ∷ [])
  copied d d' l c = let f = copies d d' l c in record {
    there = λ h k. (f.there h.0, tt);
    back = λ B C t h m. (f.back B C t h.0 m.0, tt);
    literal = λ n i. let w = literal_one d' n i in (d.node, one_literal d d.node (is_so l.unsuffixed ∙ w.0) refl, is_so l.node ∙ sym w.1);
  }

  copies_left : (xs ys : List Demand) → EachCopies view A (xs ++ ys) → EachCopies view A xs
  copies_left [] ys h = tt
  copies_left (x ∷ xs) ys h = (h.0, copies_left xs ys h.1)

  copies_right : (xs ys : List Demand) → EachCopies view A (xs ++ ys) → EachCopies view A ys
  copies_right [] ys h = h
  copies_right (x ∷ xs) ys h = copies_right xs ys h.1

  module _ (Special : List Demand → List Demand → Type 0) (special : (es es' : List Demand) → Special es es' → B2 es es') where
    pub copied_block : {ds ds' : List Demand} → DemandsLike r Special ds ds' → EachCopies view A ds → B2 ds ds'
    copied_block like_no_demand c = no_block r u view behind IsFixed D D' A V
    copied_block (like_more_demands {ds = ds} {ds' = ds'} {d = d} {d' = d'} l e) c =
        block_then r u view behind IsFixed D D' A V ds ds' (d ∷ []) (d' ∷ []) (copied_block l (copies_left ds (d ∷ []) c)) (copied d d' e (copies_right ds (d ∷ []) c).0)
    copied_block (like_other_demands {ds = ds} {ds' = ds'} es es' l z) c =
        block_then r u view behind IsFixed D D' A V ds ds' es es' (copied_block l (copies_left ds es c)) (special es es' z)

-- where nothing is viewed

abbrev NotViewed : Subject → Type 0
NotViewed x = none_viewed x ≡ false

every : (xs : List Subject) → EachOf NotViewed xs
every [] = tt
every (x ∷ xs) = (refl, every xs)

every_passing : (ps : List Passing) → EachPassing NotViewed ps
every_passing [] = tt
every_passing (p ∷ ps) = (refl, every_passing ps)

about_plain : (f : Fact) → About NotViewed f
about_plain (fact.Equals x o xs ps) = (refl, every xs, every_passing ps)
about_plain (fact.Integer n s) = refl
about_plain (fact.IntegerBehind n s) = refl
about_plain (fact.Passes t xs ps qs) = (every xs, every_passing ps, every_passing qs)
about_plain fact.Never = tt

all_plain : (fs : List Fact) → AllAbout NotViewed fs
all_plain [] = tt
all_plain (f ∷ fs) = (about_plain f, all_plain fs)

pub plain_copies : (A : Assignment) (ds : List Demand) → EachCopies none_viewed A ds
plain_copies A [] = tt
plain_copies A (d ∷ ds) = (plainly (all_plain d.facts), plain_copies A ds)
