-- What is asked otherwise where an expression stands at another place: another type is expected of it, or none.
use Rattle.std.specs.Prelude.{◌≡◌, ℕ, false, List, [], ◌∷◌, Some}
use Rattle.rx_core.specs.declared.types.Span.{Span}
use Rattle.rx_typed.specs.Types.{Typ, unit_shape}
use Rattle.rx_typeck_solver.specs.declared.facts.Broken.{Broken}
use Rattle.rx_typeck_solver.specs.declared.facts.Subject.{Subject}
use Rattle.rx_typeck_solver.specs.declared.facts.Subject.TheVariants as subject
use Rattle.rx_typeck_solver.specs.declared.facts.Passing.{Passing}
use Rattle.rx_typeck_solver.specs.declared.facts.Op.{Op}
use Rattle.rx_typeck_solver.specs.declared.facts.Op.TheVariants as op
use Rattle.rx_typeck_solver.specs.declared.facts.Test.{Test}
use Rattle.rx_typeck_solver.specs.declared.facts.Fact.TheVariants as fact
use Rattle.rx_typeck_solver.specs.declared.facts.Demand.{Demand}
use Rattle.rx_typeck_solver.specs.Facts.{Assignment, KnownItems, coerced, made}
use Rattle.rx_engine_blocks.specs.Renumbering.{Renumbering, shape_at}
use Rattle.rx_engine_blocks.specs.Along.{Viewed}
use Rattle.rx_engine_blocks.specs.Seen.{a_demand}

-- at a coercion site; at one that reborrows only; what is expected
abbrev pub fits_demand : ℕ → Span → Broken → Demand
fits_demand n s b = a_demand n s b (fact.Equals (subject.Node n) op.Coerced (subject.Node n ∷ subject.Expected n ∷ []) [])

abbrev pub own_demand : ℕ → Span → Broken → Demand
own_demand n s b = a_demand n s b (fact.Equals (subject.Expected n) op.Same (subject.Node n ∷ []) [])

abbrev pub expects_demand : ℕ → Span → Broken → Op → Demand
expects_demand n s b o = a_demand n s b (fact.Equals (subject.Expected n) o [] [])

-- the node and what is expected of it are seen as they are
abbrev pub AsItIs : Viewed → ℕ → Type 0
AsItIs view n = (view (subject.Node n) ≡ false) × (view (subject.Expected n) ≡ false)

pub data ChangedSite (r : Renumbering) (view : Viewed) (D D' : KnownItems) (A : Assignment) : List Demand → List Demand → Type 0 where
  -- what only reborrowed is a coercion site
  own_fits : {n : ℕ} {s s' : Span} {b c : Broken} → AsItIs view n → ChangedSite r view D D' A (own_demand n s b ∷ []) (fits_demand (r.nodes n) s' c ∷ [])
  -- what was none is a coercion site, and fits
  fits_now : (n : ℕ) {s : Span} {b : Broken} → AsItIs view n → coerced (A (subject.Node n)) (A (subject.Expected n)) ≡ A (subject.Node n)
      → ChangedSite r view D D' A [] (fits_demand (r.nodes n) s b ∷ [])
  -- a value of the unit stands at a coercion site no more
  unit_fits : {n : ℕ} {s : Span} {b : Broken} → A (subject.Node n) ≡ unit_shape → A (subject.Expected n) ≡ unit_shape → ChangedSite r view D D' A (fits_demand n s b ∷ []) []
  -- the same type is expected, by another declaration
  other_expectation : {n : ℕ} {s s' : Span} {b c : Broken} {o o' : Op} (t : Typ) → view (subject.Expected n) ≡ false → made (λ k. k) D.items o [] [] ≡ Some t
      → made (λ k. k) D'.items o' [] [] ≡ Some (shape_at r t) → ChangedSite r view D D' A (expects_demand n s b o ∷ []) (expects_demand (r.nodes n) s' c o' ∷ [])
  -- a type is expected where none was
  expected_now : (n : ℕ) {s : Span} {b : Broken} {o : Op} → view (subject.Expected n) ≡ false → made (λ k. k) D'.items o [] [] ≡ Some (shape_at r (A (subject.Expected n)))
      → ChangedSite r view D D' A [] (expects_demand (r.nodes n) s b o ∷ [])
  -- the unit was expected
  unit_expected : {n : ℕ} {s : Span} {b : Broken} {o : Op} → made (λ k. k) D.items o [] [] ≡ Some unit_shape → ChangedSite r view D D' A (expects_demand n s b o ∷ []) []
  -- a test that isn't asked any more, as that a function gives the unit; and one that wasn't
  no_test : {n : ℕ} {s : Span} {b : Broken} {t : Test} {xs : List Subject} {anc ps : List Passing} → ChangedSite r view D D' A (a_demand n s b (fact.Passes t xs anc ps) ∷ []) []
  new_test : (n : ℕ) {s : Span} {b : Broken} {t : Test} {xs : List Subject} {anc ps : List Passing} → ChangedSite r view D D' A [] (a_demand n s b (fact.Passes t xs anc ps) ∷ [])
