-- Demands are about what they name.
use Rattle.std.proofs.Common.{List, [], ◌∷◌, ◌++◌, refl, inl, inr, ⊎_elim}
use Rattle.rx_typeck_solver.specs.declared.facts.Demand.{Demand}
use Rattle.rx_typeck_solver.specs.declared.facts.Fact.{Fact}
use Rattle.rx_typeck_solver.specs.declared.facts.Fact.TheVariants as fact
use Rattle.rx_typeck_solver.specs.declared.facts.Passing.{Passing}
use Rattle.rx_typeck_solver.specs.declared.facts.Subject.{Subject}
use Rattle.rx_typeck_solver.specs.declared.facts.Subject.TheVariants as subject
use Rattle.rx_engine_blocks.specs.Parts.{About, AllAbout, EachAbout, EachOf, EachPassing}
use Rattle.rx_engine_holes.specs.Named.{IsAmong, IsPassed, NamedBy, NamedByAny, NamedIn}

module _ (P : Subject → Type 0) where
  each_of : (xs : List Subject) → ((x : Subject) → IsAmong xs x → P x) → EachOf P xs
  each_of [] h = tt
  each_of (x ∷ xs) h = (h x (inl refl), each_of xs (λ y i. h y (inr i)))

  each_passing : (ps : List Passing) → ((x : Subject) → IsPassed ps x → P x) → EachPassing P ps
  each_passing [] h = tt
  each_passing (p ∷ ps) h = (h (subject.Node p.node) (inl refl), each_passing ps (λ y i. h y (inr i)))

  about : (f : Fact) → ((x : Subject) → NamedBy f x → P x) → About P f
  about (fact.Equals x o xs ps) h = (h x (inl refl), each_of xs (λ y i. h y (inr (inl i))), each_passing ps (λ y i. h y (inr (inr i))))
  about (fact.Integer n s) h = h (subject.Node n) refl
  about (fact.IntegerBehind n s) h = h (subject.Node n) refl
  about (fact.Passes t xs ps qs) h = (each_of xs (λ y i. h y (inl i)), each_passing ps (λ y i. h y (inr (inl i))), each_passing qs (λ y i. h y (inr (inr i))))
  about fact.Never h = tt

  all_about : (fs : List Fact) → ((x : Subject) → NamedByAny fs x → P x) → AllAbout P fs
  all_about [] h = tt
  all_about (f ∷ fs) h = (about f (λ y i. h y (inl i)), all_about fs (λ y i. h y (inr i)))

  pub each_about : (ds : List Demand) → ((x : Subject) → NamedIn ds x → P x) → EachAbout P ds
  each_about [] h = tt
  each_about (d ∷ ds) h = (all_about d.facts (λ y i. h y (inl i)), each_about ds (λ y i. h y (inr i)))

-- ---- what is named in demands one behind another

pub named_left : (xs ys : List Demand) (x : Subject) → NamedIn xs x → NamedIn (xs ++ ys) x
named_left [] ys x i = absurd i
named_left (d ∷ xs) ys x i = ⊎_elim (λ k. inl k) (λ k. inr (named_left xs ys x k)) i

pub named_right : (xs ys : List Demand) (x : Subject) → NamedIn ys x → NamedIn (xs ++ ys) x
named_right [] ys x i = i
named_right (d ∷ xs) ys x i = inr (named_right xs ys x i)
