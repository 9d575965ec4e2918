-- The types that demands give by themselves, from declarations alone: a subject gets the type that one of its facts makes of types that others get.
use Rattle.std.specs.Prelude.{◌≡◌, ℕ, Bool, List, [], ◌∷◌, Some}
use Rattle.rx_typed.specs.Types.{Typ}
use Rattle.rx_typeck_solver.specs.declared.facts.Subject.{Subject}
use Rattle.rx_typeck_solver.specs.declared.facts.Subject.TheVariants as subject
use Rattle.rx_typeck_solver.specs.declared.facts.Passing.{Passing}
use Rattle.rx_typeck_solver.specs.declared.facts.Op.{Op}
use Rattle.rx_typeck_solver.specs.declared.facts.Op.TheVariants as op
use Rattle.rx_typeck_solver.specs.declared.facts.Fact.{Fact}
use Rattle.rx_typeck_solver.specs.declared.facts.Fact.TheVariants as fact
use Rattle.rx_typeck_solver.specs.declared.facts.Demand.{Demand}
use Rattle.rx_typeck_solver.specs.Facts.{KnownItems, gone_through, made}

-- one of the facts
pub data IsFact (f : Fact) : List Fact → Type 0 where
  this_fact : {fs : List Fact} → IsFact f (f ∷ fs)
  later_fact : {g : Fact} {fs : List Fact} → IsFact f fs → IsFact f (g ∷ fs)

-- a fact of one of the demands
pub data IsAsked (f : Fact) : List Demand → Type 0 where
  asked_here : {d : Demand} {ds : List Demand} → IsFact f d.facts → IsAsked f (d ∷ ds)
  asked_later : {d : Demand} {ds : List Demand} → IsAsked f ds → IsAsked f (d ∷ ds)

mutual
  pub data Gets (E : KnownItems) (es : List Demand) : Subject → Typ → Type 0 where
    by_fact : {x : Subject} {o : Op} {xs : List Subject} {ps : List Passing} {ts : List Typ} {t : Typ} → IsAsked (fact.Equals x o xs ps) es → GetsAll E es xs ts → NoReferences E es ps
        → made (λ k. k) E.items o ts [] ≡ Some t → Gets E es x t
    the_same : {x y : Subject} {t : Typ} → IsAsked (fact.Equals x op.Same (y ∷ []) []) es → Gets E es x t → Gets E es y t

  pub data GetsAll (E : KnownItems) (es : List Demand) : List Subject → List Typ → Type 0 where
    gets_none : GetsAll E es [] []
    gets_more : {x : Subject} {xs : List Subject} {t : Typ} {ts : List Typ} → Gets E es x t → GetsAll E es xs ts → GetsAll E es (x ∷ xs) (t ∷ ts)

  -- the nodes that are gone through have no references
  pub data NoReferences (E : KnownItems) (es : List Demand) : List Passing → Type 0 where
    no_passing : NoReferences E es []
    one_passing : {n : ℕ} {every : Bool} {ps : List Passing} {t : Typ} → Gets E es (subject.Node n) t → gone_through every t ≡ [] → NoReferences E es ps
        → NoReferences E es (record { node = n; all = every } ∷ ps)
