-- What demands give a type by themselves has it in each assignment that meets them.
use Rattle.std.proofs.Common.{◌≡◌, List, [], ◌∷◌, ◌++◌, Option, Some, refl, sym, ap, ◌∙◌}
use Rattle.rx_typed.specs.Types.{Typ}
use Rattle.rx_typeck_solver.specs.declared.facts.Subject.{Subject}
use Rattle.rx_typeck_solver.specs.declared.facts.Passing.{Passing}
use Rattle.rx_typeck_solver.specs.declared.facts.Fact.{Fact}
use Rattle.rx_typeck_solver.specs.declared.facts.Demand.{Demand}
use Rattle.rx_typeck_solver.specs.Facts.{Assignment, KnownItems, gone_through, passed, types_at, made, Meets, MeetsAll, MeetsEach}
use Rattle.rx_engine_blocks.specs.Gets.{IsFact, IsAsked, Gets, GetsAll, NoReferences}
use Rattle.rx_engine_blocks.specs.Gets.IsFact.{this_fact, later_fact}
use Rattle.rx_engine_blocks.specs.Gets.IsAsked.{asked_here, asked_later}
use Rattle.rx_engine_blocks.specs.Gets.Gets.{by_fact, the_same}
use Rattle.rx_engine_blocks.specs.Gets.GetsAll.{gets_none, gets_more}
use Rattle.rx_engine_blocks.specs.Gets.NoReferences.{no_passing, one_passing}

module _ (E : KnownItems) (C : Assignment) where
  fact_met : {f : Fact} (fs : List Fact) → MeetsAll E C fs → IsFact f fs → Meets E C f
  fact_met fs h this_fact = h.0
  fact_met fs h (later_fact {fs = gs} i) = fact_met gs h.1 i

  pub asked_met : {f : Fact} (es : List Demand) → MeetsEach E C es → IsAsked f es → Meets E C f
  asked_met es h (asked_here {d = d} i) = fact_met d.facts h.0 i
  asked_met es h (asked_later {ds = ds} i) = asked_met ds h.1 i

  some_type : (t u : Typ) → ◌≡◌ {A = Option Typ} (Some t) (Some u) → t ≡ u
  some_type t u e = cc

  module _ (es : List Demand) (met : MeetsEach E C es) where
    mutual
      pub gets_is : {x : Subject} {t : Typ} → Gets E es x t → C x ≡ t
      gets_is {x} {t} (by_fact {o = o} {xs = xs} {ps = ps} {ts = ts} a g n m) = some_type (C x) t (sym (asked_met es met a)
          ∙ ap (λ us. made (λ k. k) E.items o us (passed C ps)) (all_are g) ∙ ap (made (λ k. k) E.items o ts) (none_passed n) ∙ m)
      gets_is {t = t} (the_same {x = x} {y = y} a g) = some_type (C y) t (asked_met es met a ∙ ap Some (gets_is g))

      all_are : {xs : List Subject} {ts : List Typ} → GetsAll E es xs ts → types_at C xs ≡ ts
      all_are gets_none = refl
      all_are (gets_more {x = x} {xs = xs} {t = t} {ts = ts} g gs) = ap (λ u. u ∷ types_at C xs) (gets_is g) ∙ ap (λ us. t ∷ us) (all_are gs)

      none_passed : {ps : List Passing} → NoReferences E es ps → passed C ps ≡ []
      none_passed no_passing = refl
      none_passed (one_passing {n = n} {every = every} {ps = ps} g e h) = ap (λ ms. ms ++ passed C ps) (ap (gone_through every) (gets_is g) ∙ e) ∙ none_passed h
