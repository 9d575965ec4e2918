-- What is read of lists of subjects and passings.
use Rattle.std.specs.Prelude.{ℕ, Bool, ◌&&◌, List, [], ◌∷◌, Option, Some, None}
use Rattle.rx_typeck_solver.specs.declared.facts.Subject.{Subject}
use Rattle.rx_typeck_solver.specs.declared.facts.Subject.TheVariants as subject
use Rattle.rx_typeck_solver.specs.declared.facts.Passing.{Passing}
use Rattle.rx_typeck_solver.specs.declared.arena.Entry.{Entry}
use Rattle.rx_typeck_solver.specs.declared.reading.Passed.{Passed}
use Rattle.rx_typeck_solver.specs.Facts.{all_mutable, is_none, gone_through}
use Rattle.rx_typeck_solver.specs.Solver.{Term}
use Rattle.rx_typeck_solver.specs.Cells.{IsTerm}

abbrev pub both : Passed → Passed → Passed
both a b = record { none = a.none && b.none; mutable = a.mutable && b.mutable }

-- what operations and tests ask of dereferences
abbrev pub summed : List Bool → Passed
summed ms = record { none = is_none ms; mutable = all_mutable ms }

abbrev pub with_gone : Option Term → Bool → Option Passed → Option Passed
with_gone (Some t) all (Some s) = Some (both (summed (gone_through all t)) s)
with_gone _ all _ = None

abbrev pub sum_at : (Subject → Option Term) → List Passing → Option Passed
sum_at tab [] = Some (summed [])
sum_at tab (p ∷ ps) = with_gone (tab (subject.Node p.node)) p.all (sum_at tab ps)

abbrev pub AllTerms : List Entry → List ℕ → Type 0
AllTerms es [] = Unit {0}
AllTerms es (i ∷ is) = IsTerm es i × AllTerms es is
