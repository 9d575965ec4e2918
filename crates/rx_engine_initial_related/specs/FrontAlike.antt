-- The statements in front of a run, in the caller and in the text: alike one by one, from one scope to another. (Rust Reference, "Statements".)
use Rattle.std.specs.Prelude.{ℕ, List, [], ◌∷◌}
use Rattle.rx_typed.specs.Tree.{Pattern, Exp, Scrutinee}
use Rattle.rx_lower_walks.specs.Matching.{bindings}
use Rattle.rx_lower_walks.specs.Actions.{subject}
use Rattle.rx_exits_plan.specs.Blocks.{Statement, does, begins, binds}
use Rattle.rx_engine_initial.specs.Variables.{Sides, KnownVariables}
use Rattle.rx_engine_initial_forms.specs.Binders.{AlikeDeclared, AlikeBindings}
use Rattle.rx_engine_initial_forms.specs.Alike.{AlikeExp, AlikeMatched}

pub data FrontAlike (S : Sides) : KnownVariables S → List Statement → List Statement → KnownVariables S → Type 0 where
  nothing_in_front : {R : KnownVariables S} → FrontAlike S R [] [] R
  does_both : {R T : KnownVariables S} {e f : Exp} {ss ts : List Statement} → AlikeExp S R e f → FrontAlike S R ss ts T → FrontAlike S R (does e ∷ ss) (does f ∷ ts) T
  begins_both : {R U T : KnownVariables S} {m n : ℕ} {xs ys : List ℕ} {ss ts : List Statement} → AlikeDeclared S R xs ys U → FrontAlike S U ss ts T → FrontAlike S R (begins m xs ∷ ss) (begins n ys ∷ ts) T
  binds_both : {R U T : KnownVariables S} {m n : ℕ} {p q : Pattern} {c d : Scrutinee} {ss ts : List Statement} → AlikeMatched S R c d → AlikeBindings S (subject c) (subject d) R (bindings [] p) (bindings [] q) U → FrontAlike S U ss ts T
      → FrontAlike S R (binds m p c ∷ ss) (binds n q d ∷ ts) T
