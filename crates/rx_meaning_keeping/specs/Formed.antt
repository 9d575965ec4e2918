-- Typed trees in which no temporary is filled while its value is pending, and each choice between arms is of a kind.
-- (Rust Reference, "Temporaries"; "Evaluation order of operands".)
use Rattle.std.specs.Prelude.{◌≡◌, ℕ, List, [], ◌∷◌, Some}
use Rattle.rx_typed.specs.Tree.{Temporary, Exp, read, borrow, share, build, unit, lazily, assign, update, call, input, print, block, choose, loop, jump, give, Operands, no_operand, operand_and, Scrutinee, at_place, of_value, Arms, no_arm, arm_and, Body, ends, runs, lets, Function, temporary_at, temporary_of}
use Rattle.rx_typed.specs.Tree as tree
use Rattle.rx_lower_walks.specs.Matching.{Binding, bindings}
use Rattle.rx_lower_walks.specs.Actions.{Subject, in_place, in_temporary, subject}
use Rattle.rx_meaning.specs.Values.{element}
use Rattle.rx_meaning.specs.Expressions.{Functions}
use Rattle.rx_meaning_keeping.specs.Pending.{Unheld}

abbrev pub with_subject : Subject → List Temporary → List Temporary
with_subject (in_place p) J = J
with_subject (in_temporary t) J = t ∷ J

abbrev pub Apart : List Temporary → List Binding → Type 0
Apart J [] = Unit {0}
Apart J (b ∷ bs) = Unheld (temporary_at b.node 0) J × Apart J bs

abbrev mutual
  pub Formed : (Subject → Arms → Type 0) → List Temporary → Exp → Temporary → Type 0
  Formed C J (read m v p) d = Unheld d J
  Formed C J (borrow m k p) d = Unheld d J
  Formed C J (share m e) d = Formed C J e (temporary_at m.node 1) × Unheld d (temporary_at m.node 1 ∷ J)
  Formed C J (build m w es) d = FormedAll C J es × Unheld d J
  Formed C J (unit m) d = Unheld d J
  Formed C J (lazily m b e f) d = Formed C J e (temporary_of e) × Formed C J f (temporary_of f) × Unheld d J
  Formed C J (assign m p e) d = Formed C J e (temporary_of e) × Unheld d J
  Formed C J (update m o p e) d = Formed C J e (temporary_of e) × Unheld (temporary_at m.node 1) (temporary_of e ∷ J) × Unheld (temporary_at m.node 2) J × Unheld d J
  Formed C J (call m f es) d = FormedAll C J es × Unheld d J
  Formed C J (input m) d = Unheld d J
  Formed C J (print m e) d = Formed C J e (temporary_of e) × Unheld d J
  Formed C J (block m b) d = FormedBody C J b d
  Formed C J (choose m c l) d = FormedScrutinee C J c × C (subject c) l × FormedArms C J (subject c) l d
  Formed C J (loop m l e) d = Formed C J e (temporary_of e) × Unheld d J
  Formed C J (jump m l k) d = Unit {0}
  Formed C J (give m e) d = Formed C J e (temporary_of e)

  pub FormedAll : (Subject → Arms → Type 0) → List Temporary → Operands → Type 0
  FormedAll C J no_operand = Unit {0}
  FormedAll C J (operand_and i e es) = Formed C J e (temporary_of e) × FormedAll C (temporary_of e ∷ J) es

  pub FormedScrutinee : (Subject → Arms → Type 0) → List Temporary → Scrutinee → Type 0
  FormedScrutinee C J (at_place m p) = Unit {0}
  FormedScrutinee C J (of_value e) = Formed C J e (temporary_of e)

  pub FormedArms : (Subject → Arms → Type 0) → List Temporary → Subject → Arms → Temporary → Type 0
  FormedArms C J S no_arm d = Unit {0}
  FormedArms C J S (arm_and p e rest) d = Apart (with_subject S J) (bindings [] p) × Formed C J e d × FormedArms C J S rest d

  pub FormedBody : (Subject → Arms → Type 0) → List Temporary → Body → Temporary → Type 0
  FormedBody C J (ends e) d = Formed C J e d
  FormedBody C J (runs e rest) d = Formed C J e (temporary_of e) × FormedBody C J rest d
  FormedBody C J (tree.declares i xs rest) d = FormedBody C J rest d
  FormedBody C J (lets i p c rest) d = FormedScrutinee C J c × Apart (with_subject (subject c) J) (bindings [] p) × FormedBody C J rest d

-- whatever the choices are
abbrev pub Any : Subject → Arms → Type 0
Any S l = Unit {0}

-- those of a program, where the choices of each function are of its kind
abbrev pub AllFormed : Functions → (ℕ → Subject → Arms → Type 0) → Type 0
AllFormed P C = (f : ℕ) (F : Function) → element P f ≡ Some (Some F) → Formed (C f) [] F.body (temporary_of F.body)
