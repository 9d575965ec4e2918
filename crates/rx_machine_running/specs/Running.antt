-- What a program does, told as a machine does it: without temporaries, which only hand values on, and without the ends of
-- variables, which do nothing. Clause for clause it is the meaning otherwise.
use Rattle.std.specs.Prelude.{ℕ, zero, suc, ℤ, true, false, List, [], ◌∷◌}
use Rattle.rx_core.specs.declared.types.Step.{Step}
use Rattle.rx_typed.specs.Tree.{Temporary, operation, lazy, Exp, read, borrow, share, build, unit, lazily, assign, update, call, input, print, block, choose, loop, jump, give, Operands, no_operand, operand_and, Scrutinee, at_place, of_value, Arms, no_arm, arm_and, Body, ends, runs, declares, lets, Parameter, Function, temporary_place, under, fields_of}
use Rattle.rx_typed.specs.Tree as tree
use Rattle.rx_lower_walks.specs.Matching.{equals, tests, bindings, Binding}
use Rattle.rx_lower_walks.specs.Actions.{Act, Declare, Read, Write, Borrow, Test, Build, Input, Print, Subject, subject, taken, written}
use Rattle.rx_lower_walks.specs.Orders.{exit, returns, written_parameter}
use Rattle.rx_meaning.specs.Endings.{running, wrong, mistyped, missing_arm}
use Rattle.rx_meaning.specs.declared.outcome.Outcome.{Outcome}
use Rattle.rx_meaning.specs.Values.{Value, unit_value, element, new_frame, State}
use Rattle.rx_meaning.specs.Results.{Result, on, jumps, stops, bind, result_of}
use Rattle.rx_meaning.specs.Acting.{does_plainly, plainly, performed}
use Rattle.rx_meaning.specs.Patterns.{decided, tested, took}
use Rattle.rx_meaning.specs.Expressions.{Functions, take_turn, passed, returned, found}
use Rattle.rx_meaning.specs.Programs.{Program, outcome_of, begins}

abbrev pub Meaning : Type 0
Meaning = Exp → State → Result ℕ Value

-- a temporary that stands for all
abbrev pub nowhere : Temporary
nowhere = record { node = 0; which = 0 }

abbrev pub acts : Act → List Value → State → Result ℕ Value
acts a vs s = result_of (does_plainly a vs s)

unfoldable pub bound : Subject → List Value → List Binding → (State → Result ℕ Value) → State → Result ℕ Value
bound S vs [] go s = go s
bound S vs (b ∷ bs) go s =
    bind (took plainly b.node (taken S b) vs s) (λ ws s1. bind (acts (Declare b.variable) [] s1) (λ u s2.
    bind (performed plainly (written S b) ws s2) (λ w s3. bound S vs bs go s3)))

unfoldable pub begun : List ℕ → (State → Result ℕ Value) → State → Result ℕ Value
begun [] go s = go s
begun (x ∷ xs) go s = bind (acts (Declare x) [] s) (λ u s1. begun xs go s1)

unfoldable pub with_arguments : List Parameter → List Value → (State → Result ℕ Value) → State → Result ℕ Value
with_arguments [] [] go s = go s
with_arguments (p ∷ ps) (v ∷ vs) go s =
    bind (acts (Declare p.variable) [] s) (λ u s1. bind (performed plainly (written_parameter p) (v ∷ []) s1) (λ w s2. with_arguments ps vs go s2))
with_arguments _ _ go s = stops [] (wrong mistyped)

abbrev pub entered : Meaning → ℕ → Function → List Value → State → Result ℕ Value
entered below i f vs s = returned plainly s.frame (with_arguments f.params vs (λ s1. below f.body s1) (record s { frame = new_frame i }))

unfoldable mutual
  pub value : Functions → Meaning → Exp → State → Result ℕ Value
  value P below (read m moves p) s = acts (Read moves p nowhere) [] s
  value P below (build m w es) s = bind (values P below es s) (λ vs s1. acts (Build w (fields_of es) [] nowhere) vs s1)
  value P below (unit m) s = on [] unit_value s
  value P below (block m b) s = body P below b s
  value P below (borrow m k p) s = acts (Borrow k p nowhere) [] s
  value P below (share m e) s = bind (value P below e s) (λ v s1. acts (Borrow false (under (temporary_place nowhere) (Step.Deref true ∷ [])) nowhere) (v ∷ []) s1)
  value P below (lazily m b e f) s =
      bind (value P below e s) (λ v s1. bind (acts (Test (temporary_place nowhere) (equals (tree.truth b))) (v ∷ []) s1) (λ t s2.
      bind (decided t (λ s3. value P below f s3) (λ s3. on [] v s3) s2) (λ w s4. acts (Build lazy [] [] nowhere) (w ∷ []) s4)))
  value P below (assign m p e) s = bind (value P below e s) (λ v s1. acts (Write p nowhere []) (v ∷ []) s1)
  value P below (update m o p e) s =
      bind (value P below e s) (λ v s1. bind (acts (Read false p nowhere) [] s1) (λ u s2.
      bind (acts (Build (operation o) [] [] nowhere) (u ∷ v ∷ []) s2) (λ w s3. acts (Write p nowhere []) (w ∷ []) s3)))
  value P below (call m f es) s =
      bind (values P below es s) (λ vs s1. found (element P f) (λ g. take_turn s1 (λ s2. entered below f g vs s2)))
  value P below (input m) s = acts (Input nowhere) [] s
  value P below (print m e) s = bind (value P below e s) (λ v s1. acts (Print nowhere) (v ∷ []) s1)
  value P below (loop m l e) s = take_turn s (λ s1. passed l (below e s1) (λ s2. below (loop m l e) s2))
  value P below (jump m l again) s = jumps [] (exit m.node l again) unit_value s
  value P below (choose m c l) s = bind (matched P below c s) (λ vs s1. arms P below (subject c) vs l s1)
  value P below (give m e) s = bind (value P below e s) (λ v s1. jumps [] (returns m.node) v s1)

  pub values : Functions → Meaning → Operands → State → Result ℕ (List Value)
  values P below no_operand s = on [] [] s
  values P below (operand_and i e es) s = bind (value P below e s) (λ v s1. bind (values P below es s1) (λ vs s2. on [] (v ∷ vs) s2))

  pub matched : Functions → Meaning → Scrutinee → State → Result ℕ (List Value)
  matched P below (at_place m p) s = on [] [] s
  matched P below (of_value e) s = bind (value P below e s) (λ v s1. on [] (v ∷ []) s1)

  pub arms : Functions → Meaning → Subject → List Value → Arms → State → Result ℕ Value
  arms P below S vs no_arm s = stops [] (wrong missing_arm)
  arms P below S vs (arm_and p e rest) s =
      tested plainly S vs (tests [] p) (λ s1. bound S vs (bindings [] p) (λ s2. value P below e s2) s1) (λ s1. arms P below S vs rest s1) s

  pub body : Functions → Meaning → Body → State → Result ℕ Value
  body P below (ends e) s = value P below e s
  body P below (runs e rest) s = bind (value P below e s) (λ v s1. body P below rest s1)
  body P below (declares i xs rest) s = begun xs (λ s1. body P below rest s1) s
  body P below (lets i p c rest) s =
      bind (matched P below c s) (λ vs s1. bound (subject c) vs (bindings [] p) (λ s2. body P below rest s2) s1)

-- where so many turns may be nested
unfoldable pub level : Functions → ℕ → Meaning
level P zero e s = stops [] running
level P (suc n) e s = value P (level P n) e s

abbrev pub called : Functions → ℕ → ℕ → List Value → State → Result ℕ Value
called P n f vs s = found (element P f) (λ g. take_turn s (λ s1. entered (level P n) f g vs s1))

abbrev pub run : Program → List ℤ → ℕ → Outcome
run P given n = outcome_of (called P.functions n P.main [] (begins given n))
