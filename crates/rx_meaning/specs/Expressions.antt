-- What each expression does, by recursion on the typed tree and on the turns (Rust Reference, "Expressions", "Statements").
use Rattle.std.specs.Prelude.{ℕ, zero, suc, true, false, nat_eq, List, [], ◌∷◌, Option, Some, if◌then◌else◌}
use Rattle.rx_core.specs.declared.types.Step.{Step}
use Rattle.rx_typed.specs.Tree.{Temporary, operation, lazy, Exp, read, borrow, share, build, unit, lazily, assign, update, call, input, print, block, choose, loop, jump, give, Operands, no_operand, operand_and, Scrutinee, at_place, of_value, Arms, no_arm, arm_and, Body, ends, runs, declares, lets, Parameter, Function, temporary_place, under, mark_of, temporary_at, temporary_of, temporaries_of, fields_of}
use Rattle.rx_typed.specs.Tree as tree
use Rattle.rx_lower_walks.specs.Matching.{equals, tests, bindings}
use Rattle.rx_lower_walks.specs.Actions.{Read, Write, Borrow, Test, Call, Build, Input, Print, Give, at_mark, Subject, subject}
use Rattle.rx_lower_walks.specs.Orders.{Exit, breaks, continues, returns, exit, declared_parameter, written_parameter}
use Rattle.rx_meaning.specs.Endings.{running, wrong, mistyped, missing_function, missing_arm, missing_value}
use Rattle.rx_meaning.specs.Values.{Value, unit_value, element, Frame, new_frame, State, with_turns}
use Rattle.rx_meaning.specs.Results.{Result, on, jumps, stops, after, bind}
use Rattle.rx_meaning.specs.Acting.{Acting, performed}
use Rattle.rx_meaning.specs.Patterns.{decided, tested, closed, bound, begun}

-- the functions of a program by their items' numbers; other items have none
abbrev pub Functions : Type 0
Functions = List (Option Function)

-- what an expression does, its value going to a temporary
abbrev pub Meaning : Type 0 → Type 0
Meaning E = Exp → Temporary → State → Result E Value

-- ---- turns

-- one turn, unless none is left
abbrev pub turn_at : {E A : Type 0} → ℕ → State → (State → Result E A) → Result E A
turn_at zero s go = stops [] running
turn_at (suc n) s go = go (with_turns s n)

unfoldable pub take_turn : {E A : Type 0} → State → (State → Result E A) → Result E A
take_turn s go = turn_at s.turns s go

-- ---- loops (Rust Reference, "Loop expressions")

-- a jump out of a pass: it ends this loop, or the pass alone, or it goes further out
abbrev pub passed_by : {E : Type 0} → ℕ → List E → Exit → Value → State → (State → Result E Value) → Result E Value
passed_by l w (breaks n k) v s again = if nat_eq k l then on w unit_value s else jumps w (breaks n k) v s
passed_by l w (continues n k) v s again = if nat_eq k l then after w (again s) else jumps w (continues n k) v s
passed_by l w (returns n) v s again = jumps w (returns n) v s

unfoldable pub passed : {E : Type 0} → ℕ → Result E Value → (State → Result E Value) → Result E Value
passed l (on w v s) again = after w (again s)
passed l (jumps w x v s) again = passed_by l w x v s again
passed l (stops w e) again = stops w e

-- ---- calls (Rust Reference, "Call expressions")

-- a body leaves by giving; then the caller's frame is the one again
abbrev pub back_in : {E : Type 0} → Frame → List E → Exit → Value → State → Result E Value
back_in F w (returns n) v s = on w v (record s { frame = F })
back_in F w _ v s = stops w (wrong missing_value)

unfoldable pub returned : {E : Type 0} → Acting E → Frame → Result E Value → Result E Value
returned A F (on w v s) = stops (A.inner w) (wrong missing_value)
returned A F (jumps w x v s) = back_in F (A.inner w) x v s
returned A F (stops w e) = stops (A.inner w) e

unfoldable pub with_arguments : {E : Type 0} → Acting E → List Parameter → ℕ → List Value → (State → Result E Value) → State → Result E Value
with_arguments A [] n [] go s = go s
with_arguments A (p ∷ ps) n (v ∷ vs) go s =
    bind (performed A (declared_parameter p) [] s) (λ u s1. bind (performed A (written_parameter p) (v ∷ []) s1) (λ w s2.
    closed A n p.variable (with_arguments A ps n vs go s2)))
with_arguments A _ n _ go s = stops [] (wrong mistyped)

abbrev pub activation : {E : Type 0} → Acting E → Meaning E → Function → List Value → State → Result E Value
activation A below f vs s = with_arguments A f.params (mark_of f.body).node vs (λ s1. below f.body (temporary_of f.body) s1) s

-- of the function of an item
abbrev pub entered : {E : Type 0} → Acting E → Meaning E → ℕ → Function → List Value → State → Result E Value
entered A below i f vs s = returned A s.frame (activation A below f vs (record s { frame = new_frame i }))

abbrev pub found : {E : Type 0} → Option (Option Function) → (Function → Result E Value) → Result E Value
found (Some (Some f)) go = go f
found _ go = stops [] (wrong missing_function)

-- ---- the bodies of called functions and the passes of loops have the meaning below

unfoldable mutual
  pub value : {E : Type 0} → Acting E → Functions → Meaning E → Exp → Temporary → State → Result E Value
  -- "Place expressions and value expressions": a place as a value
  value A P below (read m moves p) d s = performed A (at_mark m (Read moves p d)) [] s
  -- "Literal expressions", "Operator expressions", "Tuple expressions", "Struct expressions": operands first
  value A P below (build m w es) d s =
      bind (values A P below es s) (λ vs s1. performed A (at_mark m (Build w (fields_of es) (temporaries_of es) d)) vs s1)
  value A P below (unit m) d s = on [] unit_value s
  -- "Block expressions"
  value A P below (block m b) d s = body A P below b m.node d s
  -- "Borrow operators"; a value of type `&mut T` that becomes `&T`
  value A P below (borrow m k p) d s = performed A (at_mark m (Borrow k p d)) [] s
  value A P below (share m e) d s =
      bind (value A P below e (temporary_at m.node 1) s) (λ v s1.
      performed A (at_mark m (Borrow false (under (temporary_place (temporary_at m.node 1)) (Step.Deref true ∷ [])) d)) (v ∷ []) s1)
  -- "Lazy boolean operators"
  value A P below (lazily m b e f) d s =
      bind (value A P below e (temporary_of e) s) (λ v s1.
      bind (performed A (at_mark m (Test (temporary_place (temporary_of e)) (equals (tree.truth b)))) (v ∷ []) s1) (λ t s2.
      bind (decided t (λ s3. value A P below f (temporary_of f) s3) (λ s3. on [] v s3) s2) (λ w s4.
      performed A (at_mark m (Build lazy [] (temporary_of e ∷ temporary_of f ∷ []) d)) (w ∷ []) s4)))
  -- "Assignment expressions", "Compound assignment expressions" (of integers): the right side, then the place
  value A P below (assign m p e) d s =
      bind (value A P below e (temporary_of e) s) (λ v s1. performed A (at_mark m (Write p (temporary_of e) [])) (v ∷ []) s1)
  value A P below (update m o p e) d s =
      bind (value A P below e (temporary_of e) s) (λ v s1. bind (performed A (at_mark m (Read false p (temporary_at m.node 1))) [] s1) (λ u s2.
      bind (performed A (at_mark m (Build (operation o) [] (temporary_at m.node 1 ∷ temporary_of e ∷ []) (temporary_at m.node 2)))
      (u ∷ v ∷ []) s2) (λ w s3.
      performed A (at_mark m (Write p (temporary_at m.node 2) [])) (w ∷ []) s3)))
  -- "Call expressions"
  value A P below (call m f es) d s =
      bind (values A P below es s) (λ vs s1. bind (performed A (at_mark m (Call f (temporaries_of es) d)) vs s1) (λ u s2.
      found (element P f) (λ g. take_turn s2 (λ s3. entered A below f g vs s3))))
  -- `rt::next()`, `println!`
  value A P below (input m) d s = performed A (at_mark m (Input d)) [] s
  value A P below (print m e) d s =
      bind (value A P below e (temporary_of e) s) (λ v s1. performed A (at_mark m (Print (temporary_of e))) (v ∷ []) s1)
  -- "Loop expressions"
  value A P below (loop m l e) d s = take_turn s (λ s1. passed l (below e (temporary_of e) s1) (λ s2. below (loop m l e) d s2))
  value A P below (jump m l again) d s = jumps [] (exit m.node l again) unit_value s
  -- "if expressions", "match expressions"
  value A P below (choose m c l) d s = bind (matched A P below c s) (λ vs s1. arms A P below (subject c) vs l d s1)
  -- "return expressions", and the end of a body
  value A P below (give m e) d s =
      bind (value A P below e (temporary_of e) s) (λ v s1. bind (performed A (at_mark m (Give (temporary_of e))) (v ∷ []) s1) (λ w s2.
      jumps [] (returns m.node) w s2))

  -- from left to right
  pub values : {E : Type 0} → Acting E → Functions → Meaning E → Operands → State → Result E (List Value)
  values A P below no_operand s = on [] [] s
  values A P below (operand_and i e es) s =
      bind (value A P below e (temporary_of e) s) (λ v s1. bind (values A P below es s1) (λ vs s2. on [] (v ∷ vs) s2))

  -- what is held of a scrutinee: the value, unless it is a place
  pub matched : {E : Type 0} → Acting E → Functions → Meaning E → Scrutinee → State → Result E (List Value)
  matched A P below (at_place m p) s = on [] [] s
  matched A P below (of_value e) s = bind (value A P below e (temporary_of e) s) (λ v s1. on [] (v ∷ []) s1)

  -- the first arm whose tests hold
  pub arms : {E : Type 0} → Acting E → Functions → Meaning E → Subject → List Value → Arms → Temporary → State → Result E Value
  arms A P below S vs no_arm d s = stops [] (wrong missing_arm)
  arms A P below S vs (arm_and p e rest) d s =
      tested A S vs (tests [] p) (λ s1. bound A S vs (bindings [] p) (mark_of e).node (λ s2. value A P below e d s2) s1)
      (λ s1. arms A P below S vs rest d s1) s

  -- the statements of the block at a node
  pub body : {E : Type 0} → Acting E → Functions → Meaning E → Body → ℕ → Temporary → State → Result E Value
  body A P below (ends e) n d s = value A P below e d s
  body A P below (runs e rest) n d s = bind (value A P below e (temporary_of e) s) (λ v s1. body A P below rest n d s1)
  body A P below (declares i xs rest) n d s = begun A i xs n (λ s1. body A P below rest n d s1) s
  body A P below (lets i p c rest) n d s =
      bind (matched A P below c s) (λ vs s1. bound A (subject c) vs (bindings [] p) n (λ s2. body A P below rest n d s2) s1)

-- the meaning where so many turns may be nested
unfoldable pub below_level : {E : Type 0} → Acting E → Functions → ℕ → Meaning E
below_level A P zero e d s = stops [] running
below_level A P (suc n) e d s = value A P (below_level A P n) e d s

-- a call of the function of an item
abbrev pub called : {E : Type 0} → Acting E → Functions → ℕ → ℕ → List Value → State → Result E Value
called A P n f vs s = found (element P f) (λ g. take_turn s (λ s1. entered A (below_level A P n) f g vs s1))
