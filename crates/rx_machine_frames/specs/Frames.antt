-- A run step by step: what a form does first, what is left of it while an operand is out, and the frames of what is left
-- around.
use Rattle.std.specs.Prelude.{ℕ, true, false, Bool, List, [], ◌∷◌, ◌++◌}
use Rattle.rx_core.specs.declared.types.Step.{Step}
use Rattle.rx_tree.specs.declared.tree.BinaryOp.{BinaryOp}
use Rattle.rx_typed.specs.Tree.{Mark, Place, Pattern, Making, operation, lazy, temporary_of, Exp, read, borrow, share, build, unit, lazily, assign, update, call, input, print, block, choose, loop, jump, give, Operands, no_operand, operand_and, Scrutinee, at_place, of_value, Arms, Body, ends, runs, declares, lets, temporary_place, under, fields_of}
use Rattle.rx_typed.specs.Tree as tree
use Rattle.rx_lower_walks.specs.Matching.{equals, bindings}
use Rattle.rx_lower_walks.specs.Actions.{Act, Read, Write, Borrow, Test, Build, Input, Print, Subject, in_place, in_temporary}
use Rattle.rx_lower_walks.specs.Orders.{Exit, exit, returns}
use Rattle.rx_meaning.specs.Values.{Value, unit_value, element, Frame, State}
use Rattle.rx_meaning.specs.Results.{Result, on, jumps, bind}
use Rattle.rx_meaning.specs.Acting.{plainly}
use Rattle.rx_meaning.specs.Patterns.{decided}
use Rattle.rx_meaning.specs.Expressions.{Functions, take_turn, passed, returned, found}
use Rattle.rx_machine_running.specs.Running.{Meaning, nowhere, acts, bound, begun, entered, value, values, arms, body}

-- what operands are for
pub data Work : Type 0 where
  makes : Making → List ℕ → Work
  calls : ℕ → Work

-- what is left of a form while an operand is out
pub data Hole : Type 0 where
  -- the values of the operands before it, the operands behind it
  operand : Work → List Value → Operands → Hole
  shares : Hole
  -- of `&&` and `||`: the first operand, with the second; the second
  first_of : Bool → Exp → Hole
  second_of : Hole
  assigns : Place → Hole
  updates : BinaryOp → Place → Hole
  prints : Hole
  -- by its node
  gives_back : ℕ → Hole
  scrutinee : Subject → Arms → Hole
  statement : Body → Hole
  initialiser : Subject → Pattern → Body → Hole

-- what comes next
pub data Next : Type 0 where
  goes_into : Exp → Next
  -- a part, while the hole waits for it
  part : Hole → Exp → Next
  gives : Value → Next
  performs : Act → List Value → Next
  finishes : Work → List Value → Next
  runs_body : Body → Next
  tries : Subject → List Value → Arms → Next
  binds : Subject → List Value → Pattern → Body → Next
  begins : List ℕ → Body → Next
  loops : Mark → ℕ → Exp → Next
  leaves : Exit → Value → Next
  -- the first operand of `&&` or `||` gave this
  decides : Bool → Value → Exp → Next
  modifies : BinaryOp → Place → Value → Next

-- ---- what they mean

abbrev pub finish : Functions → Meaning → Work → List Value → State → Result ℕ Value
finish P below (makes w js) vs s = acts (Build w js [] nowhere) vs s
finish P below (calls f) vs s = found (element P f) (λ g. take_turn s (λ s1. entered below f g vs s1))

abbrev pub decide : Functions → Meaning → Bool → Value → Exp → State → Result ℕ Value
decide P below b v f s =
    bind (acts (Test (temporary_place nowhere) (equals (tree.truth b))) (v ∷ []) s) (λ t s1.
    bind (decided t (λ s2. value P below f s2) (λ s2. on [] v s2) s1) (λ w s3. acts (Build lazy [] [] nowhere) (w ∷ []) s3))

abbrev pub modify : BinaryOp → Place → Value → State → Result ℕ Value
modify o p v s =
    bind (acts (Read false p nowhere) [] s) (λ u s1. bind (acts (Build (operation o) [] [] nowhere) (u ∷ v ∷ []) s1) (λ w s2.
    acts (Write p nowhere []) (w ∷ []) s2))

-- what is done with the value of the operand that was out
abbrev pub resume : Functions → Meaning → Hole → Value → State → Result ℕ Value
resume P below (operand w vs es) v s = bind (values P below es s) (λ ws s1. finish P below w (vs ++ v ∷ ws) s1)
resume P below shares v s = acts (Borrow false (under (temporary_place nowhere) (Step.Deref true ∷ [])) nowhere) (v ∷ []) s
resume P below (first_of b f) v s = decide P below b v f s
resume P below second_of v s = acts (Build lazy [] [] nowhere) (v ∷ []) s
resume P below (assigns p) v s = acts (Write p nowhere []) (v ∷ []) s
resume P below (updates o p) v s = modify o p v s
resume P below prints v s = acts (Print nowhere) (v ∷ []) s
resume P below (gives_back n) v s = jumps [] (returns n) v s
resume P below (scrutinee S l) v s = arms P below S (v ∷ []) l s
resume P below (statement b) v s = body P below b s
resume P below (initialiser S p b) v s = bound S (v ∷ []) (bindings [] p) (λ s1. body P below b s1) s

abbrev pub does_next : Functions → Meaning → Next → State → Result ℕ Value
does_next P below (goes_into e) s = value P below e s
does_next P below (part h e) s = bind (value P below e s) (λ v s1. resume P below h v s1)
does_next P below (gives v) s = on [] v s
does_next P below (performs a vs) s = acts a vs s
does_next P below (finishes w vs) s = finish P below w vs s
does_next P below (runs_body b) s = body P below b s
does_next P below (tries S vs l) s = arms P below S vs l s
does_next P below (binds S vs p b) s = bound S vs (bindings [] p) (λ s1. body P below b s1) s
does_next P below (begins xs b) s = begun xs (λ s1. body P below b s1) s
does_next P below (loops m l e) s = take_turn s (λ s1. passed l (below e s1) (λ s2. below (loop m l e) s2))
does_next P below (leaves x v) s = jumps [] x v s
does_next P below (decides b v f) s = decide P below b v f s
does_next P below (modifies o p v) s = modify o p v s

-- ---- steps

abbrev pub opened_operands : Work → Operands → Next
opened_operands w no_operand = finishes w []
opened_operands w (operand_and i e es) = part (operand w [] es) e

abbrev pub opened_choice : Scrutinee → Arms → Next
opened_choice (at_place m p) l = tries (in_place p) [] l
opened_choice (of_value e) l = part (scrutinee (in_temporary (temporary_of e)) l) e

abbrev pub opened_let : Scrutinee → Pattern → Body → Next
opened_let (at_place m q) p b = binds (in_place q) [] p b
opened_let (of_value e) p b = part (initialiser (in_temporary (temporary_of e)) p b) e

-- what an expression does first
abbrev pub opened : Exp → Next
opened (read m moves p) = performs (Read moves p nowhere) []
opened (build m w es) = opened_operands (makes w (fields_of es)) es
opened (unit m) = gives unit_value
opened (block m b) = runs_body b
opened (borrow m k p) = performs (Borrow k p nowhere) []
opened (share m e) = part shares e
opened (lazily m b e f) = part (first_of b f) e
opened (assign m p e) = part (assigns p) e
opened (update m o p e) = part (updates o p) e
opened (call m f es) = opened_operands (calls f) es
opened (input m) = performs (Input nowhere) []
opened (print m e) = part prints e
opened (loop m l e) = loops m l e
opened (jump m l again) = leaves (exit m.node l again) unit_value
opened (choose m c l) = opened_choice c l
opened (give m e) = part (gives_back m.node) e

-- what a block does first
abbrev pub opened_body : Body → Next
opened_body (ends e) = goes_into e
opened_body (runs e rest) = part (statement rest) e
opened_body (declares i xs rest) = begins xs rest
opened_body (lets i p c rest) = opened_let c p rest

-- what is done with the value of an operand
abbrev pub filled : Hole → Value → Next
filled (operand w vs no_operand) v = finishes w (vs ++ v ∷ [])
filled (operand w vs (operand_and i e es)) v = part (operand w (vs ++ v ∷ []) es) e
filled shares v = performs (Borrow false (under (temporary_place nowhere) (Step.Deref true ∷ [])) nowhere) (v ∷ [])
filled (first_of b f) v = decides b v f
filled second_of v = performs (Build lazy [] [] nowhere) (v ∷ [])
filled (assigns p) v = performs (Write p nowhere []) (v ∷ [])
filled (updates o p) v = modifies o p v
filled prints v = performs (Print nowhere) (v ∷ [])
filled (gives_back n) v = leaves (returns n) v
filled (scrutinee S l) v = tries S (v ∷ []) l
filled (statement b) v = runs_body b
filled (initialiser S p b) v = binds S (v ∷ []) p b

-- ---- frames

pub data Around : Type 0 where
  hole : Hole → Around
  -- a pass of a loop
  pass : Mark → ℕ → Exp → Around
  -- a call, with the caller's frame
  call_from : Frame → Around

-- the rest of a run, the innermost frame first
unfoldable pub unwind : Functions → Meaning → List Around → Result ℕ Value → Result ℕ Value
unwind P below [] r = r
unwind P below (hole h ∷ K) r = unwind P below K (bind r (λ v s. resume P below h v s))
unwind P below (pass m l e ∷ K) r = unwind P below K (passed l r (λ s. below (loop m l e) s))
unwind P below (call_from F ∷ K) r = unwind P below K (returned plainly F r)
