-- The order of actions: what each form of the typed tree does, and in which order.
-- (Rust Reference, "Expressions", "Evaluation order of operands"; "Destructors", "Drop scopes" for where variables end.)
use Rattle.std.specs.Prelude.{ℕ, Bool, true, false, List, [], ◌∷◌, Option, Some, None}
use Rattle.rx_core.specs.declared.types.Step.TheVariants as step
use Rattle.rx_typed.specs.Tree.{Temporary, truth, operation, lazy, Exp, read, borrow, share, build, unit, lazily, assign, update, call, input, print, block, choose, loop, jump, give, Operands, no_operand, operand_and, Scrutinee, at_place, of_value, Arms, no_arm, arm_and, Body, ends, runs, declares, lets, Parameter, Function, own, temporary_place, under, mark_of, temporary_at, temporary_of, temporaries_of, fields_of}
use Rattle.rx_lower_walks.specs.Matching.{equals, PartTest, Binding, tests, bindings}
use Rattle.rx_lower_walks.specs.Actions.{Act, Declare, Read, Write, Borrow, Test, Call, Build, Input, Print, Give, Action, does, at_mark, Subject, subject, test_of, taken, declared, written}

-- a way out of a part, at the node of its jump
pub data Exit : Type 0 where
  -- the jump, the loop's number
  breaks : ℕ → ℕ → Exit
  continues : ℕ → ℕ → Exit
  -- `return`, and the end of a body
  returns : ℕ → Exit

abbrev pub exit_node : Exit → ℕ
exit_node (breaks n l) = n
exit_node (continues n l) = n
exit_node (returns n) = n

-- what a part may do
pub data Order : Type 0 where
  -- it goes on without an action; it never goes on
  nothing : Order
  nowhere : Order
  act : Action → Order
  then : Order → Order → Order
  or : Order → Order → Order
  leave : Exit → Order
  -- a test has failed; what comes where a test in the first part fails
  fail : Order
  otherwise : Order → Order → Order
  -- a variable that ends where the part does: at this node, or at the jump's
  ending : ℕ → ℕ → Order → Order
  -- any number of passes of a loop, by its number
  passes : ℕ → Order → Order

-- ---- patterns

-- each test may fail, and leads on to the next arm then
abbrev pub testing : Subject → List PartTest → Order → Order
testing S [] rest = rest
testing S (t ∷ ts) rest = then (act (test_of S t)) (or (testing S ts rest) fail)

abbrev pub perhaps : ℕ → Option Act → Order
perhaps n None = nothing
perhaps n (Some a) = act (does n a)

-- each binding: Read or Borrow where there is one, Declare, Write. The variables end where the part does, at this node
abbrev pub binding : Subject → List Binding → ℕ → Order → Order
binding S [] n rest = rest
binding S (b ∷ bs) n rest =
    then (perhaps b.node (taken S b)) (then (act (declared b)) (then (act (written S b)) (ending n b.variable (binding S bs n rest))))

abbrev pub declaring : ℕ → List ℕ → ℕ → Order → Order
declaring s [] n rest = rest
declaring s (x ∷ xs) n rest = then (act (does s (Declare x))) (ending n x (declaring s xs n rest))

-- ---- jumps

abbrev pub exit : ℕ → ℕ → Bool → Exit
exit n l true = continues n l
exit n l false = breaks n l

-- ---- expressions: each with the temporary that its value goes to

abbrev mutual
  pub order : Exp → Temporary → Order
  -- a place as a value
  order (read m moves p) d = act (at_mark m (Read moves p d))
  -- literals, operators, tuples, variants, struct literals: operands from left to right, as written
  order (build m w es) d = then (order_all es) (act (at_mark m (Build w (fields_of es) (temporaries_of es) d)))
  -- `&&`, `||`: the right operand or not
  order (lazily m b e f) d =
      then (order e (temporary_of e)) (then (act (at_mark m (Test (temporary_place (temporary_of e)) (equals (truth b)))))
      (then (or (order f (temporary_of f)) nothing) (act (at_mark m (Build lazy [] (temporary_of e ∷ temporary_of f ∷ []) d)))))
  -- `&p`, `&mut p`, a reborrow; a value that becomes shared
  order (borrow m k p) d = act (at_mark m (Borrow k p d))
  order (share m e) d = then (order e (temporary_at m.node 1)) (act (at_mark m (Borrow false (under (temporary_place (temporary_at m.node 1)) (step.Deref true ∷ [])) d)))
  order (call m f es) d = then (order_all es) (act (at_mark m (Call f (temporaries_of es) d)))
  -- `rt::next()`, `println!`
  order (input m) d = act (at_mark m (Input d))
  order (print m e) d = then (order e (temporary_of e)) (act (at_mark m (Print (temporary_of e))))
  -- `p = e`
  order (assign m p e) d = then (order e (temporary_of e)) (act (at_mark m (Write p (temporary_of e) [])))
  -- `p op= e`
  order (update m o p e) d =
      then (order e (temporary_of e)) (then (act (at_mark m (Read false p (temporary_at m.node 1))))
      (then (act (at_mark m (Build (operation o) [] (temporary_at m.node 1 ∷ temporary_of e ∷ []) (temporary_at m.node 2))))
      (act (at_mark m (Write p (temporary_at m.node 2) [])))))
  -- `match`, `if`, `if let`
  order (choose m s l) d = then (order_scrutinee s) (order_arms (subject s) l d)
  -- `loop`, `while`, `while let`
  order (loop m l e) d = passes l (order e (temporary_of e))
  order (jump m l again) d = leave (exit m.node l again)
  -- `return`, the end of a body
  order (give m e) d = then (order e (temporary_of e)) (then (act (at_mark m (Give (temporary_of e)))) (leave (returns m.node)))
  -- the unit and blocks have no action of their own
  order (unit m) d = nothing
  order (block m b) d = order_body b m.node d

  pub order_all : Operands → Order
  order_all no_operand = nothing
  order_all (operand_and i e es) = then (order e (temporary_of e)) (order_all es)

  -- unless it is a place
  pub order_scrutinee : Scrutinee → Order
  order_scrutinee (at_place m p) = nothing
  order_scrutinee (of_value e) = order e (temporary_of e)

  -- tests, then bindings, then the arm's body; from the last arm no failed test leads on
  pub order_arms : Subject → Arms → Temporary → Order
  order_arms S no_arm d = nowhere
  order_arms S (arm_and p e rest) d =
      otherwise (testing S (tests [] p) (binding S (bindings [] p) (mark_of e).node (order e d))) (order_arms S rest d)

  -- the statements of the block at this node
  pub order_body : Body → ℕ → Temporary → Order
  order_body (ends e) n d = order e d
  order_body (runs e rest) n d = then (order e (temporary_of e)) (order_body rest n d)
  order_body (declares s xs rest) n d = declaring s xs n (order_body rest n d)
  order_body (lets s p c rest) n d = then (order_scrutinee c) (binding (subject c) (bindings [] p) n (order_body rest n d))

-- ---- functions

-- each parameter is declared and written, from a temporary of its own
abbrev pub argument : Parameter → Temporary
argument p = temporary_at p.node 0

abbrev pub declared_parameter : Parameter → Action
declared_parameter p = does p.node (Declare p.variable)

abbrev pub written_parameter : Parameter → Action
written_parameter p = does p.node (Write (own p.variable) (argument p) [])

abbrev pub beginning : List Parameter → ℕ → Order → Order
beginning [] n rest = rest
beginning (p ∷ ps) n rest = then (act (declared_parameter p)) (then (act (written_parameter p)) (ending n p.variable (beginning ps n rest)))

abbrev pub order_function : Function → Order
order_function f = beginning f.params (mark_of f.body).node (order f.body (temporary_of f.body))
