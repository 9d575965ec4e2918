-- What numbers, truth values, variables, constants and operators of numbers give at once, and what an assignment of that
-- to a variable leaves; none where anything else would be to do, or a trap.
use Rattle.std.specs.Prelude.{ℕ, zero, suc, List, [], ◌∷◌, Bool, true, false, Option, Some, None}
use Rattle.rx_core.specs.declared.types.Step.{Step}
use Rattle.rx_tree.specs.declared.tree.BinaryOp.{BinaryOp}
use Rattle.rx_typed.specs.Tree.{Constant, Root, variable, Pattern, any, exactly, constant, operation, Making, Exp, read, build, assign, update, Operands, no_operand, operand_and, Arms, no_arm, arm_and}
use Rattle.rx_lower_walks.specs.Matching.{equals}
use Rattle.rx_meaning.specs.Values.{Value, number, truth, and_then, element}
use Rattle.rx_meaning.specs.Places as places
use Rattle.rx_meaning.specs.Places.{after_write}
use Rattle.rx_meaning.specs.Operators.{Computed, gives, compute, value_of}
use Rattle.rx_meaning.specs.Acting.{checked}

-- the slot of a variable, where there is one
abbrev pub recorded : List (Option ℕ) → ℕ → Option ℕ
recorded [] x = None
recorded (o ∷ l) zero = o
recorded (o ∷ l) (suc x) = recorded l x

-- a number or a truth value
abbrev pub scalar : Value → Option Value
scalar (number k z) = Some (number k z)
scalar (truth b) = Some (truth b)
scalar _ = None

-- in a slot, in a variable, at a place that is a variable as a whole
abbrev pub in_slot : List Value → ℕ → Option Value
in_slot M i = and_then (element M i) scalar

abbrev pub in_memory : List Value → Option ℕ → Option Value
in_memory M None = None
in_memory M (Some i) = in_slot M i

abbrev pub at_place : List (Option ℕ) → List Value → Root → List Step → Option Value
at_place T M (variable x) [] = in_memory M (recorded T x)
at_place T M _ _ = None

abbrev pub given : Computed → Option Value
given (gives v) = Some v
given _ = None

-- an operator of two numbers
abbrev pub operated : BinaryOp → Value → Value → Option Value
operated o (number k x) (number j y) = given (compute o k x y)
operated o _ _ = None

-- of two operands, where both were given
abbrev pub both : BinaryOp → Option Value → Option Value → Option Value
both o u v = and_then u (λ a. and_then v (λ b. operated o a b))

abbrev pub of_constant : Constant → Operands → Option Value
of_constant c no_operand = Some (value_of c)
of_constant c _ = None

unfoldable mutual
  pub direct : List (Option ℕ) → List Value → Exp → Option Value
  direct T M (read m moves p) = at_place T M p.root p.steps
  direct T M (build m w es) = built T M w es
  direct T M _ = None

  pub built : List (Option ℕ) → List Value → Making → Operands → Option Value
  built T M (constant c) es = of_constant c es
  built T M (operation o) (operand_and i e (operand_and j f no_operand)) = both o (direct T M e) (direct T M f)
  built T M _ _ = None

-- the memory after a write to a variable
abbrev pub stored_in : List Value → Option ℕ → Value → Option (List Value)
stored_in M None v = None
stored_in M (Some i) v = after_write v M (places.in_slot i [] true)

abbrev pub stored : List (Option ℕ) → List Value → Root → List Step → Value → Option (List Value)
stored T M (variable x) [] v = stored_in M (recorded T x) v
stored T M _ _ v = None

-- the memory after an assignment
abbrev pub assigned : List (Option ℕ) → List Value → Exp → Option (List Value)
assigned T M (assign m p e) = and_then (direct T M e) (λ v. stored T M p.root p.steps v)
assigned T M (update m o p e) = and_then (both o (at_place T M p.root p.steps) (direct T M e)) (λ w. stored T M p.root p.steps w)
assigned T M _ = None

-- whether a pattern that binds nothing and looks at no part takes a number or truth value
abbrev pub fits : Value → Pattern → Option Bool
fits v any = Some true
fits v (exactly n c) = checked (equals c) v
fits v _ = None

-- the body of the first arm that does
abbrev pub if_fits : Option Bool → Exp → Option Exp → Option Exp
if_fits None e rest = None
if_fits (Some true) e rest = Some e
if_fits (Some false) e rest = rest

abbrev pub picked : Value → Arms → Option Exp
picked v no_arm = None
picked v (arm_and p e rest) = if_fits (fits v p) e (picked v rest)
