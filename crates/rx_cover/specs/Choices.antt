-- The matches of a function in the order of the text: each `match`, each `let` with an initialiser, and each test, which
-- has two arms and is always covered (`if c`: `true` and `_`; `if let P = s` and `while let P = s`: `P` and `_`).
use Rattle.std.specs.Prelude.{ℕ, List, [], ◌∷◌, ◌++◌, Option}
use Rattle.rx_typed.specs.Types.{Typ}
use Rattle.rx_typed.specs.Tree.{Pattern, Exp, Operands, Scrutinee, Arms, Body, mark_of, read, borrow, share, build, unit, lazily, assign, update, call, input, print, block, choose, loop, jump, give, no_operand, operand_and, at_place, of_value, no_arm, arm_and, ends, runs, declares, lets}

pub record Choice : Type 0 where
  -- of the `match`, the statement, the `if` or the `while let`
  pub node : ℕ
  -- the scrutinee's type, where it is not Never
  pub typ : Option Typ
  pub arms : List Pattern

abbrev pub scrutinee_typ : Scrutinee → Option Typ
scrutinee_typ (at_place m p) = m.typ
scrutinee_typ (of_value e) = (mark_of e).typ

abbrev pub patterns_of : Arms → List Pattern
patterns_of no_arm = []
patterns_of (arm_and p e l) = p ∷ patterns_of l

abbrev pub choice_of : ℕ → Scrutinee → List Pattern → Choice
choice_of n s ps = record { node = n; typ = scrutinee_typ s; arms = ps }

-- by the node that names the match which an expression is: its own, or that of the `while` whose test it is
abbrev mutual
  pub choices : ℕ → Exp → List Choice
  choices n (read m v p) = []
  choices n (borrow m k p) = []
  choices n (share m e) = choices (mark_of e).node e
  choices n (build m w es) = choices_among es
  choices n (unit m) = []
  choices n (lazily m b e f) = choices (mark_of e).node e ++ choices (mark_of f).node f
  choices n (assign m p e) = choices (mark_of e).node e
  choices n (update m o p e) = choices (mark_of e).node e
  choices n (call m f es) = choices_among es
  choices n (input m) = []
  choices n (print m e) = choices (mark_of e).node e
  choices n (block m b) = choices_within b
  choices n (choose m s l) = choice_of n s (patterns_of l) ∷ (choices_before s ++ choices_behind l)
  choices n (loop m l e) = choices m.node e
  choices n (jump m l k) = []
  choices n (give m e) = choices (mark_of e).node e

  pub choices_among : Operands → List Choice
  choices_among no_operand = []
  choices_among (operand_and i e es) = choices (mark_of e).node e ++ choices_among es

  pub choices_before : Scrutinee → List Choice
  choices_before (at_place m p) = []
  choices_before (of_value e) = choices (mark_of e).node e

  pub choices_behind : Arms → List Choice
  choices_behind no_arm = []
  choices_behind (arm_and p e l) = choices (mark_of e).node e ++ choices_behind l

  pub choices_within : Body → List Choice
  choices_within (ends e) = choices (mark_of e).node e
  choices_within (runs e b) = choices (mark_of e).node e ++ choices_within b
  choices_within (declares n xs b) = choices_within b
  choices_within (lets n p s b) = choice_of n s (p ∷ []) ∷ (choices_before s ++ choices_within b)

abbrev pub choices_of : Exp → List Choice
choices_of e = choices (mark_of e).node e
