-- What stands in a function that a run is found by and left at: its blocks and its jumps, in the order of the text, each with the
-- variables in scope and the loops around it (Rust Reference, "Scopes"; "Loop expressions", "break expressions").
use Rattle.std.specs.Prelude.{ℕ, Bool, List, [], ◌∷◌, ◌++◌, map, reverse}
use Rattle.rx_typed.specs.Tree.{Exp, read, borrow, share, build, unit, lazily, assign, update, call, input, print, block, choose, loop, jump, give, Operands, no_operand, operand_and, Scrutinee, at_place, of_value, Arms, no_arm, arm_and, Body, ends, runs, declares, lets, Parameter, Function}
use Rattle.rx_exits_plan.specs.Blocks.{bound}

-- the variables in scope, the last declared first; the loops, the innermost first
pub record Around : Type 0 where
  pub scope : List ℕ
  pub loops : List ℕ

pub data Spot : Type 0 where
  -- a block: its node and its body
  a_block : Around → ℕ → Body → Spot
  -- a `break` or `continue`: its node, the loop, whether the loop's next pass begins
  a_jump : Around → ℕ → ℕ → Bool → Spot
  -- a `return`, or the end of the function's body: its node
  a_return : Around → ℕ → Spot

abbrev pub with_variables : List ℕ → Around → Around
with_variables xs a = record { scope = reverse xs ++ a.scope; loops = a.loops }

abbrev pub with_loop : ℕ → Around → Around
with_loop l a = record { scope = a.scope; loops = l ∷ a.loops }

abbrev mutual
  pub spots : Around → Exp → List Spot
  spots a (read m v p) = []
  spots a (borrow m k p) = []
  spots a (share m e) = spots a e
  spots a (build m w es) = spots_in a es
  spots a (unit m) = []
  spots a (lazily m b e f) = spots a e ++ spots a f
  spots a (assign m p e) = spots a e
  spots a (update m o p e) = spots a e
  spots a (call m f es) = spots_in a es
  spots a (input m) = []
  spots a (print m e) = spots a e
  spots a (block m b) = a_block a m.node b ∷ spots_of a b
  spots a (choose m s l) = spots_matched a s ++ spots_armed a l
  spots a (loop m l e) = spots (with_loop l a) e
  spots a (jump m l k) = a_jump a m.node l k ∷ []
  spots a (give m e) = spots a e ++ a_return a m.node ∷ []

  pub spots_in : Around → Operands → List Spot
  spots_in a no_operand = []
  spots_in a (operand_and i e es) = spots a e ++ spots_in a es

  pub spots_matched : Around → Scrutinee → List Spot
  spots_matched a (at_place m p) = []
  spots_matched a (of_value e) = spots a e

  pub spots_armed : Around → Arms → List Spot
  spots_armed a no_arm = []
  spots_armed a (arm_and p e l) = spots (with_variables (bound p) a) e ++ spots_armed a l

  pub spots_of : Around → Body → List Spot
  spots_of a (ends e) = spots a e
  spots_of a (runs e b) = spots a e ++ spots_of a b
  spots_of a (declares s xs b) = spots_of (with_variables xs a) b
  spots_of a (lets s p c b) = spots_matched a c ++ spots_of (with_variables (bound p) a) b

abbrev pub outermost : Function → Around
outermost f = with_variables (map (λ (p : Parameter). p.variable) f.params) (record { scope = []; loops = [] })

abbrev pub spots_of_function : Function → List Spot
spots_of_function f = spots (outermost f) f.body
