-- The temporaries that get the unit by no action: that of a `()`, and those of an assignment, of a print and of a loop, where such
-- a part goes on, and what stands in front of it does (Rust Reference, "Tuple expressions"; "Assignment expressions"; "Loop
-- expressions"; "Never type").
use Rattle.std.specs.Prelude.{◌≡◌, ◌⊎◌, List}
use Rattle.rx_typed.specs.Tree.{Temporary, Exp, read, borrow, share, build, unit, lazily, assign, update, call, input, print, block, choose, loop, jump, give, Operands, no_operand, operand_and, Scrutinee, at_place, of_value, Arms, no_arm, arm_and, Body, ends, runs, lets, Function, temporary_at, temporary_of}
use Rattle.rx_typed.specs.Tree as tree
use Rattle.rx_lower_walks.specs.Actions.{Action}
use Rattle.rx_lower_walks.specs.Orders.{Order, order, order_scrutinee}
use Rattle.rx_lower_walks.specs.Walks.{Walk}
use Rattle.rx_lower_walks.specs.Walks as walk

-- some walk goes on behind it
abbrev pub GoesOn : Order → Type 0
GoesOn V = (o : List Action) × Walk V o walk.on

-- in an expression whose value goes to a temporary
abbrev mutual
  pub FillsUnit : Exp → Temporary → Temporary → Type 0
  FillsUnit (unit m) d t = (t ≡ d) × GoesOn (order (unit m) d)
  FillsUnit (assign m p e) d t = FillsUnit e (temporary_of e) t ⊎ ((t ≡ d) × GoesOn (order (assign m p e) d))
  FillsUnit (update m o p e) d t = FillsUnit e (temporary_of e) t ⊎ ((t ≡ d) × GoesOn (order (update m o p e) d))
  FillsUnit (print m e) d t = FillsUnit e (temporary_of e) t ⊎ ((t ≡ d) × GoesOn (order (print m e) d))
  FillsUnit (loop m l e) d t = FillsUnit e (temporary_of e) t ⊎ ((t ≡ d) × GoesOn (order (loop m l e) d))
  FillsUnit (read m v p) d t = ⊥
  FillsUnit (borrow m k p) d t = ⊥
  FillsUnit (share m e) d t = FillsUnit e (temporary_at m.node 1) t
  FillsUnit (build m w es) d t = OperandsFill es t
  FillsUnit (lazily m b e f) d t = FillsUnit e (temporary_of e) t ⊎ (GoesOn (order e (temporary_of e)) × FillsUnit f (temporary_of f) t)
  FillsUnit (call m f es) d t = OperandsFill es t
  FillsUnit (input m) d t = ⊥
  FillsUnit (block m b) d t = BodyFills b d t
  FillsUnit (choose m c l) d t = ScrutineeFills c t ⊎ (GoesOn (order_scrutinee c) × ArmsFill l d t)
  FillsUnit (jump m l k) d t = ⊥
  FillsUnit (give m e) d t = FillsUnit e (temporary_of e) t

  pub OperandsFill : Operands → Temporary → Type 0
  OperandsFill no_operand t = ⊥
  OperandsFill (operand_and i e es) t = FillsUnit e (temporary_of e) t ⊎ (GoesOn (order e (temporary_of e)) × OperandsFill es t)

  pub ScrutineeFills : Scrutinee → Temporary → Type 0
  ScrutineeFills (at_place m p) t = ⊥
  ScrutineeFills (of_value e) t = FillsUnit e (temporary_of e) t

  pub ArmsFill : Arms → Temporary → Temporary → Type 0
  ArmsFill no_arm d t = ⊥
  ArmsFill (arm_and p e rest) d t = FillsUnit e d t ⊎ ArmsFill rest d t

  pub BodyFills : Body → Temporary → Temporary → Type 0
  BodyFills (ends e) d t = FillsUnit e d t
  BodyFills (runs e rest) d t = FillsUnit e (temporary_of e) t ⊎ (GoesOn (order e (temporary_of e)) × BodyFills rest d t)
  BodyFills (tree.declares i xs rest) d t = BodyFills rest d t
  BodyFills (lets i p c rest) d t = ScrutineeFills c t ⊎ (GoesOn (order_scrutinee c) × BodyFills rest d t)

-- in a function
abbrev pub IsUnitOf : Function → Temporary → Type 0
IsUnitOf F t = FillsUnit F.body (temporary_of F.body) t
