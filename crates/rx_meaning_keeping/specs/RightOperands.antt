-- The temporaries of the right operands of `&&` and `||` that go on, where what stands in front of them does: what is joined may come
-- from one of them (Rust Reference, "Lazy boolean operators"; "Never type").
use Rattle.std.specs.Prelude.{◌≡◌, ◌⊎◌}
use Rattle.rx_typed.specs.Tree.{Temporary, Exp, read, borrow, share, build, unit, lazily, assign, update, call, input, print, block, choose, loop, jump, give, Operands, no_operand, operand_and, Scrutinee, at_place, of_value, Arms, no_arm, arm_and, Body, ends, runs, lets, Function, temporary_of}
use Rattle.rx_typed.specs.Tree as tree
use Rattle.rx_lower_walks.specs.Orders.{order, order_scrutinee}
use Rattle.rx_meaning_keeping.specs.Units.{GoesOn}

-- in an expression
abbrev mutual
  pub HasRight : Exp → Temporary → Type 0
  HasRight (lazily m b e f) t = HasRight e t ⊎ (GoesOn (order e (temporary_of e)) × (((t ≡ temporary_of f) × GoesOn (order f (temporary_of f))) ⊎ HasRight f t))
  HasRight (read m v p) t = ⊥
  HasRight (borrow m k p) t = ⊥
  HasRight (share m e) t = HasRight e t
  HasRight (build m w es) t = OperandsHaveRight es t
  HasRight (unit m) t = ⊥
  HasRight (assign m p e) t = HasRight e t
  HasRight (update m o p e) t = HasRight e t
  HasRight (call m f es) t = OperandsHaveRight es t
  HasRight (input m) t = ⊥
  HasRight (print m e) t = HasRight e t
  HasRight (block m b) t = BodyHasRight b t
  HasRight (choose m c l) t = ScrutineeHasRight c t ⊎ (GoesOn (order_scrutinee c) × ArmsHaveRight l t)
  HasRight (loop m l e) t = HasRight e t
  HasRight (jump m l k) t = ⊥
  HasRight (give m e) t = HasRight e t

  pub OperandsHaveRight : Operands → Temporary → Type 0
  OperandsHaveRight no_operand t = ⊥
  OperandsHaveRight (operand_and i e es) t = HasRight e t ⊎ (GoesOn (order e (temporary_of e)) × OperandsHaveRight es t)

  pub ScrutineeHasRight : Scrutinee → Temporary → Type 0
  ScrutineeHasRight (at_place m p) t = ⊥
  ScrutineeHasRight (of_value e) t = HasRight e t

  pub ArmsHaveRight : Arms → Temporary → Type 0
  ArmsHaveRight no_arm t = ⊥
  ArmsHaveRight (arm_and p e rest) t = HasRight e t ⊎ ArmsHaveRight rest t

  pub BodyHasRight : Body → Temporary → Type 0
  BodyHasRight (ends e) t = HasRight e t
  BodyHasRight (runs e rest) t = HasRight e t ⊎ (GoesOn (order e (temporary_of e)) × BodyHasRight rest t)
  BodyHasRight (tree.declares i xs rest) t = BodyHasRight rest t
  BodyHasRight (lets i p c rest) t = ScrutineeHasRight c t ⊎ (GoesOn (order_scrutinee c) × BodyHasRight rest t)

-- in a function
abbrev pub IsRightOf : Function → Temporary → Type 0
IsRightOf F t = HasRight F.body t
