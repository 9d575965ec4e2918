-- The choices between arms that stand in a part of a function, each with what it is matched against.
-- (Rust Reference, "Match expressions".)
use Rattle.std.specs.Prelude.{◌≡◌, ◌⊎◌}
use Rattle.rx_typed.specs.Tree.{Exp, read, borrow, share, build, unit, lazily, assign, update, call, input, print, block, choose, loop, jump, give, Operands, no_operand, operand_and, Scrutinee, at_place, of_value, Arms, no_arm, arm_and, Body, ends, runs, lets}
use Rattle.rx_typed.specs.Tree as tree
use Rattle.rx_lower_walks.specs.Actions.{Subject, subject}

abbrev mutual
  pub HasChoice : Subject → Arms → Exp → Type 0
  HasChoice S l (share m e) = HasChoice S l e
  HasChoice S l (build m w es) = OperandsHave S l es
  HasChoice S l (lazily m b e f) = HasChoice S l e ⊎ HasChoice S l f
  HasChoice S l (assign m p e) = HasChoice S l e
  HasChoice S l (update m o p e) = HasChoice S l e
  HasChoice S l (call m f es) = OperandsHave S l es
  HasChoice S l (print m e) = HasChoice S l e
  HasChoice S l (block m b) = BodyHas S l b
  -- a choice itself
  HasChoice S l (choose m c x) = ((subject c ≡ S) × (x ≡ l)) ⊎ ScrutineeHas S l c ⊎ ArmsHave S l x
  HasChoice S l (loop m k e) = HasChoice S l e
  HasChoice S l (give m e) = HasChoice S l e
  HasChoice S l (read m v p) = ⊥
  HasChoice S l (borrow m k p) = ⊥
  HasChoice S l (unit m) = ⊥
  HasChoice S l (input m) = ⊥
  HasChoice S l (jump m k a) = ⊥

  pub OperandsHave : Subject → Arms → Operands → Type 0
  OperandsHave S l no_operand = ⊥
  OperandsHave S l (operand_and i e es) = HasChoice S l e ⊎ OperandsHave S l es

  pub ScrutineeHas : Subject → Arms → Scrutinee → Type 0
  ScrutineeHas S l (at_place m p) = ⊥
  ScrutineeHas S l (of_value e) = HasChoice S l e

  pub ArmsHave : Subject → Arms → Arms → Type 0
  ArmsHave S l no_arm = ⊥
  ArmsHave S l (arm_and p e rest) = HasChoice S l e ⊎ ArmsHave S l rest

  pub BodyHas : Subject → Arms → Body → Type 0
  BodyHas S l (ends e) = HasChoice S l e
  BodyHas S l (runs e rest) = HasChoice S l e ⊎ BodyHas S l rest
  BodyHas S l (tree.declares i xs rest) = BodyHas S l rest
  BodyHas S l (lets i p c rest) = ScrutineeHas S l c ⊎ BodyHas S l rest
