-- Typed trees whose places go through no variant but in patterns, and whose choices between arms, and `let`s, are of a kind (Rust
-- Reference, "Place expressions and value expressions"; "Match expressions"; "let statements").
use Rattle.rx_typed.specs.Tree.{Pattern, Exp, read, borrow, share, build, unit, lazily, assign, update, call, input, print, block, choose, loop, jump, give, Operands, no_operand, operand_and, Scrutinee, at_place, of_value, Arms, no_arm, arm_and, Body, ends, runs, lets}
use Rattle.rx_typed.specs.Tree as tree
use Rattle.rx_meaning_covered.specs.Ways.{IsDirect}

abbrev mutual
  pub Standing : (Scrutinee → Arms → Type 0) → (Scrutinee → Pattern → Type 0) → Exp → Type 0
  Standing C L (read m v p) = IsDirect p
  Standing C L (borrow m k p) = IsDirect p
  Standing C L (share m e) = Standing C L e
  Standing C L (build m w es) = StandingAll C L es
  Standing C L (unit m) = Unit {0}
  Standing C L (lazily m b e f) = Standing C L e × Standing C L f
  Standing C L (assign m p e) = IsDirect p × Standing C L e
  Standing C L (update m o p e) = IsDirect p × Standing C L e
  Standing C L (call m f es) = StandingAll C L es
  Standing C L (input m) = Unit {0}
  Standing C L (print m e) = Standing C L e
  Standing C L (block m b) = StandingBody C L b
  Standing C L (choose m c l) = StandingScrutinee C L c × C c l × StandingArms C L l
  Standing C L (loop m l e) = Standing C L e
  Standing C L (jump m l k) = Unit {0}
  Standing C L (give m e) = Standing C L e

  pub StandingAll : (Scrutinee → Arms → Type 0) → (Scrutinee → Pattern → Type 0) → Operands → Type 0
  StandingAll C L no_operand = Unit {0}
  StandingAll C L (operand_and i e es) = Standing C L e × StandingAll C L es

  pub StandingScrutinee : (Scrutinee → Arms → Type 0) → (Scrutinee → Pattern → Type 0) → Scrutinee → Type 0
  StandingScrutinee C L (at_place m p) = IsDirect p
  StandingScrutinee C L (of_value e) = Standing C L e

  pub StandingArms : (Scrutinee → Arms → Type 0) → (Scrutinee → Pattern → Type 0) → Arms → Type 0
  StandingArms C L no_arm = Unit {0}
  StandingArms C L (arm_and p e rest) = Standing C L e × StandingArms C L rest

  pub StandingBody : (Scrutinee → Arms → Type 0) → (Scrutinee → Pattern → Type 0) → Body → Type 0
  StandingBody C L (ends e) = Standing C L e
  StandingBody C L (runs e rest) = Standing C L e × StandingBody C L rest
  StandingBody C L (tree.declares i xs rest) = StandingBody C L rest
  StandingBody C L (lets i p c rest) = StandingScrutinee C L c × L c p × StandingBody C L rest

-- of any kind
abbrev pub AnyChoice : Scrutinee → Arms → Type 0
AnyChoice c l = Unit {0}

abbrev pub AnyLet : Scrutinee → Pattern → Type 0
AnyLet c p = Unit {0}
