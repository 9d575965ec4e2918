-- A typed tree with other blocks, jumps and operands of `return`, all else being as it was.
use Rattle.std.specs.Prelude.{ℕ, Bool}
use Rattle.rx_typed.specs.Tree.{Mark, Exp, read, borrow, share, build, unit, lazily, assign, update, call, input, print, block, choose, loop, jump, give, Operands, no_operand, operand_and, Scrutinee, at_place, of_value, Arms, no_arm, arm_and, Body, ends, runs, declares, lets, Function}
use Rattle.rx_exits_plan.specs.Blocks.{Statement, does, begins, binds}

pub record Changes : Type 0 where
  -- of the block at this node: its body, and the body with changes inside
  pub at_block : ℕ → Body → Body → Body
  -- of a `break` or `continue`: its mark, the loop, whether its next pass begins
  pub at_jump : Mark → ℕ → Bool → Exp
  -- of the operand of a `return`, with changes inside; the `give` of a function's body is one too
  pub at_return : Exp → Exp

abbrev mutual
  pub changed : Changes → Exp → Exp
  changed C (read m v p) = read m v p
  changed C (borrow m k p) = borrow m k p
  changed C (share m e) = share m (changed C e)
  changed C (build m w es) = build m w (changed_all C es)
  changed C (unit m) = unit m
  changed C (lazily m b e f) = lazily m b (changed C e) (changed C f)
  changed C (assign m p e) = assign m p (changed C e)
  changed C (update m o p e) = update m o p (changed C e)
  changed C (call m f es) = call m f (changed_all C es)
  changed C (input m) = input m
  changed C (print m e) = print m (changed C e)
  changed C (block m b) = block m (C.at_block m.node b (changed_body C b))
  changed C (choose m s l) = choose m (changed_matched C s) (changed_arms C l)
  changed C (loop m l e) = loop m l (changed C e)
  changed C (jump m l k) = C.at_jump m l k
  changed C (give m e) = give m (C.at_return (changed C e))

  pub changed_all : Changes → Operands → Operands
  changed_all C no_operand = no_operand
  changed_all C (operand_and i e es) = operand_and i (changed C e) (changed_all C es)

  pub changed_matched : Changes → Scrutinee → Scrutinee
  changed_matched C (at_place m p) = at_place m p
  changed_matched C (of_value e) = of_value (changed C e)

  pub changed_arms : Changes → Arms → Arms
  changed_arms C no_arm = no_arm
  changed_arms C (arm_and p e l) = arm_and p (changed C e) (changed_arms C l)

  pub changed_body : Changes → Body → Body
  changed_body C (ends e) = ends (changed C e)
  changed_body C (runs e b) = runs (changed C e) (changed_body C b)
  changed_body C (declares s xs b) = declares s xs (changed_body C b)
  changed_body C (lets s p c b) = lets s p (changed_matched C c) (changed_body C b)

abbrev pub changed_statement : Changes → Statement → Statement
changed_statement C (does e) = does (changed C e)
changed_statement C (begins s xs) = begins s xs
changed_statement C (binds s p c) = binds s p (changed_matched C c)

abbrev pub changed_function : Changes → Function → Function
changed_function C f = record { params = f.params; body = changed C f.body }
