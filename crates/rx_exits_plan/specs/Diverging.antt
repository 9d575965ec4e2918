-- When a part of a function never goes on, by its syntax. (Rust Reference, "Never type"; "Loop expressions", "break expressions".)
use Rattle.std.specs.Prelude.{ℕ, ◌==◌, Bool, true, false, not, ◌&&◌, ◌||◌, List, [], ◌∷◌, Option, Some, None}
use Rattle.rx_typed.specs.Tree.{Exp, read, borrow, share, build, unit, lazily, assign, update, call, input, print, block, choose, loop, jump, give, Operands, no_operand, operand_and, Scrutinee, at_place, of_value, Arms, no_arm, arm_and, Body, ends, runs, declares, lets}
use Rattle.rx_exits_plan.specs.Blocks.{Statement, does, begins, binds}
use Rattle.rx_exits_plan.specs.Spots.{Around, Spot, a_block, a_jump, a_return, spots}
use Rattle.rx_exits_plan.specs.Runs.{Run, inside, last_value}

-- some `break` leads to the loop of this number
abbrev pub is_broken : ℕ → List Spot → Bool
is_broken l [] = false
is_broken l (a_block a n b ∷ ss) = is_broken l ss
is_broken l (a_jump a n k again ∷ ss) = ((k == l) && not again) || is_broken l ss
is_broken l (a_return a n ∷ ss) = is_broken l ss

abbrev pub nothing_around : Around
nothing_around = record { scope = []; loops = [] }

abbrev mutual
  pub diverges : Exp → Bool
  diverges (read m v p) = false
  diverges (borrow m k p) = false
  diverges (share m e) = diverges e
  diverges (build m w es) = some_diverges es
  diverges (unit m) = false
  -- the right operand may be left out
  diverges (lazily m b e f) = diverges e
  diverges (assign m p e) = diverges e
  diverges (update m o p e) = diverges e
  diverges (call m f es) = some_diverges es
  diverges (input m) = false
  diverges (print m e) = diverges e
  diverges (block m b) = body_diverges b
  diverges (choose m s l) = matched_diverges s || all_diverge l
  -- the body of a `while` is a `choose`: its test comes first, and it has a way out; that of a `loop` is a block
  diverges (loop m l (choose n s rest)) = matched_diverges s
  diverges (loop m l e) = not (is_broken l (spots nothing_around e))
  diverges (jump m l k) = true
  diverges (give m e) = true

  pub some_diverges : Operands → Bool
  some_diverges no_operand = false
  some_diverges (operand_and i e es) = diverges e || some_diverges es

  pub matched_diverges : Scrutinee → Bool
  matched_diverges (at_place m p) = false
  matched_diverges (of_value e) = diverges e

  pub all_diverge : Arms → Bool
  all_diverge no_arm = true
  all_diverge (arm_and p e l) = diverges e && all_diverge l

  pub body_diverges : Body → Bool
  body_diverges (ends e) = diverges e
  body_diverges (runs e b) = diverges e || body_diverges b
  body_diverges (declares s xs b) = body_diverges b
  body_diverges (lets s p c b) = matched_diverges c || body_diverges b

abbrev pub any_diverges : List Statement → Bool
any_diverges [] = false
any_diverges (does e ∷ ss) = diverges e || any_diverges ss
any_diverges (begins s xs ∷ ss) = any_diverges ss
any_diverges (binds s p c ∷ ss) = matched_diverges c || any_diverges ss

abbrev pub value_diverges : Option Exp → Bool
value_diverges None = false
value_diverges (Some e) = diverges e

abbrev pub run_diverges : Run → Body → Bool
run_diverges r b = any_diverges (inside r b) || value_diverges (last_value r b)
