-- Whether some `break` in an expression leads to a loop. (Rust Reference, "break expressions".)
use Rattle.std.specs.Prelude.{ℕ, ◌==◌, Bool, true, false, not, ◌&&◌, ◌||◌, List, [], ◌∷◌}
use Rattle.rx_typed.specs.Tree.{Exp, read, borrow, share, build, unit, lazily, assign, update, call, input, print, block, choose, loop, jump, give, Operands, no_operand, operand_and, Scrutinee, at_place, of_value, Arms, no_arm, arm_and, Body, ends, runs, declares, lets}
use Rattle.rx_exits_plan.specs.Blocks.{Statement, does, begins, binds}
use Rattle.rx_exits_plan.specs.Diverging.{diverges, matched_diverges}

abbrev mutual
  pub breaks : ℕ → Exp → Bool
  breaks l (read m v p) = false
  breaks l (borrow m k p) = false
  breaks l (share m e) = breaks l e
  breaks l (build m w es) = breaks_in l es
  breaks l (unit m) = false
  breaks l (lazily m b e f) = breaks l e || breaks l f
  breaks l (assign m p e) = breaks l e
  breaks l (update m o p e) = breaks l e
  breaks l (call m f es) = breaks_in l es
  breaks l (input m) = false
  breaks l (print m e) = breaks l e
  breaks l (block m b) = breaks_of l b
  breaks l (choose m s arms) = breaks_matched l s || breaks_armed l arms
  breaks l (loop m k e) = breaks l e
  breaks l (jump m k again) = (k == l) && not again
  breaks l (give m e) = breaks l e

  pub breaks_in : ℕ → Operands → Bool
  breaks_in l no_operand = false
  breaks_in l (operand_and i e es) = breaks l e || breaks_in l es

  pub breaks_matched : ℕ → Scrutinee → Bool
  breaks_matched l (at_place m p) = false
  breaks_matched l (of_value e) = breaks l e

  pub breaks_armed : ℕ → Arms → Bool
  breaks_armed l no_arm = false
  breaks_armed l (arm_and p e arms) = breaks l e || breaks_armed l arms

  pub breaks_of : ℕ → Body → Bool
  breaks_of l (ends e) = breaks l e
  breaks_of l (runs e b) = breaks l e || breaks_of l b
  breaks_of l (declares s xs b) = breaks_of l b
  breaks_of l (lets s p c b) = breaks_matched l c || breaks_of l b

-- ---- statements

abbrev pub breaks_statement : ℕ → Statement → Bool
breaks_statement l (does e) = breaks l e
breaks_statement l (begins s xs) = false
breaks_statement l (binds s p c) = breaks_matched l c

abbrev pub breaks_statements : ℕ → List Statement → Bool
breaks_statements l [] = false
breaks_statements l (s ∷ ss) = breaks_statement l s || breaks_statements l ss

-- ---- statements that never go on

abbrev pub statement_diverges : Statement → Bool
statement_diverges (does e) = diverges e
statement_diverges (begins s xs) = false
statement_diverges (binds s p c) = matched_diverges c

-- ---- the body of a `while`, whose test comes first

abbrev pub is_choose : Exp → Bool
is_choose (choose m s arms) = true
is_choose _ = false

abbrev pub test_diverges : Exp → Bool
test_diverges (choose m s arms) = matched_diverges s
test_diverges _ = false
