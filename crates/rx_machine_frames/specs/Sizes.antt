-- How much is left to do before the next turn: a number that each step makes smaller.
use Rattle.std.specs.Prelude.{ℕ, ◌+◌, List, [], ◌∷◌}
use Rattle.rx_typed.specs.Tree.{Exp, read, borrow, share, build, unit, lazily, assign, update, call, input, print, block, choose, loop, jump, give, Operands, no_operand, operand_and, Scrutinee, at_place, of_value, Arms, no_arm, arm_and, Body, ends, runs, declares, lets}
use Rattle.rx_machine_frames.specs.Frames.{Hole, operand, shares, first_of, second_of, assigns, updates, prints, gives_back, scrutinee, statement, initialiser, Next, goes_into, part, gives, performs, finishes, runs_body, tries, binds, begins, loops, leaves, decides, modifies, Around, hole, pass, call_from}
use Rattle.rx_machine_frames.specs.Stepping.{Config}

unfoldable mutual
  pub size : Exp → ℕ
  size (read m v p) = 2
  size (build m w es) = size_operands es
  size (unit m) = 1
  size (block m b) = 1 + size_body b
  size (borrow m k p) = 2
  size (share m e) = 3 + size e
  size (lazily m b e f) = 5 + size f + size e
  size (assign m p e) = 3 + size e
  size (update m o p e) = 4 + size e
  size (call m f es) = size_operands es
  size (input m) = 2
  size (print m e) = 3 + size e
  size (loop m l e) = 0
  size (jump m l k) = 1
  size (choose m c l) = size_scrutinee c + size_arms l
  size (give m e) = 2 + size e

  pub size_operands : Operands → ℕ
  size_operands no_operand = 2
  size_operands (operand_and i e es) = 1 + size_operands es + size e

  pub size_scrutinee : Scrutinee → ℕ
  size_scrutinee (at_place m p) = 1
  size_scrutinee (of_value e) = 2 + size e

  pub size_arms : Arms → ℕ
  size_arms no_arm = 0
  size_arms (arm_and p e rest) = 1 + size e + size_arms rest

  pub size_body : Body → ℕ
  size_body (ends e) = 1 + size e
  size_body (runs e rest) = 2 + size_body rest + size e
  size_body (declares i xs rest) = 2 + size_body rest
  size_body (lets i p c rest) = 1 + size_body rest + size_scrutinee c

unfoldable pub hole_size : Hole → ℕ
hole_size (operand w vs es) = size_operands es
hole_size shares = 2
hole_size (first_of b f) = 4 + size f
hole_size second_of = 2
hole_size (assigns p) = 2
hole_size (updates o p) = 3
hole_size prints = 2
hole_size (gives_back n) = 1
hole_size (scrutinee S l) = 1 + size_arms l
hole_size (statement b) = 1 + size_body b
hole_size (initialiser S p b) = 2 + size_body b

unfoldable pub next_size : Next → ℕ
next_size (goes_into e) = 1 + size e
next_size (part h e) = 1 + hole_size h + size e
next_size (gives v) = 1
next_size (performs a vs) = 2
next_size (finishes w vs) = 2
next_size (runs_body b) = 1 + size_body b
next_size (tries S vs l) = 1 + size_arms l
next_size (binds S vs p b) = 2 + size_body b
next_size (begins xs b) = 2 + size_body b
next_size (loops m l e) = 0
next_size (leaves x v) = 1
next_size (decides b v f) = 4 + size f
next_size (modifies o p v) = 3

abbrev pub around_size : Around → ℕ
around_size (hole h) = hole_size h
around_size (pass m l e) = 1
around_size (call_from F) = 1

abbrev pub sizes : List Around → ℕ
sizes [] = 0
sizes (a ∷ K) = around_size a + sizes K

abbrev pub config_size : Config → ℕ
config_size c = sizes c.around + next_size c.next
