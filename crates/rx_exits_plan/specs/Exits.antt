-- The exits of a run: its end, unless it diverges; for each loop around it, the innermost first, a `break` of it and a `continue`; and a
-- `return`. With the jumps that take them, in the order of the text. (Rust Reference, "break expressions", "continue expressions", "return
-- expressions"; REM, OOPSLA 2023, on control flow that leaves the extracted part.)
use Rattle.std.specs.Prelude.{ℕ, Bool, false, ◌||◌, if◌then◌else◌, List, [], ◌∷◌, ◌++◌, Option, Some, None}
use Rattle.rx_typed.specs.Tree.{Exp}
use Rattle.rx_exits_plan.specs.Blocks.{Statement, does, begins, binds, declared_by}
use Rattle.rx_exits_plan.specs.Spots.{Around, with_variables, Spot, a_block, a_jump, a_return, spots, spots_matched}
use Rattle.rx_exits_plan.specs.Runs.{Run, Home, in_front, inside, last_value}
use Rattle.rx_exits_plan.specs.Points.{Exit, next, breaks, continues, returns, same_exit, jump_exit}
use Rattle.rx_exits_plan.specs.Marked.{is_among}
use Rattle.rx_exits_plan.specs.Diverging.{run_diverges}

-- ---- jumps

-- a jump that leaves the run: its exit, its node, and the variables in scope there, the last declared first
pub record Jump : Type 0 where
  pub exit : Exit
  pub node : ℕ
  pub scope : List ℕ

-- those out of these loops, or out of the function
abbrev pub leaving : List ℕ → List Spot → List Jump
leaving ls [] = []
leaving ls (a_block a n b ∷ ss) = leaving ls ss
leaving ls (a_jump a n l again ∷ ss) =
    if is_among l ls then record { exit = jump_exit l again; node = n; scope = a.scope } ∷ leaving ls ss else leaving ls ss
leaving ls (a_return a n ∷ ss) = record { exit = returns; node = n; scope = a.scope } ∷ leaving ls ss

-- what is around the statement behind these
abbrev pub past : List Statement → Around → Around
past [] a = a
past (s ∷ ss) a = past ss (with_variables (declared_by s) a)

abbrev pub spots_in_statements : Around → List Statement → List Spot
spots_in_statements a [] = []
spots_in_statements a (does e ∷ ss) = spots a e ++ spots_in_statements a ss
spots_in_statements a (begins s xs ∷ ss) = spots_in_statements (with_variables xs a) ss
spots_in_statements a (binds s p c ∷ ss) = spots_matched a c ++ spots_in_statements (with_variables (declared_by (binds s p c)) a) ss

abbrev pub spots_in_value : Around → Option Exp → List Spot
spots_in_value a None = []
spots_in_value a (Some e) = spots a e

-- what is around the run's first statement; what is around what follows its last
abbrev pub at_start : Run → Home → Around
at_start r h = past (in_front r h.body) h.around

abbrev pub at_end : Run → Home → Around
at_end r h = past (inside r h.body) (at_start r h)

abbrev pub jumps : Run → Home → List Jump
jumps r h = leaving h.around.loops (spots_in_statements (at_start r h) (inside r h.body) ++ spots_in_value (at_end r h) (last_value r h.body))

-- ---- exits

abbrev pub is_taken : Exit → List Jump → Bool
is_taken x [] = false
is_taken x (j ∷ js) = same_exit x j.exit || is_taken x js

abbrev pub where_taken : Exit → List Jump → List Exit
where_taken x js = if is_taken x js then x ∷ [] else []

abbrev pub of_loops : List ℕ → List Jump → List Exit
of_loops [] js = []
of_loops (l ∷ ls) js = where_taken (breaks l) js ++ (where_taken (continues l) js ++ of_loops ls js)

abbrev pub exits : Run → Home → List Exit
exits r h = (if run_diverges r h.body then [] else next ∷ []) ++ (of_loops h.around.loops (jumps r h) ++ where_taken returns (jumps r h))
