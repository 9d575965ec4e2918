-- Two entries of the arena that are to be equal.
use Rattle.std.specs.Prelude.{ℕ, true, false, nat_eq}
use Rattle.rx_typeck_solver.specs.declared.arena.Form.{Form}
use Rattle.rx_typeck_solver.specs.declared.arena.Form.TheVariants as form
use Rattle.rx_typeck_solver.specs.declared.unify.Pair.{Pair}
use Rattle.rx_typeck_solver.specs.declared.unify.Pair.TheVariants as pair
use Rattle.rx_typeck_solver.specs.Facts.{has}
use Rattle.rx_typeck_solver.specs.Solver.{State, Step, No, so, go_if, only, restrict, merge, unify, unify_each}
use Rattle.rx_typeck_solver.specs.Cells.{Cell, one, many}

abbrev pub unify_cells : Cell → Cell → State → Step
unify_cells (one t) (one u) st = unify t u st
unify_cells (many ts) (many us) st = unify_each ts us st
unify_cells _ _ st = No

-- what two forms ask: an answer at once, a step on classes, or that entries below are equal

abbrev pub pair_of : Form → Form → Pair
pair_of (form.Fixed k) (form.Fixed l) = pair.Done (has (only k) l)
pair_of (form.Fixed k) (form.KindOf m) = pair.Restrict m k
pair_of (form.KindOf n) (form.Fixed l) = pair.Restrict n l
pair_of (form.KindOf n) (form.KindOf m) = pair.Merge n m
pair_of form.Boolean form.Boolean = pair.Done true
pair_of (form.Tuple i) (form.Tuple j) = pair.Below i j
pair_of (form.Reference true i) (form.Reference true j) = pair.Below i j
pair_of (form.Reference false i) (form.Reference false j) = pair.Below i j
pair_of (form.Named i) (form.Named j) = pair.Done (nat_eq i j)
pair_of form.Nothing form.Nothing = pair.Done true
pair_of (form.And i k) (form.And j l) = pair.Both i j k l
pair_of _ _ = pair.Done false

abbrev pub pair_step : (ℕ → Cell) → Pair → State → Step
pair_step c (pair.Done b) st = go_if b st
pair_step c (pair.Restrict n k) st = restrict n (only k) st
pair_step c (pair.Merge n m) st = merge n m st
pair_step c (pair.Below i j) st = unify_cells (c i) (c j) st
pair_step c (pair.Both i j k l) st = so (unify_cells (c i) (c j) st) (λ s. unify_cells (c k) (c l) s)
