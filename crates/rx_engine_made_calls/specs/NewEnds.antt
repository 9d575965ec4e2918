-- How the new function begins, and what it hands out, by names and by numbers: which variable of the text a name means there, of which type it is, and that
-- the new function has it (REM, "Extract method": inputs, outputs).
use Rattle.std.specs.Prelude.{◌≡◌, ℕ, true, List, [], length, Some}
use Rattle.rx_resolve_names.specs.Scopes.{variable_named}
use Rattle.rx_typed.specs.Tree.{Parameter}
use Rattle.rx_typed.specs.Named.{Exp, Statements}
use Rattle.rx_typed.specs.Elaborated.{Assigned}
use Rattle.rx_hoist_extraction.specs.Plan.{Variable}
use Rattle.rx_typeck_solver.specs.Facts.{Assignment}
use Rattle.rx_engine_names.specs.Renaming.{Renaming as Pairing}
use Rattle.rx_engine_names.specs.Moves.{Moves}
use Rattle.rx_engine_blocks.specs.Renumbering.{Renumbering}
use Rattle.rx_engine_simulation.specs.Sights.{special, sight, In, Renaming, sight_of}
use Rattle.rx_engine_simulation.specs.Packing.{AreNew, Way}
use Rattle.rx_engine_related.specs.Leaving.{HaveThere}
use Rattle.rx_engine_made_trees.specs.Giving.{GivesThem}
use Rattle.rx_engine_made_trees.specs.Entering.{declared_in}
use Rattle.rx_engine_made_trees.specs.Seen.{variables_of, SameLength}
use Rattle.rx_engine_made_trees.specs.Statements.{BeginsWith}
use Rattle.rx_engine_made_calls.specs.Plans.{HasType}

-- ---- how it begins

-- with parameters and locals that are numbered in turn, in front of these statements
pub record BeginsSo (params locals_asked : List ℕ) (ps : List Parameter) (rest all : Statements) : Type 0 where
  pub locals : List (ℕ × ℕ)
  pub begins : BeginsWith locals rest all
  pub params_new : AreNew [] (variables_of ps)
  pub locals_new : AreNew [] (declared_in locals)
  pub variables_apart : (z : ℕ) → In z (declared_in locals) → In z (variables_of ps) → ⊥
  pub params_as_many : length params ≡ length ps
  pub locals_as_many : SameLength locals_asked (declared_in locals)

-- ---- what it hands out

-- a variable that an exit hands out, where it is left
pub record OutThere (V : Moves) (N : Pairing) (q : Renumbering) (W : Assignment) (R : Renaming) (v : Variable) (x : ℕ) : Type 0 where
  pub named : variable_named V.scope v.name ≡ Some x
  pub typed : HasType N q W x v.typ
  pub there : (y : ℕ) → N.variable x y ≡ true → sight_of R x ≡ Some (sight y special)

-- an expression gives what is handed out there, in a way
pub record EndGives (S : Assigned) (R : Renaming) (w : Way) (xs : List ℕ) (e : Exp) : Type 0 where
  pub numbers : List ℕ
  pub have : HaveThere R xs numbers
  pub gives : GivesThem S w numbers e
