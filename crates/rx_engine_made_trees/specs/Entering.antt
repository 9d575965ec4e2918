-- How the new function begins: with its params, and variables without a value for the run's locals (REM, "Extract method").
use Rattle.std.specs.Prelude.{◌≡◌, ℕ, Bool, List, [], ◌∷◌, length, ◌⊎◌, Some}
use Rattle.rx_typed.specs.Tree.{Operands, Parameter}
use Rattle.rx_typed.specs.Named.{Exps}
use Rattle.rx_typed.specs.Elaborated.{Assigned}
use Rattle.rx_exits_plan.specs.Plan.{Plan}
use Rattle.rx_modes_policy.specs.declared.uses.Mode.{Mode}
use Rattle.rx_engine_simulation.specs.Sights.{In, How, special, sight, Renaming, sight_of}
use Rattle.rx_engine_simulation.specs.Passing.{AreShut}
use Rattle.rx_engine_simulation.specs.Arrivals.{Within}
use Rattle.rx_engine_simulation.specs.Packing.{AreNew}
use Rattle.rx_engine_simulation.specs.Variants.{AllSpecial}
use Rattle.rx_engine_related.specs.Given.{EntersWith}
use Rattle.rx_engine_made_trees.specs.Seen.{AreUnseen, SameLength, seen_so, specials, variables_of}
use Rattle.rx_engine_made_trees.specs.Arguments.{ArgumentsFor}

abbrev pub declared_in : List (ℕ × ℕ) → List ℕ
declared_in [] = []
declared_in (l ∷ ls) = l.1 ∷ declared_in ls

-- the new function has these variables of the text, its params and locals
abbrev pub entered_with : List ℕ → List How → List ℕ → List ℕ → List ℕ → Renaming
entered_with params hs ps locals ls = seen_so (seen_so [] params hs ps) locals (specials locals) ls

-- What is asked of names and types where the call stands, with the variables outside, `R`; `hs` is how the new function has its params.
pub record EnteringNames (T : Assigned) (again : Bool) (R : Renaming) (cold : List ℕ) (k : Plan) (modes : List Mode) (es : Exps) (hs : List How) (ps : List Parameter) (ls : List (ℕ × ℕ)) : Type 0 where
  -- what is only looked at or copied isn't written meanwhile: the uses of params tell it (rx_modes_uses), and the renaming is chosen so where they begin
  pub shut : AreShut R cold
  -- forms of the arguments by the call's tree (rx_engine_changed), types by what fits (rx_engine_holes)
  pub arguments : ArgumentsFor T again R cold k.params modes es hs
  -- params and locals are listed once (rx_exits_plan)
  pub params_distinct : AreUnseen [] k.params
  pub locals_distinct : AreUnseen [] k.locals
  pub apart : (x : ℕ) → In x k.locals → In x k.params → ⊥
  -- of the variables of the new function, which are numbered in turn
  pub params_new : AreNew [] (variables_of ps)
  pub locals_new : AreNew [] (declared_in ls)
  pub variables_apart : (z : ℕ) → In z (declared_in ls) → In z (variables_of ps) → ⊥
  pub params_as_many : length k.params ≡ length ps
  pub locals_as_many : SameLength k.locals (declared_in ls)
  -- what is elsewhere moves, or is a local
  pub locals_special : AllSpecial R k.locals
  pub specials_enter : (x y : ℕ) → sight_of R x ≡ Some (sight y special) → In x k.params ⊎ In x k.locals

pub record Entered (again : Bool) (R : Renaming) (k : Plan) (modes : List Mode) (es : Operands) (hs : List How) (ps : List Parameter) (ls : List (ℕ × ℕ)) (inside : Renaming) : Type 0 where
  pub enters : EntersWith again k modes R es ps ls inside
  pub has : Within (entered_with k.params hs (variables_of ps) k.locals (declared_in ls)) inside
