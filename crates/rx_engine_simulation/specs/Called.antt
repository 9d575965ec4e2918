-- An expression of the text became the call of a new function, whose body gives it (REM, "Extract method"; Rust Reference, "Call
-- expressions"), without a jump out of it; or statements did.
use Rattle.std.specs.Prelude.{◌≡◌, ℕ, Bool, List, [], Some}
use Rattle.rx_typed.specs.Tree as tree
use Rattle.rx_typed.specs.Tree.{Mark, Exp, Operands, Temporary}
use Rattle.rx_lower_walks.specs.Orders.{order}
use Rattle.rx_meaning.specs.Values.{element}
use Rattle.rx_meaning.specs.Programs.{Program}
use Rattle.rx_engine_simulation.specs.Turns.{Allowance}
use Rattle.rx_engine_simulation.specs.Histories.{Facts}
use Rattle.rx_engine_simulation.specs.Sights.{In, Renaming}
use Rattle.rx_engine_simulation.specs.Jumps.{Jumping}
use Rattle.rx_engine_simulation.specs.Openings.{Openings, no_openings}
use Rattle.rx_engine_simulation.specs.Like.{LikeExp}
use Rattle.rx_engine_simulation.specs.Passing.{New, AreShut, Passing, Absents, inner_jumps, Covers}
use Rattle.rx_engine_simulation.specs.Statements.{StatementsBecomeCall, Elsewhere}
use Rattle.rx_engine_simulation.specs.Units.{UnitFunctions}
use Rattle.rx_engine_simulation.specs.Programs.{LikePrograms}

-- the body of the new function
abbrev pub body_giving : Mark → Mark → Exp → Exp
body_giving mb mg e = tree.block mb (tree.ends (tree.give mg e))

-- the call takes one turn
pub data BecomesCall (items : ℕ → ℕ) (gain : Allowance) (N : New) (V : Facts) : ℕ → Jumping → Renaming → (Exp → Exp) → (Exp → Exp) → Type 0 where
  becomes_call : {J : Jumping} {R : Renaming} {e e' : Exp} {es : Operands} {mc mb mg : Mark} (cold : List ℕ) (Rp Ra : Renaming) → N.function.body ≡ body_giving mb mg e' → Elsewhere V R Ra e
      → AreShut R cold
      → ((t : Temporary) → Passing gain.strays V R (order e t) (λ x. In x cold) [] es N.function.params Rp) → Absents Rp Ra → Covers R Ra
      → LikeExp items no_openings gain V 0 inner_jumps Ra e e' → BecomesCall items gain N V 1 J R (λ f. e) (λ f. tree.call mc N.number es)

abbrev pub calls_of : (ℕ → ℕ) → Allowance → List ℕ → New → Openings
calls_of items gain U N = record { expression = λ V a J R e f g. BecomesCall items gain N V a J R f g; statements = λ V a J R S b f g. StatementsBecomeCall items gain U N V a J R S b f g }

abbrev pub a_turn : Bool → Allowance
a_turn strays = record { turns = 1; strays = strays }

-- the answer is the text, with such calls: at most one in each activation outside of loops, and in each pass
pub record WithCall (P Q : Program) (N : New) : Type 0 where
  pub items : ℕ → ℕ
  -- functions of the text that give the unit
  pub units : List ℕ
  pub are_units : UnitFunctions P.functions units
  -- whether a reference is asked for again
  pub strays : Bool
  pub alike : LikePrograms items (calls_of items (a_turn strays) units N) (a_turn strays) P Q
  pub stands : element Q.functions N.number ≡ Some (Some N.function)
